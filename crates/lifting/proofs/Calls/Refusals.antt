-- The numbers that lift gives back, in their order.
use mathlib.Core.Path.{◌≡◌, refl, ap, subst, ◌∙◌}
use mathlib.Core.Logic.{◌⊎◌, inl, inr, ⊎_elim}
use mathlib.Core.List.{List}
use Prim.Native.Nat.{ℕ, ◌+◌, ◌*◌, ◌^◌, ◌≤◌, ◌<◌}
use native.Mathlib.Nat.{le_trans}
use lib.Pow.{pow_mono}
use native.Mathlib.Decide.{dec_le}
use native.Mathlib.Omega.{arith}
use lib.IntN.{ℤ}
use lib.ListN.{length}
use Rattle.numbers.specs.Limits.{Lawful}
use Rattle.numbers.specs.Reasons.{refusal_number}
use Rattle.numbers.specs.declared.refusals.Refusal.{Refusal}
use Rattle.numbers.proofs.Answers.Reasons.{refusal_some}
use Rattle.numbers.specs.Refusals.{Refusals, done, ◌when◌then◌, Lowest}
use Rattle.numbers.proofs.Answers.Refusals.{Passes, passes_on, refused_stays, gives_lowest, learnt}
use Rattle.numbers.proofs.Answers.Tables.{fit}
use Rattle.numbers.proofs.Counting.Search.{need, need_is}
use Rattle.tables.specs.Tables.{height, entries, HasInverseMod}
use Rattle.tables.proofs.Checking.Heights.{height_one, legal_height}
use Rattle.lifting.specs.Lifting.{IsExpansion, BelowNeed, input_refusals, lift_refusals, LiftGives}
use Rattle.numbers.specs.Numbers.{Enough, IsNeed}
use Rattle.lifting.specs.Steps.{Ready, Early}
use Rattle.lifting.proofs.Expansions.Powers.{expansion_base}

-- document 01: the lowest number that applies is given
pub lift_lowest : {n s e : ℕ} {A L : List ℤ} {k : ℕ} {E : List ℤ} → LiftGives n s e A L k E → Lowest (lift_refusals n s e A L) k
lift_lowest {n} {s} {e} {A} {L} p = gives_lowest 0 (lift_refusals n s e A L) (omega arith) p.number

-- what lift may refuse after its input
abbrev last : ℕ → List ℤ → Refusals
last n A = 6 when ¬ HasInverseMod n 2 (entries n A) then done

-- ---- from the checks

enough_more : {n h m e : ℕ} → Enough n h m → m ≤ e → Enough n h e
enough_more {m = m} {e = e} k l = record { from = omega (arith, k.from); reaches = le_trans k.reaches (pow_mono {i = m} {j = e} l) }

few : {s : ℕ} → s ≤ 4 → ¬ (4 < s)
few h l = omega arith

-- what `need` asks
pub need_asks : {n h : ℕ} {A : List ℤ} → Lawful n A → h ≡ height A → (1 ≤ n) × ((n ≤ 32) × ((1 ≤ h) × (h ≤ 2 ^ 20)))
need_asks {A = A} law t = (law.order.from, (law.order.upto, (omega (arith, t, height_one A), omega (arith, t, legal_height A law.legal))))

pub early_0 : {n s e size c h m : ℕ} {A : List ℤ} → Lawful n A → s ≤ 4 → c ≡ n * n → size ≡ (2 * s + 2) * c → h ≡ height A → IsNeed n h m → m ≤ e → e ≤ 32 → Early n s e A size 0
early_0 {n} {s = s} {m = m} law l q room t k f top = record {
  ready = λ z. record {
    lawful = law;
    lifts = l;
    enough = enough_more (subst (λ (h : ℕ). IsNeed n h m) t k).holds f;
    top = top;
    room = room ∙ ap (λ (c : ℕ). (2 * s + 2) * c) q;
  };
  refused = λ z. absurd (z refl);
}

pub lift_refused : {n s e : ℕ} {A L : List ℤ} (r : Refusal) → Early n s e A (length L) (refusal_number r) → LiftGives n s e A L (refusal_number r) L
lift_refused {n} {s} {e} {A} {L} r p =
    let f = refusal_some r in
    record { number = refused_stays (input_refusals n s e A L) (last n A) f (p.refused f L refl); kept = λ h. refl; written = λ z. absurd (f z) }

-- ---- from the lifting

-- no number from 1 to 5 applies
pub ready_passes : {n s e : ℕ} {A : List ℤ} (L : List ℤ) → Ready n s e A (length L) → Passes (input_refusals n s e A L)
ready_passes {n} {s} {e} {A} L r =
    (λ f. f r.lawful.order, (few r.lifts, (fit r.lawful.size r.room, (λ f. f r.lawful.legal, (⊎_elim below high, tt)))))
  where
    below : ¬ BelowNeed n (height A) e
    below f = let h = f.is_need.least e r.enough in let g = f.below in omega arith

    high : ¬ (32 < e)
    high f = let h = r.top in omega arith

module _ {n s e : ℕ} {A L : List ℤ} (r : Ready n s e A (length L)) where
  pub lift_even : ¬ HasInverseMod n 2 (entries n A) → LiftGives n s e A L 6 L
  lift_even f = record { number = passes_on (input_refusals n s e A L) (last n A) 6 (ready_passes L r) (inl (f, refl)); kept = λ z. refl; written = λ z. absurd (omega arith) }

  pub lift_done : (E : List ℤ) → IsExpansion n (2 ^ e) s (entries n A) E → LiftGives n s e A L 0 E
  lift_done E x = record {
    number = passes_on (input_refusals n s e A L) (last n A) 0 (ready_passes L r) (inr (λ f. f (expansion_base 2 (let h = r.enough.from in omega arith) x), refl));
    kept = λ f. absurd (f refl);
    written = λ z. x;
  }

-- an exponent that is not refused is enough
pub enough_of : {n h e : ℕ} → ¬ (BelowNeed n h e ⊎ (32 < e)) → Enough n h e
enough_of {n} {h} {e} f =
    let k = need_is n h in
    elim (dec_le (need n h) e) [
      | yes l ↦ enough_more k.holds l
      | no g ↦ absurd (f (inl (record { need = need n h; is_need = k; below = omega arith })))
    ]

-- after 0 the exponent was enough
pub lift_enough : {n s e : ℕ} {A L E : List ℤ} → LiftGives n s e A L 0 E → Enough n (height A) e
lift_enough {n} {s} {e} {A} {L} p = enough_of (learnt (lift_refusals n s e A L) 0 tt p.number).1.1.1.1.0
