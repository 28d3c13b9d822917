-- The numbers that verdict and inverse give back, in their order, with their two values.
use mathlib.Core.Path.{◌≡◌, refl, sym, subst}
use mathlib.Core.Logic.{◌≢◌, ◌⊎◌, inl, inr, ⊎_elim}
use mathlib.Core.List.{List}
use Prim.Native.Nat.{ℕ, ◌*◌}
use native.Mathlib.Omega.{arith}
use native.Mathlib.Decide.{ℕ_discrete}
use lib.IntN.{ℤ}
use lib.ListN.{length}
use Rattle.numbers.specs.Limits.{IsNarrow, Lawful, table_refusals}
use Rattle.numbers.specs.Numbers.{IsNeed, IsLifts}
use Rattle.numbers.specs.Refusals.{Refusals, done, ◌when◌then◌, ◌thereafter◌, Gives, Lowest}
use Rattle.numbers.proofs.Answers.Decisions.{stable}
use Rattle.numbers.proofs.Answers.Refusals.{Passes, passes_on, refused_stays, from_second, learnt, gives_lowest}
use Rattle.numbers.proofs.Answers.Tables.{lawful_passes, passes_lawful, fit, same_head}
use Rattle.tables.specs.Tables.{entries, height, HasWholeInverse}
use Rattle.tables.proofs.Inverses.TwoSided.{inverse_unique}
use Rattle.verdict.specs.Verdict.{TooWide, IsNarrowInverse, answer, outcome_of, Told, after_0, after_7, after_8, Values, verdict_numbers, verdict_refusals, VerdictGives, inverse_refusals, InverseGives}
use Rattle.tables.proofs.Inverses.Laws.{whole_mod}
use Rattle.verdict.specs.Parts.{FindingTells, Leaves, NoneNarrow}
use Rattle.verdict.specs.declared.Finding.{Finding}
use Rattle.verdict.specs.declared.Finding.TheVariants.{NoneModulo2, NoneWhole}
use Rattle.verdict.specs.declared.Ruling.{Ruling}
use Rattle.verdict.specs.declared.Ruling.TheVariants.{Yes, No, Refused}
use Rattle.verdict.specs.declared.Outcome.{Outcome}

-- document 01: the lowest number that applies is given
pub verdict_lowest : {n : ℕ} {A : List ℤ} {o : Outcome} → VerdictGives n A o → Lowest (verdict_refusals n A) o.number
verdict_lowest {n} {A} p = gives_lowest 0 (verdict_refusals n A) (omega arith) p.number

pub inverse_lowest : {n : ℕ} {A L : List ℤ} {o : Outcome} {E : List ℤ} → InverseGives n A L o E → Lowest (inverse_refusals n A L) o.number
inverse_lowest {n} {A} {L} p = gives_lowest 0 (inverse_refusals n A L) (omega arith) p.number

-- ---- the two values

-- a number that tells no values
pub untold : (k : ℕ) → k ≢ 0 → k ≢ 7 → k ≢ 8 → ¬ Told k
untold k a b c t = go t refl
  where
    go : {j : ℕ} → Told j → ¬ (j ≡ k)
    go after_0 e = a (sym e)
    go after_7 e = b (sym e)
    go after_8 e = c (sym e)

told_values : {n : ℕ} {A : List ℤ} {k e l : ℕ} → Told k → IsNeed n (height A) e → IsLifts n l → Values n A (answer k e l)
told_values t p q = record { told = λ u. (p, q); zeros = λ f. absurd (f t) }

-- need(A) is not 0, so two zeros tell nothing
pub zeros_untold : {n : ℕ} {A : List ℤ} {k : ℕ} → Values n A (answer k 0 0) → ¬ Told k
zeros_untold v t = let h = (v.told t).0.holds.from in omega arith

-- ---- what verdict's work leaves for inverse

pub leaves_none : {n X k e l : ℕ} {A M : List ℤ} → k ≢ 0 → Leaves n X A M (answer k e l)
leaves_none f = record { stage = λ z. absurd (f z) }

-- need(A), from the height that the code found
pub need_of_top : {n h e : ℕ} (A : List ℤ) → h ≡ height A → IsNeed n h e → IsNeed n (height A) e
need_of_top {n} {e = e} A t k = subst (λ (h : ℕ). IsNeed n h e) t k

-- two findings tell a no
pub found_none : {n : ℕ} (X : ℕ) (A M : List ℤ) {f : Finding} → (f ≡ NoneModulo2) ⊎ (f ≡ NoneWhole) → FindingTells n X A M f → ¬ HasWholeInverse n (entries n A)
found_none {n} X A M (inl e) t w = (subst (FindingTells n X A M) e t) (whole_mod w 2)
found_none {n} X A M (inr e) t w = (subst (FindingTells n X A M) e t).1 w

-- what is no yes has a number
pub not_yes : {n : ℕ} {A : List ℤ} (r : Ruling) → VerdictGives n A (outcome_of r) → ((e l : ℕ) → ¬ (r ≡ Yes e l)) → (outcome_of r).number ≢ 0
not_yes (Yes e l) v f z = f e l refl
not_yes (No e l) v f z = omega arith
not_yes (Refused k) v f z = zeros_untold v.values (subst Told (sym z) after_0)

-- ---- the lists: what follows their head

abbrev pub none_whole : ℕ → List ℤ → Refusals
none_whole n A = 7 when ¬ HasWholeInverse n (entries n A) then done

abbrev pub too_wide_refusals : ℕ → List ℤ → Refusals
too_wide_refusals n A = 8 when TooWide n (entries n A) then done

-- ---- verdict

module _ {n : ℕ} {A : List ℤ} (law : Lawful n A) {e l : ℕ} (need : IsNeed n (height A) e) (depth : IsLifts n l) where
  verdict_number : {k : ℕ} → Gives (none_whole n A) k → Gives (verdict_refusals n A) k
  verdict_number {k} g = passes_on (table_refusals n (length A ≢ n * n) A) (none_whole n A) k (lawful_passes (length A ≢ n * n) law (λ f. f law.size)) g

  pub verdict_yes : HasWholeInverse n (entries n A) → VerdictGives n A (answer 0 e l)
  verdict_yes w = record { number = verdict_number (inr (λ f. f w, refl)); values = told_values after_0 need depth; whole = λ z. w }

  pub verdict_no : ¬ HasWholeInverse n (entries n A) → VerdictGives n A (answer 7 e l)
  verdict_no f = record { number = verdict_number (inl (f, refl)); values = told_values after_7 need depth; whole = λ z. absurd (omega arith) }

  -- ---- inverse, of a lawful table and a buffer of n² numbers

  inverse_number : (L : List ℤ) {k : ℕ} → length L ≡ n * n → Gives (none_whole n A thereafter too_wide_refusals n A) k → Gives (inverse_refusals n A L) k
  inverse_number L {k} size g =
      let P : Type 0 = (length A ≢ n * n) ⊎ (length L ≢ n * n) in
      passes_on (table_refusals n P A) (none_whole n A thereafter too_wide_refusals n A) k (lawful_passes P law (fit law.size size)) g

  module _ {L : List ℤ} (size : length L ≡ n * n) where
    pub inverse_none : ¬ HasWholeInverse n (entries n A) → InverseGives n A L (answer 7 e l) L
    inverse_none f = record { number = inverse_number L size (inl (f, refl)); values = told_values after_7 need depth; kept = λ z. refl; written = λ z. absurd (omega arith) }

    pub inverse_wide : TooWide n (entries n A) → InverseGives n A L (answer 8 e l) L
    inverse_wide t = record {
      number = inverse_number L size (inr (λ f. f (record { inverse = t.inverse; right = t.right }), inl (t, refl)));
      values = told_values after_8 need depth;
      kept = λ z. refl;
      written = λ z. absurd (omega arith);
    }

    -- a whole inverse is the only one, so where one is narrow none is too wide
    pub inverse_done : {E : List ℤ} → IsNarrowInverse n (entries n A) E → InverseGives n A L (answer 0 e l) E
    inverse_done {E} w = record {
      number = inverse_number L size (inr (λ f. f (record { inverse = entries n E; right = w.right }), inr (not_wide, refl)));
      values = told_values after_0 need depth;
      kept = λ g. absurd (g refl);
      written = λ g. w;
    }
      where
        not_wide : ¬ TooWide n (entries n A)
        not_wide t =
            t.passes (λ i j a b. subst (λ (z : ℤ). IsNarrow z) (inverse_unique n (entries n A) (entries n E) t.inverse w.right t.right i j a b) (w.narrow i j a b))

-- ---- inverse from verdict

-- a number that verdict refuses with, inverse refuses with
as_verdict : (n : ℕ) (A L : List ℤ) {k : ℕ} → length L ≡ n * n → k ≢ 0 → Gives (verdict_refusals n A) k → Gives (inverse_refusals n A L) k
as_verdict n A L {k} s z g =
    let P : Type 0 = length A ≢ n * n in
    let Q : Type 0 = (length A ≢ n * n) ⊎ (length L ≢ n * n) in
    refused_stays (verdict_numbers n Q A) (too_wide_refusals n A) z (same_head n P Q A (none_whole n A) k (λ p. inl p, ⊎_elim (λ p. p) (λ f. absurd (f s))) g)

-- a table that is not refused is lawful
lawful : (n : ℕ) (A : List ℤ) → Passes (table_refusals n (length A ≢ n * n) A) → Lawful n A
lawful n A = passes_lawful n (length A ≢ n * n) A (stable (ℕ_discrete (length A) (n * n)))

pub passed : (n : ℕ) (A : List ℤ) → Gives (verdict_refusals n A) 0 → Lawful n A
passed n A g = lawful n A (from_second (table_refusals n (length A ≢ n * n) A) (none_whole n A) 0 tt g).0

pub passed_no : (n : ℕ) (A : List ℤ) → Gives (verdict_refusals n A) 7 → Lawful n A × ¬ HasWholeInverse n (entries n A)
passed_no n A g =
    let p = from_second (table_refusals n (length A ≢ n * n) A) (none_whole n A) 7 tt g in
    (lawful n A p.0, learnt (none_whole n A) 7 tt p.1)

-- what inverse gives after each case of the verdict's answer
pub inverse_as_verdict : {n : ℕ} {A L : List ℤ} {o : Outcome} → length L ≡ n * n → o.number ≢ 0 → VerdictGives n A o → InverseGives n A L o L
inverse_as_verdict {n} {A} {L} s z v = record { number = as_verdict n A L s z v.number; values = v.values; kept = λ f. refl; written = λ e. absurd (z e) }

module _ {n : ℕ} {A : List ℤ} {r : Ruling} (says : VerdictGives n A (outcome_of r)) {L : List ℤ} (size : length L ≡ n * n) where
  pub after_wide : {e l : ℕ} → r ≡ Yes e l → NoneNarrow n A → InverseGives n A L (answer 8 e l) L
  after_wide {e} {l} q f =
      let v : VerdictGives n A (answer 0 e l) = subst (λ (r : Ruling). VerdictGives n A (outcome_of r)) q says in
      let w = v.whole refl in
      let p = v.values.told after_0 in
      inverse_wide (passed n A v.number) p.0 p.1 size (record { inverse = w.inverse; right = w.right; passes = f.none w.inverse w.right })

  pub after_done : {e l : ℕ} {E : List ℤ} → r ≡ Yes e l → IsNarrowInverse n (entries n A) E → InverseGives n A L (answer 0 e l) E
  after_done {e} {l} q w =
      let v : VerdictGives n A (answer 0 e l) = subst (λ (r : Ruling). VerdictGives n A (outcome_of r)) q says in
      let p = v.values.told after_0 in
      inverse_done (passed n A v.number) p.0 p.1 size w
