-- What lift's last steps need, each as a law whose arguments the goal shows.
use mathlib.Core.Path.{◌≡◌, sym, subst, ◌∙◌}
use mathlib.Core.List.{List}
use Prim.Native.Nat.{ℕ, ◌+◌, ◌*◌, ◌^◌, ◌≤◌, ◌<◌}
use native.Mathlib.Nat.{mul-le-mul_right}
use native.Mathlib.Numerals.{add-one}
use native.Mathlib.Omega.{arith}
use lib.IntN.{ℤ}
use lib.ListN.{length}
use Rattle.tables.specs.Tables.{Matrix, ◌≈⟨◌⟩◌, entries, block, HasInverseMod}
use Rattle.tables.specs.Buffer.{Has}
use Rattle.tables.proofs.Algebra.Matrix.{≈-refl, ≈-sym}
use Rattle.lifting.specs.Lifting.{Upto, LiftGives}
use Rattle.lifting.specs.Steps.{Setting, Ready, ToStart, ToStep, Stepped}
use Rattle.lifting.proofs.Expansions.Rules.{step_resp}
use Rattle.lifting.proofs.Expansions.Upto.{upto_more, upto_resp}
use Rattle.lifting.proofs.Calls.Refusals.{lift_done}
use Rattle.lifting.proofs.Calls.Holding.{setting, holds_upto, holds_stage, holds_low}

-- ---- the answers

module _ {n s e : ℕ} {A L : List ℤ} (r : Ready n s e A (length L)) where
  pub gives_done : {E : List ℤ} (t : ℕ) → t ≤ s → s ≤ t → length E ≡ length L → Upto n (2 ^ e) t (entries n A) E → LiftGives n s e A L 0 E
  gives_done {E} t a b z u =
      let q : t ≡ s = omega arith in
      lift_done r E (record { size = z ∙ r.room; blocks = subst (λ (m : ℕ). Upto n (2 ^ e) m (entries n A) E) q u })

-- ---- a step in the caller's buffer

module _ {n s e : ℕ} {A : List ℤ} {size : ℕ} (r : Ready n s e A size) where
  pub in_setting : Setting n (2 ^ e) A
  in_setting = setting r.lawful r.enough r.top

  has : (L : List ℤ) → length L ≡ size → (b : ℕ) → b + 1 ≤ 2 * s + 2 → Has n L b
  has L z b h = omega (arith, mul-le-mul_right (n * n) h, r.room)

  pub start_asks : {L : List ℤ} → length L ≡ size → HasInverseMod n 2 (entries n A) → ToStart n 2 A L
  start_asks {L} z odd = record { work = has L z 1 (omega arith); invertible = odd }

  pub step_asks : {L : List ℤ} (t : ℕ) → t < s → length L ≡ size → Upto n (2 ^ e) t (entries n A) L → ToStep n (2 ^ e) A L (2 * t + 1) (2 * t + 2) (2 * t + 3)
  step_asks {L} t l z p = record {
    stage = holds_stage in_setting (holds_upto p);
    here = has L z (2 * t + 1) (omega arith);
    low = holds_low in_setting (holds_upto p);
    digit = has L z (2 * t + 2) (omega arith);
    next = has L z (2 * t + 3) (omega arith);
    r_m = λ y. omega arith;
    r_s = λ y. omega arith;
    m_s = λ y. omega arith;
    base_m = λ y. omega arith;
    base_s = λ y. omega arith;
  }

pub step_more : {n X : ℕ} {A : Matrix} {L E : List ℤ} (t : ℕ) → Upto n X t A L → Stepped n X A L E (2 * t + 1) (2 * t + 2) (2 * t + 3) → Upto n X (t + 1) A E
step_more {n} {X} {A} {L} {E} t p d =
    subst (λ (m : ℕ). Upto n X m A E) (sym (add-one t))
    (upto_more (upto_resp p kept) (step_resp d.step (kept 0 (omega arith)) (kept (2 * t + 1) (omega arith)) (≈-refl n (block n E (2 * t + 2))) (≈-refl n (block n E (2 * t + 3)))))
  where
    kept : (b : ℕ) → b < 2 * t + 2 → block n L b ≈⟨ n ⟩ block n E b
    kept b l = ≈-sym (d.rest b (λ y. omega arith) (λ y. omega arith))
