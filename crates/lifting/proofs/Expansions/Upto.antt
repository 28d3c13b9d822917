-- An expansion in the making: the blocks of t steps, at the beginning of a list.
use mathlib.Core.List.{List}
use mathlib.Core.Logic.{⊎_elim}
use Prim.Native.Nat.{ℕ, suc, ◌+◌, ◌*◌, ◌<◌}
use native.Mathlib.Nat.{not-suc-le-zero, le_of_suc-le-suc, eq-or-lt_of_le}
use native.Mathlib.Omega.{arith}
use lib.IntN.{ℤ}
use Rattle.tables.specs.Tables.{Matrix, ◌≈⟨◌⟩◌, block}
use Rattle.lifting.specs.Lifting.{IsStart, IsStep, Upto}
use Rattle.lifting.proofs.Expansions.Rules.{start_resp, step_resp}

module _ {n X : ℕ} {A : Matrix} {L : List ℤ} where
  pub upto_first : IsStart n X A (block n L 0) (block n L 1) → Upto n X 0 A L
  upto_first s = record { start = s; step = λ u l. absurd (not-suc-le-zero l) }

  pub upto_more : {t : ℕ} → Upto n X t A L → IsStep n X A (block n L 0) (block n L (2 * t + 1)) (block n L (2 * t + 2)) (block n L (2 * t + 3)) → Upto n X (suc t) A L
  upto_more p s = record {
    start = p.start;
    step = λ u l. ⊎_elim (λ e. rw e s) (λ h. p.step u h) (eq-or-lt_of_le (le_of_suc-le-suc l));
  }

  -- a list with the same blocks so far
  pub upto_resp : {t : ℕ} {K : List ℤ} → Upto n X t A L → ((b : ℕ) → b < 2 * t + 2 → block n L b ≈⟨ n ⟩ block n K b) → Upto n X t A K
  upto_resp p e = record {
    start = start_resp p.start (e 0 (omega arith)) (e 1 (omega arith));
    step = λ u l. step_resp (p.step u l) (e 0 (omega arith)) (e (2 * u + 1) (omega arith)) (e (2 * u + 2) (omega arith)) (e (2 * u + 3) (omega arith));
  }
