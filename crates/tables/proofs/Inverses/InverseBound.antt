-- A whole inverse is small: where A·B = I at order n, and A's entries have magnitude at most h, B's have at most (n * h) ^ (n - 1).
-- No determinant is used. By Siegel's lemma there is, for each row j, a small row u, not all 0, such that u·A is 0 but for its
-- entry j, which is some t. Then u = u·A·B is t times row j of B, so t is not 0, and row j of B is no larger than u.
use mathlib.Core.Path.{◌≡◌, ap, ◌∙◌}
use mathlib.Core.Logic.{◌≢◌}
use Prim.Native.Nat.{ℕ, zero, suc, ◌≤◌, ◌<◌, ◌-◌, ◌*◌, ◌^◌}
use native.Mathlib.Nat.{not-suc-le-zero, mul-pos}
use native.Mathlib.Numerals.{sub-one}
use native.Mathlib.Omega.{arith}
use lib.IntN.{pos, nat_abs, ◌*ℤ◌, zero-*ℤ}
use Rattle.numbers.proofs.Algebra.IntOrder.{multiple_le}
use Rattle.numbers.proofs.Algebra.RingSolver.{#◌, ⊝◌}
use Rattle.numbers.proofs.Algebra.Sum.{sum_single, δ}
use Rattle.numbers.proofs.Counting.Pigeonhole.{skip, rank, skip_rank, skip_below, rank_below}
use Rattle.tables.specs.Tables.{Matrix, Below, ◌≈⟨◌⟩◌, ◌·⟨◌⟩◌}
use Rattle.tables.proofs.Algebra.MatrixSolver.{matrix, given◌is◌by◌and◌then◌, 𝟙, ◌·ᵉ◌, ◌⊙ᵉ◌, ◌≑◌}
use Rattle.tables.proofs.Inverses.Siegel.{Solution, total_le, siegel, few_values}

module _ (m h : ℕ) (pos-h : 0 < h) (A B : Matrix) (A-le : Below (suc m) (λ i j. nat_abs (A i j) ≤ h)) (inverse : A ·⟨ suc m ⟩ B ≈⟨ suc m ⟩ δ) where
  -- for each j, a row that solves every column of A but j
  rows : (j : ℕ) → Solution (suc m) m ((suc m * h) ^ m) (λ i c. A i (skip j c))
  rows j =
      siegel (suc m) m (suc m * h) ((suc m * h) ^ m) (λ i c. A i (skip j c)) (λ c hc. total_le (suc m) h _ (λ i hi. A-le i (skip j c) hi (skip_below j c m hc)))
      (few_values (suc m * h) m (mul-pos (omega arith) pos-h))

  -- these rows, and their product with A, which is 0 but for the diagonal
  U : Matrix
  U j = (rows j).unknown

  T : Matrix
  T = U ·⟨ suc m ⟩ A

  module _ (j : ℕ) (hj : j < suc m) where
    T_other : (c : ℕ) → c < suc m → c ≢ j → T j c ≡ pos 0
    unfolding T U
    T_other c hc ne = rw skip_rank at ((rows j).solves (rank j c) (rank_below j c m hj hc ne))

    U_is : (k : ℕ) → k < suc m → U j k ≡ T j j *ℤ B j k
    unfolding T
    U_is k hk =
        matrix (suc m) 0 3 (λ U A B. given A ·ᵉ B is 𝟙 by (⊝ # 1) ⊙ᵉ U and 𝟙 then U ≑ (U ·ᵉ A) ·ᵉ B) tt U A B inverse j k hj hk
        ∙ sum_single (suc m) j _ hj (λ c l ne. ap (λ z. z *ℤ B c k) (T_other c l ne) ∙ zero-*ℤ (B c k))

    T_nonzero : T j j ≢ pos 0
    unfolding U
    T_nonzero e = (rows j).nonzero (λ i hi. U_is i hi ∙ ap (λ z. z *ℤ B j i) e ∙ zero-*ℤ (B j i))

    entry_le : (k : ℕ) → k < suc m → nat_abs (B j k) ≤ (suc m * h) ^ m
    unfolding U
    entry_le k hk = multiple_le (T j j) (B j k) T_nonzero (U_is k hk) ((rows j).small k hk)

pub inverse_bound :
    (n h : ℕ) (A B : Matrix) →
    0 < h →
    Below n (λ i j. nat_abs (A i j) ≤ h) →
    A ·⟨ n ⟩ B ≈⟨ n ⟩ δ →
    Below n (λ i j. nat_abs (B i j) ≤ (n * h) ^ (n - 1))
inverse_bound zero h A B pos-h A-le inverse i j hi hj = absurd (not-suc-le-zero hi)
inverse_bound (suc m) h A B pos-h A-le inverse i j hi hj = rw sub-one (entry_le m h pos-h A B A-le inverse i hi j hj)
