-- What the verdict rests on: where A·S = F and A·C = F - x·R, with S and C together smaller than x, and A has a left inverse
-- modulo x, S is C and the residue R is 0. For A·(S - C) = x·R, so x divides S - C, which is smaller than x. A whole inverse is such an S, for
-- F = I, and no bound need be known of it where C is enough smaller than x: it is at most (n·h)^(n-1).
use mathlib.Core.Path.{ap}
use Prim.Native.Nat.{ℕ, zero, suc, ◌≤◌, ◌<◌, ◌+◌, ◌-◌, ◌*◌, ◌^◌}
use native.Mathlib.Nat.{pow-zero, pow-suc, pow-succ', one-mul, mul_assoc, mul-le-mul, pow-le-pow_left, pow-le-pow_right}
use native.Mathlib.Omega.{arith}
use lib.IntN.{ℤ, nat_abs}
use Rattle.numbers.proofs.Algebra.IntOrder.{nat_abs_sub, small_multiple}
use Rattle.numbers.proofs.Algebra.RingSolver.{#◌, ⊝◌}
use Rattle.numbers.proofs.Algebra.Sum.{δ}
use Rattle.numbers.proofs.Remainders.Congruence.{cong_near}
use Rattle.tables.specs.Tables.{Matrix, Below, ◌≈⟨◌⟩◌, ◌·⟨◌⟩◌, ◌⊟◌, ◌⊙◌, CongM, Zero}
use Rattle.tables.proofs.Algebra.Matrix.{cong_m_eq}
use Rattle.tables.proofs.Algebra.MatrixSolver.{matrix, modular, given◌is◌by◌and◌then◌, 𝟘ᵉ, 𝟙, ◌⊟ᵉ◌, ◌·ᵉ◌, ◌⊙ᵉ◌, ◌≑◌}
use Rattle.tables.proofs.Inverses.TwoSided.{two_sided_whole}
use Rattle.tables.proofs.Inverses.InverseBound.{inverse_bound}

module _ (n : ℕ) (x : ℤ) (A U F S C R : Matrix) (left : CongM n x (U ·⟨ n ⟩ A) δ) (solves : A ·⟨ n ⟩ S ≈⟨ n ⟩ F) (lifted : A ·⟨ n ⟩ C ≈⟨ n ⟩ F ⊟ x ⊙ R) (less : Below n (λ i j. nat_abs (S i j) + nat_abs (C i j) < nat_abs x)) where
  differ : CongM n x (A ·⟨ n ⟩ S) (A ·⟨ n ⟩ C)
  differ i j a b = record {
    quot = R i j;
    eqn = matrix n 1 5 (λ x A F S C R. given A ·ᵉ S is F by 𝟙 and 𝟙 then given A ·ᵉ C is F ⊟ᵉ x ⊙ᵉ R by (⊝ # 1) ⊙ᵉ 𝟙 and 𝟙 then A ·ᵉ S ⊟ᵉ A ·ᵉ C ≑ x ⊙ᵉ R) tt
        x A F S C R solves lifted i j a b;
  }

  pub near_same : S ≈⟨ n ⟩ C
  near_same i j a b =
      cong_near
      (modular n x 0 4 (λ U A S C. given U ·ᵉ A is 𝟙 by (⊝ # 1) ⊙ᵉ 𝟙 and S ⊟ᵉ C then given A ·ᵉ S is A ·ᵉ C by U and 𝟙 then S ≑ C) tt U A S C left differ i j a b)
      (omega (arith, nat_abs_sub (S i j) (C i j), less i j a b))

  gone : Zero n (x ⊙ R)
  gone =
      matrix n 1 5 (λ x A F S C R.
      given A ·ᵉ S is F by (⊝ # 1) ⊙ᵉ 𝟙 and 𝟙 then
      given A ·ᵉ C is F ⊟ᵉ x ⊙ᵉ R by 𝟙 and 𝟙 then
      given S is C by A and 𝟙 then
      x ⊙ᵉ R ≑ 𝟘ᵉ) tt x A F S C R solves lifted near_same

  pub near_zero : Zero n R
  near_zero i j a b = small_multiple x (R i j) (omega (arith, ap nat_abs (gone i j a b), less i j a b))

pub inverse_near_zero : (n : ℕ) (A B C R : Matrix) (x : ℤ) → A ·⟨ n ⟩ B ≈⟨ n ⟩ δ → A ·⟨ n ⟩ C ≈⟨ n ⟩ δ ⊟ x ⊙ R → Below n (λ i j. nat_abs (B i j) + nat_abs (C i j) < nat_abs x) → Zero n R
inverse_near_zero n A B C R x inverse = near_zero n x A B δ B C R (cong_m_eq n x (two_sided_whole n A B inverse)) inverse

-- where the residue is 0, C solves A·C = F
pub zero_right : (n : ℕ) (x : ℤ) (A F C R : Matrix) → A ·⟨ n ⟩ C ≈⟨ n ⟩ F ⊟ x ⊙ R → Zero n R → A ·⟨ n ⟩ C ≈⟨ n ⟩ F
zero_right n =
    matrix n 1 4 (λ x A F C R. given A ·ᵉ C is F ⊟ᵉ x ⊙ᵉ R by 𝟙 and 𝟙 then given R is 𝟘ᵉ by (⊝ x) ⊙ᵉ 𝟙 and 𝟙 then A ·ᵉ C ≑ F) tt

module _ (n h : ℕ) (A B C R : Matrix) (x : ℤ) (pos-h : 0 < h) (A-le : Below n (λ i j. nat_abs (A i j) ≤ h)) (inverse : A ·⟨ n ⟩ B ≈⟨ n ⟩ δ) (lifted : A ·⟨ n ⟩ C ≈⟨ n ⟩ δ ⊟ x ⊙ R) (C-less : Below n (λ i j. nat_abs (C i j) + (n * h) ^ (n - 1) < nat_abs x)) where
  pub residue_zero : Zero n R
  residue_zero =
      inverse_near_zero n A B C R x inverse lifted
      (λ i j hi hj. omega (arith, inverse_bound n h A B pos-h A-le inverse i j hi hj, C-less i j hi hj))

-- the bound on an inverse is at most a quarter of a power of x, where 4·n·h ≤ x and the power is at least n - 1 and 1
pub bound_power : (s x p q : ℕ) → 4 * s ≤ x → 4 ≤ x → p ≤ q → 1 ≤ q → 4 * s ^ p ≤ x ^ q
bound_power s x zero q hs hx hp hq =
    omega (arith, pow-zero s, rw (pow-zero, one-mul) at (pow-suc x 0), pow-le-pow_right {n = x} (omega arith) hq)
bound_power s x (suc p) q hs hx hp hq =
    omega (
      arith,
      pow-succ' s p,
      mul_assoc 4 s (s ^ p),
      mul-le-mul {n₁ = 4 * s} hs (pow-le-pow_left {n = s} {m = x} (omega arith) p),
      pow-succ' x p,
      pow-le-pow_right {n = x} (omega arith) hp,
    )
