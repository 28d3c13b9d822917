-- A whole solution is small: where A·x = b at order n, A has an inverse modulo some p from 2 up, and the entries of A and of b have magnitudes at most
-- h and H, those of x have at most (n·h + H)^n. No determinant is used. The n equations A·z = t·b in the n + 1 unknowns z and t have a small solution
-- that is not all 0 (Siegel). Then A·z = A·(t·x), so z = t·x, t is not 0, and x is no larger than z.
use mathlib.Core.Path.{◌≡◌, sym, ap, ◌∙◌}
use mathlib.Core.Logic.{◌≢◌, ⊎_elim}
use mathlib.Core.Bool.{cond}
use Prim.Native.Nat.{ℕ, suc, ◌≤◌, ◌<◌, ◌+◌, ◌*◌, ◌^◌}
use native.Mathlib.Nat.{eq-or-lt_of_le, le_of_suc-le-suc, le_step}
use native.Mathlib.Omega.{arith}
use lib.Dec.{eqb}
use lib.IntN.{ℤ, pos, neg_ℤ, nat_abs, ◌+ℤ◌, ◌-ℤ◌, ◌*ℤ◌, *ℤ_comm, zero-*ℤ}
use Rattle.numbers.proofs.Algebra.IntOrder.{multiple_le}
use Rattle.std.proofs.lemmas.Bool.Decides.{nat_tests}
use Rattle.std.proofs.lemmas.Int.{ints}
use Rattle.numbers.proofs.Algebra.RingSolver.{ring, if◌is◌by◌then◌, #◌, ⊝◌, ◌⊕◌, ◌⊗◌, ◌≐◌}
use Rattle.numbers.proofs.Algebra.Sum.{sum, sum_cong}
use Rattle.tables.specs.Tables.{Matrix, Below, HasInverseMod}
use Rattle.tables.proofs.Algebra.MatrixSolver.{matrix, given◌is◌by◌and◌then◌, 𝟘ᵉ, 𝟙, ◌⊟ᵉ◌, ◌·ᵉ◌, ◌⊙ᵉ◌, ◌≑◌}
use Rattle.tables.proofs.Inverses.Powers.{kernel}
use Rattle.tables.proofs.Inverses.Siegel.{Solution, total, total_le, siegel, few_values}

-- f below n, and v at n
abbrev last : ℕ → (ℕ → ℤ) → ℤ → ℕ → ℤ
last n f v i = cond (eqb i n) v (f i)

last_below : (n : ℕ) (f : ℕ → ℤ) (v : ℤ) (i : ℕ) → i < n → last n f v i ≡ f i
last_below n f v i h = grind (arith, nat_tests)

last_at : (n : ℕ) (f : ℕ → ℤ) (v : ℤ) → last n f v n ≡ v
last_at n f v = grind (arith, nat_tests)

module _ (p n h H : ℕ) (A : Matrix) (b x : ℕ → ℤ) (two : 2 ≤ p) (odd : HasInverseMod n p A) (some : 0 < H) (A-le : Below n (λ i j. nat_abs (A i j) ≤ h)) (b-le : (i : ℕ) → i < n → nat_abs (b i) ≤ H) (solves : (i : ℕ) → i < n → sum n (λ k. A i k *ℤ x k) ≡ b i) where
  -- equation c has row c of A, and beside it -b
  row : ℕ → ℕ → ℤ
  row i c = last n (A c) (neg_ℤ (b c)) i

  row_le : (c : ℕ) → c < n → total (suc n) (λ i. nat_abs (row i c)) ≤ n * h + H
  unfolding row total
  row_le c l =
      omega (
        arith,
        ints,
        total_le n h (λ i. nat_abs (row i c)) (λ i k. rw (last_below n (A c) (neg_ℤ (b c)) i k) (A-le c i l k)),
        ap nat_abs (last_at n (A c) (neg_ℤ (b c))),
        b-le c l,
      )

  small : Solution (suc n) n ((n * h + H) ^ n) row
  small = siegel (suc n) n (n * h + H) ((n * h + H) ^ n) row row_le (few_values (n * h + H) n (omega arith))

  z : ℕ → ℤ
  z = small.unknown

  -- A·z = t·b, where t is the unknown n
  z_solves : (c : ℕ) → c < n → sum n (λ i. A c i *ℤ z i) ≡ z n *ℤ b c
  unfolding z row sum
  z_solves c l =
      ring 4 (λ s t m b. if s ⊕ t ⊗ m is # 0 by # 1 then if m is ⊝ b by ⊝ t then s ≐ t ⊗ b) tt (sum n (λ i. A c i *ℤ z i)) (z n) (row n c) (b c)
      (ap (λ s. s +ℤ z n *ℤ row n c) (sum_cong n (λ i k. *ℤ_comm (A c i) (z i) ∙ ap (λ v. z i *ℤ v) (sym (last_below n (A c) (neg_ℤ (b c)) i k)))) ∙ small.solves c l)
      (last_at n (A c) (neg_ℤ (b c)))

  z_is : (k : ℕ) → k < n → z k ≡ z n *ℤ x k
  z_is k l =
      let zero : z k -ℤ z n *ℤ x k ≡ pos 0 = kernel p n A (λ i j. z i -ℤ z n *ℤ x i) two odd
      (matrix n 1 4 (λ t A Z X F. given A ·ᵉ Z is t ⊙ᵉ F by 𝟙 and 𝟙 then given A ·ᵉ X is F by (⊝ t) ⊙ᵉ 𝟙 and 𝟙 then A ·ᵉ (Z ⊟ᵉ t ⊙ᵉ X) ≑ 𝟘ᵉ) tt
      (z n) A (λ i j. z i) (λ i j. x i) (λ i j. b i) (λ i j c d. z_solves i c) (λ i j c d. solves i c)) k k l l in
      omega (arith, ints, zero)

  z_nonzero : z n ≢ pos 0
  unfolding z
  z_nonzero e =
      small.nonzero
      (λ i l.
      ⊎_elim
      (λ q. ap z q ∙ e)
      (λ k. z_is i k ∙ ap (λ t. t *ℤ x i) e ∙ zero-*ℤ (x i))
      (eq-or-lt_of_le (le_of_suc-le-suc l)))

  pub solution_bound : (k : ℕ) → k < n → nat_abs (x k) ≤ (n * h + H) ^ n
  unfolding z
  solution_bound k l = multiple_le (z n) (x k) z_nonzero (z_is k l) (small.small k (le_step l))
