-- Sums of integers: `sum n f` is f 0 + f 1 + .. + f (n - 1), and its laws. A family is known only below n, so each law asks for no more.
use mathlib.Core.Path.{◌≡◌, refl, sym, ap, ap₂, ◌∙◌}
use mathlib.Core.Logic.{◌≢◌, ⊎_elim}
use Prim.Native.Nat.{ℕ, zero, suc, ◌+◌, ◌*◌, ◌≤◌, ◌<◌, zero-le}
use native.Mathlib.Nat.{le_step, le_refl, eq-or-lt_of_le, le_of_suc-le-suc}
use native.Mathlib.Numerals.{add-one}
use native.Mathlib.Omega.{arith}
use lib.IntN.{ℤ, pos, nat_abs, ◌+ℤ◌, ◌*ℤ◌, *ℤ_comm, *ℤ-zero, zero-*ℤ}
unfoldable pub use Rattle.numbers.specs.Numbers.{sum, δ}
use Rattle.std.proofs.lemmas.Bool.Decides.{nat_tests}
use Rattle.std.proofs.lemmas.Int.{ints}
use Rattle.numbers.proofs.Algebra.IntRing.{*ℤ-distribˡ}

-- one more term, at the code's `n + 1`
pub sum_one : (n : ℕ) (f : ℕ → ℤ) → sum (n + 1) f ≡ sum n f +ℤ f n
unfolding sum
sum_one n f = rw add-one

-- terms that agree below n have one sum
pub sum_cong : (n : ℕ) {f g : ℕ → ℤ} → ((i : ℕ) → i < n → f i ≡ g i) → sum n f ≡ sum n g
unfolding sum
sum_cong zero h = refl
sum_cong (suc n) h = ap₂ (λ x y. x +ℤ y) (sum_cong n (λ i k. h i (le_step k))) (h n (le_refl (suc n)))

pub sum_zero : (n : ℕ) → sum n (λ i. pos 0) ≡ pos 0
unfolding sum
sum_zero zero = refl
sum_zero (suc n) = omega (arith, ints, sum_zero n)

pub sum-+ : (n : ℕ) (f g : ℕ → ℤ) → sum n (λ i. f i +ℤ g i) ≡ sum n f +ℤ sum n g
unfolding sum
sum-+ zero f g = refl
sum-+ (suc n) f g = omega (arith, ints, sum-+ n f g)

pub sum_scaleˡ : (n : ℕ) (c : ℤ) (f : ℕ → ℤ) → sum n (λ i. c *ℤ f i) ≡ c *ℤ sum n f
unfolding sum
sum_scaleˡ zero c f = sym (*ℤ-zero c)
sum_scaleˡ (suc n) c f = rw *ℤ-distribˡ (omega (arith, ints, sum_scaleˡ n c f))

pub sum_scaleʳ : (n : ℕ) (f : ℕ → ℤ) (c : ℤ) → sum n (λ i. f i *ℤ c) ≡ sum n f *ℤ c
sum_scaleʳ n f c = sum_cong n (λ i h. *ℤ_comm (f i) c) ∙ sum_scaleˡ n c f ∙ *ℤ_comm c (sum n f)

-- the order of two sums may be changed
pub sum_swap : (m n : ℕ) (f : ℕ → ℕ → ℤ) → sum m (λ i. sum n (λ j. f i j)) ≡ sum n (λ j. sum m (λ i. f i j))
unfolding sum
sum_swap zero n f = sym (sum_zero n)
sum_swap (suc m) n f = ap (λ x. x +ℤ sum n (f m)) (sum_swap m n f) ∙ sym (sum-+ n (λ j. sum m (λ i. f i j)) (f m))

-- where only the term at k is not 0, the sum is that term
pub sum_single : (n k : ℕ) (f : ℕ → ℤ) → k < n → ((i : ℕ) → i < n → i ≢ k → f i ≡ pos 0) → sum n f ≡ f k
unfolding sum
sum_single zero k f h z = absurd (omega arith)
sum_single (suc n) k f h z =
    ⊎_elim
    (λ e. omega (arith, ints, sum_cong n (λ i l. z i (le_step l) (omega arith)), sum_zero n, ap f e))
    (λ l. omega (arith, ints, sum_single n k f l (λ i m. z i (le_step m)), z n (le_refl (suc n)) (omega arith)))
    (eq-or-lt_of_le (le_of_suc-le-suc h))

pub δ_same : (i : ℕ) → δ i i ≡ pos 1
δ_same i = grind (arith, nat_tests)

pub δ_other : {i j : ℕ} → i ≢ j → δ i j ≡ pos 0
δ_other n = grind (arith, nat_tests)

pub δ_comm : (i j : ℕ) → δ i j ≡ δ j i
δ_comm i j = grind (arith, nat_tests)

pub sum_δˡ : (n k : ℕ) (f : ℕ → ℤ) → k < n → sum n (λ i. δ k i *ℤ f i) ≡ f k
sum_δˡ n k f h =
    sum_single n k (λ i. δ k i *ℤ f i) h (λ i l e. ap (λ x. x *ℤ f i) (δ_other (λ p. e (sym p))) ∙ zero-*ℤ (f i))
    ∙ rw δ_same (omega (arith, ints))

pub sum_δʳ : (n k : ℕ) (f : ℕ → ℤ) → k < n → sum n (λ i. f i *ℤ δ i k) ≡ f k
sum_δʳ n k f h = sum_cong n (λ i l. *ℤ_comm (f i) (δ i k) ∙ ap (λ x. x *ℤ f i) (δ_comm i k)) ∙ sum_δˡ n k f h

-- n terms of magnitude at most b
pub sum_bound : (n : ℕ) (f : ℕ → ℤ) (b : ℕ) → ((i : ℕ) → i < n → nat_abs (f i) ≤ b) → nat_abs (sum n f) ≤ n * b
unfolding sum
sum_bound zero f b h = zero-le
sum_bound (suc n) f b h =
    omega (arith, ints, sum_bound n f b (λ i k. h i (le_step k)), h n (le_refl (suc n)))
