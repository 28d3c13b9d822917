-- The bounds: 5·|r| ≤ 3·n·h for every entry r of every R_i, and 5·|b| ≤ 3·X_i for every entry b of every B_i.
use mathlib.Core.Path.{◌≡◌, ap}
use mathlib.Core.Bool.{Bool, true, false, cond}
use mathlib.Core.List.{List}
use Prim.Native.Nat.{ℕ, zero, suc, ◌+◌, ◌*◌, ◌/◌, ◌≤◌, ◌<◌}
use native.Mathlib.Omega.{arith}
use native.Mathlib.Decide.{dec_le}
use native.Mathlib.Nat.{mul-le-mul_left, mul-le-mul, mul-pos, le_refl}
use lib.Dec.{eqb}
use lib.IntN.{ℤ, pos, nat_abs, ◌*ℤ◌}
use Rattle.numbers.specs.Numbers.{Balanced}
use Rattle.std.proofs.lemmas.Int.{ints, unsigned_abs-mul}
use Rattle.numbers.proofs.Remainders.Remainder.{balanced_size}
use Rattle.numbers.proofs.Algebra.Sum.{δ}
use Rattle.tables.specs.Tables.{Matrix, Below, ◌⊞◌, ◌⊙◌, ◌·⟨◌⟩◌, block}
use Rattle.tables.proofs.Algebra.Matrix.{·-bound}
use Rattle.tables.proofs.Algebra.MatrixSolver.{matrix, 𝟙, ◌⊞ᵉ◌, ◌·ᵉ◌, ◌⊙ᵉ◌, ◌≑◌}
use Rattle.lifting.specs.Lifting.{IsStart, IsDigit, IsStep, Upto}
use Rattle.lifting.specs.Meaning.{modulus, next, lifted}
use Rattle.lifting.proofs.Expansions.Rules.{start_digit}

pub δ_size : (i j : ℕ) → nat_abs (δ i j) ≤ 1
δ_size i j = go (eqb i j)
  where
    go : (b : Bool) → nat_abs (cond b (pos 1) (pos 0)) ≤ 1
    go true = omega arith
    go false = omega arith

-- where X·r = z and 5·|z| < 3·X·y + X, 5·|r| ≤ 3·y
quotient_bound : (X y : ℕ) (r z : ℤ) → z ≡ pos X *ℤ r → 5 * nat_abs z < 3 * (X * y) + X → 5 * nat_abs r ≤ 3 * y
quotient_bound X y r z e l = elim (dec_le (5 * nat_abs r) (3 * y)) [ yes h ↦ h | no f ↦ absurd (more f) ]
  where
    more : ¬ (5 * nat_abs r ≤ 3 * y) → ⊥
    more f = let h : 3 * y + 1 ≤ 5 * nat_abs r = omega arith in omega (arith, mul-le-mul_left X h, ap nat_abs e, unsigned_abs-mul (pos X) r)

-- 25·|B·R| ≤ 9·n·x·y where 5·|B| ≤ 3·x and 5·|R| ≤ 3·y
product_bound : (n x y : ℕ) (B R : Matrix) → Below n (λ i j. 5 * nat_abs (B i j) ≤ 3 * x) → Below n (λ i j. 5 * nat_abs (R i j) ≤ 3 * y) → Below n (λ i j. 25 * nat_abs ((B ·⟨ n ⟩ R) i j) ≤ 9 * (n * (x * y)))
product_bound n x y B R p q i j a b =
    let s : ℕ = 3 * x / 5 in
    let t : ℕ = 3 * y / 5 in
    let u : nat_abs ((B ·⟨ n ⟩ R) i j) ≤ n * (s * t) = ·-bound n B R (λ i j a b. omega (arith, p i j a b)) (λ i j a b. omega (arith, q i j a b)) i j a b in
    let f : 5 * s ≤ 3 * x = omega arith in
    let g : 5 * t ≤ 3 * y = omega arith in
    omega (arith, mul-le-mul_left n (mul-le-mul f g))

-- C is within 3/5 of x, and R within 3/5 of n·h
pub record Bounded (n h : ℕ) (C R : Matrix) (x : ℕ) : Type 0 where
  pub size : Below n (λ i j. 5 * nat_abs (C i j) ≤ 3 * x)
  pub residue : Below n (λ i j. 5 * nat_abs (R i j) ≤ 3 * (n * h))
  pub some : 1 ≤ x

module _ (n h X : ℕ) (wide : 60 ≤ X) (A : Matrix) (low : Below n (λ i j. nat_abs (A i j) ≤ h)) where
  -- A times a balanced table: 2·|A·D| ≤ X·n·h
  balanced_bound : (D : Matrix) → Below n (λ i j. Balanced X (D i j)) → Below n (λ i j. 2 * nat_abs ((A ·⟨ n ⟩ D) i j) ≤ X * (n * h))
  balanced_bound D q i j a b =
      let half : (i j : ℕ) → i < n → j < n → nat_abs (D i j) ≤ X / 2 = λ i j a b. omega (arith, balanced_size (D i j) (q i j a b)) in
      let u : nat_abs ((A ·⟨ n ⟩ D) i j) ≤ n * (h * (X / 2)) = ·-bound n A D low half i j a b in
      let v : n * h * (2 * (X / 2)) ≤ n * h * X = mul-le-mul_left (n * h) (omega arith) in
      omega arith

  module _ {B R D T : Matrix} (p : IsDigit n X A B R D T) where
    pub digit_residue : Below n (λ i j. 10 * nat_abs (R i j) ≤ X * (n * h) + X) → Below n (λ i j. 5 * nat_abs (T i j) ≤ 3 * (n * h))
    digit_residue small i j a b =
        quotient_bound X (n * h) (T i j) _ (p.residue i j a b)
        (omega (
          arith,
          ints,
          small i j a b,
          balanced_bound D (λ i j a b. (p.remainder i j a b).balanced) i j a b,
        ))

    pub digit_size : (x : ℕ) (C : Matrix) → Below n (λ i j. 10 * nat_abs (C i j) ≤ x * X) → Below n (λ i j. 5 * nat_abs ((C ⊞ pos x ⊙ D) i j) ≤ 3 * (x * X))
    digit_size x C small i j a b =
        omega (
          arith,
          ints,
          unsigned_abs-mul (pos x) (D i j),
          small i j a b,
          mul-le-mul_left x (balanced_size (D i j) (p.remainder i j a b).balanced),
        )

  -- a first digit, of a table F that is small beside X
  pub first_bounded : {B F D T : Matrix} → Below n (λ i j. 10 * nat_abs (F i j) ≤ X) → IsDigit n X A B F D T → Bounded n h D T X
  first_bounded {D = D} small p = record {
    size = λ i j a b. omega (arith, balanced_size (D i j) (p.remainder i j a b).balanced);
    residue = digit_residue p (λ i j a b. omega (arith, small i j a b));
    some = omega arith;
  }

  pub start_bounded : {B R : Matrix} → IsStart n X A B R → Bounded n h B R X
  start_bounded p = first_bounded (λ i j a b. omega (arith, δ_size i j)) (start_digit p)

  -- a digit more
  pub digit_bounded : {B C R D T : Matrix} {x : ℕ} → Bounded n h C R x → IsDigit n X A B R D T → Bounded n h (C ⊞ pos x ⊙ D) T (x * X)
  digit_bounded {C = C} {x = x} s p = record {
    size = digit_size p x C (λ i j a b. omega (arith, s.size i j a b, mul-le-mul_left x wide));
    residue = digit_residue p (λ i j a b. omega (arith, s.residue i j a b, mul-le-mul wide (le_refl (n * h))));
    some = mul-pos s.some (omega arith);
  }

  -- a step more: a digit of R², from C·(I + x·R)
  pub step_bounded : 4 * (n * n) * h ≤ X → {B C R M S : Matrix} {x : ℕ} → Bounded n h C R x → IsStep n X A B R M S → Bounded n h (next n (pos x) C R M) S (x * x * X)
  step_bounded enough {C = C} {R = R} {x = x} s p = record {
    size = digit_size p.digit (x * x) (C ·⟨ n ⟩ (δ ⊞ pos x ⊙ R)) small;
    residue = digit_residue p.digit
        (λ i j a b. omega (arith, product_bound n (n * h) (n * h) R R s.residue s.residue i j a b, mul-le-mul enough (le_refl (n * h))));
    some = mul-pos (mul-pos s.some s.some) (omega arith);
  }
    where
      small : Below n (λ i j. 10 * nat_abs ((C ·⟨ n ⟩ (δ ⊞ pos x ⊙ R)) i j) ≤ x * x * X)
      small i j a b =
          omega (
            arith,
            ints,
            ap nat_abs (matrix n 1 2 (λ x C R. C ·ᵉ (𝟙 ⊞ᵉ x ⊙ᵉ R) ≑ C ⊞ᵉ x ⊙ᵉ (C ·ᵉ R)) tt (pos x) C R i j a b),
            unsigned_abs-mul (pos x) ((C ·⟨ n ⟩ R) i j),
            s.size i j a b,
            mul-le-mul_left x (product_bound n x (n * h) C R s.size s.residue i j a b),
            mul-le-mul_left (x * x) enough,
            mul-le-mul_left x (mul-le-mul {n₁ = 1} {m₁ = 60} {n₂ = x} {m₂ = X} s.some wide),
          )

  -- B_i and R_i of an expansion
  pub upto_bounded : 4 * (n * n) * h ≤ X → {s : ℕ} {L : List ℤ} → Upto n X s A L → (t : ℕ) → t ≤ s → Bounded n h (lifted n X L t) (block n L (2 * t + 1)) (modulus X t)
  unfolding modulus lifted
  upto_bounded enough p zero l = start_bounded p.start
  upto_bounded enough p (suc t) l =
      let e : 2 * suc t + 1 ≡ 2 * t + 3 = omega arith in
      rw e (step_bounded enough (upto_bounded enough p t (omega arith)) (p.step t (omega arith)))
