-- Equations of the commutative ring ℤ, proved by computing. `ring n (λ x y .. . l ≐ r) tt` proves l ≡ r for all n integers x, y, ..:
--     difference-of-squares : (a b : ℤ) → (a +ℤ b) *ℤ (a -ℤ b) ≡ a *ℤ a -ℤ b *ℤ b
--     difference-of-squares = ring 2 (λ a b. (a ⊕ b) ⊗ (a ⊖ b) ≐ a ⊗ a ⊖ b ⊗ b) tt
-- Under hypotheses, each is given the factor that it is to be used with:
--     square : (a b c : ℤ) → a ≡ b +ℤ c → a *ℤ a ≡ a *ℤ b +ℤ a *ℤ c
--     square = ring 3 (λ a b c. if a is b ⊕ c by a then a ⊗ a ≐ a ⊗ b ⊕ a ⊗ c) tt
-- The difference of the sides, less those of the hypotheses by their factors, becomes a polynomial (Polynomials.antt), and the test that `tt` passes is that
-- it is zero. All that is computed is closed, so the integers may be any terms.
use mathlib.Core.Path.{◌≡◌, sym, ap, ◌∙◌}
use mathlib.Core.Bool.{Bool}
use mathlib.Core.List.{List, [], ◌∷◌}
use Prim.Native.Nat.{ℕ, zero, suc}
use lib.Dec.{T}
use lib.ListN.{get_or}
use lib.IntN.{ℤ, pos, ◌*ℤ◌}
use native.Mathlib.Omega.{arith}
use Rattle.std.proofs.lemmas.Int.{ints}
use Rattle.numbers.proofs.Algebra.Polynomials.{eval_is_zero, sound}
pub use Rattle.numbers.proofs.Algebra.Polynomials.{Expr, var, num, ◌⊕◌, ◌⊖◌, ◌⊗◌, ⊝◌, #◌, value, norm, is_zero}

-- ---- assertions: an equation, perhaps under hypotheses

infix 4 ◌≐◌
infixr 3 if◌is◌by◌then◌
pub data Assertion : Type 0 where
  ◌≐◌ : Expr → Expr → Assertion
  if◌is◌by◌then◌ : Expr → Expr → Expr → Assertion → Assertion

abbrev pub Asserts : (ℕ → ℤ) → Assertion → Type 0
Asserts ρ (l ≐ r) = value ρ l ≡ value ρ r
Asserts ρ (if l is r by c then k) = value ρ l ≡ value ρ r → Asserts ρ k

-- the difference of the sides, less the hypotheses' by their factors
abbrev pub gap : Assertion → Expr
gap (l ≐ r) = l ⊖ r
gap (if l is r by c then k) = gap k ⊖ c ⊗ (l ⊖ r)

asserts : (ρ : ℕ → ℤ) (k : Assertion) → value ρ (gap k) ≡ pos 0 → Asserts ρ k
asserts ρ (l ≐ r) z = omega (arith, ints)
asserts ρ (if l is r by c then k) z = λ e.
    let d : value ρ (l ⊖ r) ≡ pos 0 = omega (arith, ints) in
    asserts ρ k (omega (arith, ints, ap (λ x. value ρ c *ℤ x) d))

-- ---- an assertion for all integers. The last variable is number 0, so that the integers stand on a stack

abbrev pub Under : ℕ → Type 0
Under zero = Assertion
Under (suc n) = Expr → Under n

abbrev pub passes : (n : ℕ) → Under n → Bool
passes zero k = is_zero (norm (gap k))
passes (suc n) f = passes n (f (var n))

abbrev pub AssertsAll : (n : ℕ) → Under n → List ℤ → Type 0
AssertsAll zero k xs = Asserts (λ i. get_or xs i (pos 0)) k
AssertsAll (suc n) f xs = (x : ℤ) → AssertsAll n (f (var n)) (x ∷ xs)

prove : (n : ℕ) (f : Under n) → T (passes n f) → (xs : List ℤ) → AssertsAll n f xs
prove zero k t xs =
    let ρ : ℕ → ℤ = λ i. get_or xs i (pos 0) in
    asserts ρ k (sym (sound ρ (gap k)) ∙ eval_is_zero ρ (norm (gap k)) t)
prove (suc n) f t xs = λ x. prove n (f (var n)) t (x ∷ xs)

pub ring : (n : ℕ) (f : Under n) → T (passes n f) → AssertsAll n f []
ring n f t = prove n f t []
