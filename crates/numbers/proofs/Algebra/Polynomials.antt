-- Expressions of the commutative ring ℤ, and the polynomials that they are brought to.
--   value ρ a    an expression's value, where variable i is ρ i
--   norm a       its polynomial; eval ρ p is a polynomial's value, and `sound` says that it is the expression's
--   is_zero p     the test that each coefficient is 0
use mathlib.Core.Path.{◌≡◌, refl, sym, ap, ap₂, ◌∙◌}
use mathlib.Core.Bool.{Bool, true, false, ◌&&◌}
use Prim.Native.Nat.{ℕ, zero, suc}
use lib.Dec.{T}
use lib.IntN.{ℤ, pos, negsuc, neg_ℤ, ◌+ℤ◌, ◌*ℤ◌, +ℤ_idl, +ℤ_comm}
use native.Mathlib.Omega.{arith}
use Rattle.std.proofs.lemmas.Int.{ints}
use Rattle.numbers.proofs.Testing.Tests.{both}
use Rattle.numbers.proofs.Algebra.IntRing.{*ℤ-distribˡ, *ℤ-distribʳ, *ℤ-assoc, *ℤ-left_comm}

infixl 6 ◌⊕◌ ◌⊖◌
infixl 7 ◌⊗◌
infix 8 ⊝◌ #◌
infix 5 ◌⟨+x⟩◌
pub data Expr : Type 0 where
  var : ℕ → Expr
  num : ℤ → Expr
  ◌⊕◌ ◌⊗◌ : Expr → Expr → Expr
  ⊝◌ : Expr → Expr

abbrev pub ◌⊖◌ : Expr → Expr → Expr
a ⊖ b = a ⊕ (⊝ b)

abbrev pub #◌ : ℕ → Expr
# n = num (pos n)

abbrev pub value : (ℕ → ℤ) → Expr → ℤ
value ρ (var i) = ρ i
value ρ (num c) = c
value ρ (a ⊕ b) = value ρ a +ℤ value ρ b
value ρ (a ⊗ b) = value ρ a *ℤ value ρ b
value ρ (⊝ a) = neg_ℤ (value ρ a)

-- ---- polynomials, by Horner's rule: `p ⟨+x⟩ q` is p + x·q, where x is variable 0, and p has no x: its variable i is the whole's i + 1

pub data Poly : Type 0 where
  lit : ℤ → Poly
  ◌⟨+x⟩◌ : Poly → Poly → Poly

abbrev pub later : (ℕ → ℤ) → ℕ → ℤ
later ρ i = ρ (suc i)

unfoldable pub eval : (ℕ → ℤ) → Poly → ℤ
eval ρ (lit c) = c
eval ρ (p ⟨+x⟩ q) = eval (later ρ) p +ℤ ρ zero *ℤ eval ρ q

abbrev pub unknown : ℕ → Poly
unknown zero = lit (pos 0) ⟨+x⟩ lit (pos 1)
unknown (suc i) = unknown i ⟨+x⟩ lit (pos 0)

abbrev pub shift : ℤ → Poly → Poly
shift c (lit d) = lit (c +ℤ d)
shift c (p ⟨+x⟩ q) = shift c p ⟨+x⟩ q

abbrev pub add : Poly → Poly → Poly
add (lit c) r = shift c r
add (p ⟨+x⟩ q) (lit c) = shift c p ⟨+x⟩ q
add (p ⟨+x⟩ q) (p' ⟨+x⟩ q') = add p p' ⟨+x⟩ add q q'

abbrev pub scale : ℤ → Poly → Poly
scale c (lit d) = lit (c *ℤ d)
scale c (p ⟨+x⟩ q) = scale c p ⟨+x⟩ scale c q

-- each power's coefficient, by f
abbrev pub each : (Poly → Poly) → Poly → Poly
each f (lit c) = f (lit c) ⟨+x⟩ lit (pos 0)
each f (p ⟨+x⟩ q) = f p ⟨+x⟩ each f q

abbrev pub mul : Poly → Poly → Poly
mul (lit c) r = scale c r
mul (p ⟨+x⟩ q) r = add (each (λ s. mul p s) r) (lit (pos 0) ⟨+x⟩ mul q r)

abbrev pub norm : Expr → Poly
norm (var i) = unknown i
norm (num c) = lit c
norm (a ⊕ b) = add (norm a) (norm b)
norm (a ⊗ b) = mul (norm a) (norm b)
norm (⊝ a) = scale (negsuc 0) (norm a)

abbrev pub is_zero : Poly → Bool
is_zero (lit (pos zero)) = true
is_zero (lit (pos (suc n))) = false
is_zero (lit (negsuc n)) = false
is_zero (p ⟨+x⟩ q) = is_zero p && is_zero q

-- ---- soundness

eval_unknown : (ρ : ℕ → ℤ) (i : ℕ) → eval ρ (unknown i) ≡ ρ i
unfolding eval
eval_unknown ρ zero = omega (arith, ints)
eval_unknown ρ (suc i) = omega (arith, ints, eval_unknown (later ρ) i)

eval_shift : (ρ : ℕ → ℤ) (c : ℤ) (p : Poly) → eval ρ (shift c p) ≡ c +ℤ eval ρ p
unfolding eval
eval_shift ρ c (lit d) = refl
eval_shift ρ c (p ⟨+x⟩ q) = omega (arith, ints, eval_shift (later ρ) c p)

pub eval_add : (ρ : ℕ → ℤ) (p q : Poly) → eval ρ (add p q) ≡ eval ρ p +ℤ eval ρ q
unfolding eval
eval_add ρ (lit c) r = eval_shift ρ c r
eval_add ρ (p ⟨+x⟩ q) (lit c) = eval_shift ρ c (p ⟨+x⟩ q) ∙ +ℤ_comm c (eval ρ (p ⟨+x⟩ q))
eval_add ρ (p ⟨+x⟩ q) (p' ⟨+x⟩ q') =
    rw (eval_add ρ q q', *ℤ-distribˡ (ρ zero) (eval ρ q) (eval ρ q')) (omega (arith, ints, eval_add (later ρ) p p'))

-- c·a + x·(c·b), which is c·(a + x·b)
factor : (c a x b : ℤ) → c *ℤ a +ℤ x *ℤ (c *ℤ b) ≡ c *ℤ (a +ℤ x *ℤ b)
factor c a x b = ap (λ y. c *ℤ a +ℤ y) (*ℤ-left_comm x c b) ∙ sym (*ℤ-distribˡ c a (x *ℤ b))

eval_scale : (ρ : ℕ → ℤ) (c : ℤ) (p : Poly) → eval ρ (scale c p) ≡ c *ℤ eval ρ p
unfolding eval
eval_scale ρ c (lit d) = refl
eval_scale ρ c (p ⟨+x⟩ q) =
    ap₂ (λ a b. a +ℤ ρ zero *ℤ b) (eval_scale (later ρ) c p) (eval_scale ρ c q) ∙ factor c (eval (later ρ) p) (ρ zero) (eval ρ q)

eval_each : (ρ : ℕ → ℤ) (c : ℤ) (f : Poly → Poly) → ((p : Poly) → eval (later ρ) (f p) ≡ c *ℤ eval (later ρ) p) → (p : Poly) → eval ρ (each f p) ≡ c *ℤ eval ρ p
unfolding eval
eval_each ρ c f h (lit d) = omega (arith, ints, h (lit d))
eval_each ρ c f h (p ⟨+x⟩ q) =
    ap₂ (λ a b. a +ℤ ρ zero *ℤ b) (h p) (eval_each ρ c f h q) ∙ factor c (eval (later ρ) p) (ρ zero) (eval ρ q)

pub eval_mul : (ρ : ℕ → ℤ) (p q : Poly) → eval ρ (mul p q) ≡ eval ρ p *ℤ eval ρ q
unfolding eval
eval_mul ρ (lit c) r = eval_scale ρ c r
eval_mul ρ (p ⟨+x⟩ q) r =
    eval_add ρ (each (λ s. mul p s) r) (lit (pos 0) ⟨+x⟩ mul q r)
    ∙ ap₂ (λ x y. x +ℤ y)
    (eval_each ρ (eval (later ρ) p) (λ s. mul p s) (λ s. eval_mul (later ρ) p s) r)
    (+ℤ_idl (ρ zero *ℤ eval ρ (mul q r)) ∙ ap (λ x. ρ zero *ℤ x) (eval_mul ρ q r) ∙ sym (*ℤ-assoc (ρ zero) (eval ρ q) (eval ρ r)))
    ∙ sym (*ℤ-distribʳ (eval (later ρ) p) (ρ zero *ℤ eval ρ q) (eval ρ r))

pub sound : (ρ : ℕ → ℤ) (a : Expr) → eval ρ (norm a) ≡ value ρ a
unfolding eval
sound ρ (var i) = eval_unknown ρ i
sound ρ (num c) = refl
sound ρ (a ⊕ b) = eval_add ρ (norm a) (norm b) ∙ ap₂ (λ x y. x +ℤ y) (sound ρ a) (sound ρ b)
sound ρ (a ⊗ b) = eval_mul ρ (norm a) (norm b) ∙ ap₂ (λ x y. x *ℤ y) (sound ρ a) (sound ρ b)
sound ρ (⊝ a) = omega (arith, ints, eval_scale ρ (negsuc 0) (norm a), sound ρ a)

pub eval_is_zero : (ρ : ℕ → ℤ) (p : Poly) → T (is_zero p) → eval ρ p ≡ pos 0
unfolding eval
eval_is_zero ρ (lit (pos zero)) t = refl
eval_is_zero ρ (lit (pos (suc n))) t = absurd t
eval_is_zero ρ (lit (negsuc n)) t = absurd t
eval_is_zero ρ (p ⟨+x⟩ q) t =
    let (s, u) = both (is_zero p) (is_zero q) t in
    rw (eval_is_zero (later ρ) p s, eval_is_zero ρ q u) (omega (arith, ints))
