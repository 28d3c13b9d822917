-- Expressions of matrices below n, and the sums that they are brought to.
--   meaning n ρ σ a   an expression's matrix, where integer i is ρ i and matrix i is σ i
--   terms a           its sum: products of matrices, each with a polynomial of the integers as its coefficient. A product is a word, so that matrices need
--                     not commute. `total` is a sum's matrix, and `total_terms` says that it is the expression's
--   vanish t          the test that each coefficient is 0
use mathlib.Core.Path.{◌≡◌, refl, sym, ap, ap₂, ◌∙◌}
use mathlib.Core.Bool.{Bool, true, false, ◌&&◌}
use mathlib.Core.List.{List, [], ◌∷◌, ◌++◌}
use Prim.Native.Nat.{ℕ}
use lib.Dec.{T, eqb, eqb→eq}
use lib.IntN.{ℤ, pos, negsuc, ◌+ℤ◌, ◌*ℤ◌, *ℤ-zero}
use native.Mathlib.Omega.{arith}
use Rattle.std.proofs.lemmas.Int.{ints}
use Rattle.numbers.proofs.Algebra.Sum.{δ}
use Rattle.numbers.proofs.Testing.Tests.{both}
use Rattle.numbers.proofs.Algebra.Polynomials.{Expr, value, Poly, lit, add, mul, norm, is_zero, eval, eval_add, eval_mul, eval_is_zero, sound}
use Rattle.numbers.proofs.Algebra.RingSolver.{ring, ◌⊕◌, ◌⊗◌, ◌≐◌}
use Rattle.tables.specs.Tables.{Matrix, ◌≈⟨◌⟩◌, ◌·⟨◌⟩◌, ◌⊞◌, ◌⊟◌, ◌⊙◌}
use Rattle.tables.proofs.Algebra.Matrix.{𝟘, ·-assoc, ·-⊞ˡ, ·-⊞ʳ, ·-⊙ˡ, ·-⊙ʳ, ·-𝟘ˡ, ·-𝟘ʳ, ·-idˡ, ·-idʳ, ·-cong}

infixl 6 ◌⊞ᵉ◌ ◌⊟ᵉ◌
infixl 7 ◌·ᵉ◌
infixr 8 ◌⊙ᵉ◌
pub data MExpr : Type 0 where
  mat : ℕ → MExpr
  𝟘ᵉ 𝟙 : MExpr
  ◌⊞ᵉ◌ ◌⊟ᵉ◌ ◌·ᵉ◌ : MExpr → MExpr → MExpr
  ◌⊙ᵉ◌ : Expr → MExpr → MExpr

abbrev pub meaning : ℕ → (ℕ → ℤ) → (ℕ → Matrix) → MExpr → Matrix
meaning n ρ σ (mat i) = σ i
meaning n ρ σ 𝟘ᵉ = 𝟘
meaning n ρ σ 𝟙 = δ
meaning n ρ σ (a ⊞ᵉ b) = meaning n ρ σ a ⊞ meaning n ρ σ b
meaning n ρ σ (a ⊟ᵉ b) = meaning n ρ σ a ⊟ meaning n ρ σ b
meaning n ρ σ (a ·ᵉ b) = meaning n ρ σ a ·⟨ n ⟩ meaning n ρ σ b
meaning n ρ σ (c ⊙ᵉ a) = value ρ c ⊙ meaning n ρ σ a

-- ---- sums of words, each with its coefficient

pub data Terms : Type 0 where
  none : Terms
  term : Poly → List ℕ → Terms → Terms

abbrev pub same : List ℕ → List ℕ → Bool
same [] [] = true
same [] (j ∷ w) = false
same (i ∷ v) [] = false
same (i ∷ v) (j ∷ w) = eqb i j && same v w

abbrev pub insert : Poly → List ℕ → Terms → Terms
insert p w none = term p w none
insert p w (term q v t) = elim (same w v) [ true ↦ term (add p q) v t | false ↦ term q v (insert p w t) ]

abbrev pub plus : Terms → Terms → Terms
plus none t = t
plus (term p w s) t = insert p w (plus s t)

-- p·w before each term
abbrev pub front : Poly → List ℕ → Terms → Terms
front p w none = none
front p w (term q v t) = term (mul p q) (w ++ v) (front p w t)

abbrev pub times : Terms → Terms → Terms
times none t = none
times (term p w s) t = plus (front p w t) (times s t)

abbrev pub terms : MExpr → Terms
terms (mat i) = term (lit (pos 1)) (i ∷ []) none
terms 𝟘ᵉ = none
terms 𝟙 = term (lit (pos 1)) [] none
terms (a ⊞ᵉ b) = plus (terms a) (terms b)
terms (a ⊟ᵉ b) = plus (terms a) (front (lit (negsuc 0)) [] (terms b))
terms (a ·ᵉ b) = times (terms a) (terms b)
terms (c ⊙ᵉ a) = front (norm c) [] (terms a)

abbrev pub vanish : Terms → Bool
vanish none = true
vanish (term p w t) = is_zero p && vanish t

-- ---- soundness

same→eq : (v w : List ℕ) → T (same v w) → v ≡ w
same→eq [] [] t = refl
same→eq [] (j ∷ w) t = absurd t
same→eq (i ∷ v) [] t = absurd t
same→eq (i ∷ v) (j ∷ w) t = let (e, f) = both (eqb i j) (same v w) t in ap₂ (λ x y. x ∷ y) (eqb→eq i j e) (same→eq v w f)

module _ (n : ℕ) (ρ : ℕ → ℤ) (σ : ℕ → Matrix) where
  word : List ℕ → Matrix
  word [] = δ
  word (a ∷ w) = σ a ·⟨ n ⟩ word w

  word_append : (v w : List ℕ) → word (v ++ w) ≈⟨ n ⟩ word v ·⟨ n ⟩ word w
  unfolding word
  word_append [] w i j h k = sym (·-idˡ n (word w) i j h k)
  word_append (a ∷ v) w i j h k =
      ·-cong n {A = σ a} (λ i j h k. refl) (word_append v w) i j h k ∙ ap (λ X. X i j) (sym (·-assoc n (σ a) (word v) (word w)))

  pub total : Terms → Matrix
  total none = 𝟘
  total (term p w t) = eval ρ p ⊙ word w ⊞ total t

  total_insert : (p : Poly) (w : List ℕ) (t : Terms) (i j : ℕ) → total (insert p w t) i j ≡ eval ρ p *ℤ word w i j +ℤ total t i j
  unfolding total
  total_insert p w none i j = refl
  total_insert p w (term q v t) i j = go (same w v) (same→eq w v) (total_insert p w t i j)
    where
      go : (b : Bool) → (T b → w ≡ v) → total (insert p w t) i j ≡ eval ρ p *ℤ word w i j +ℤ total t i j
          → total (elim b [ true ↦ term (add p q) v t | false ↦ term q v (insert p w t) ]) i j ≡ eval ρ p *ℤ word w i j +ℤ (eval ρ q *ℤ word v i j +ℤ total t i j)
      go true e h =
          ap (λ c. c *ℤ word v i j +ℤ total t i j) (eval_add ρ p q)
          ∙ ring 4 (λ p q v t. (p ⊕ q) ⊗ v ⊕ t ≐ p ⊗ v ⊕ (q ⊗ v ⊕ t)) tt (eval ρ p) (eval ρ q) (word v i j) (total t i j)
          ∙ ap (λ u. eval ρ p *ℤ word u i j +ℤ (eval ρ q *ℤ word v i j +ℤ total t i j)) (sym (e tt))
      go false e h = omega (arith, ints, h)

  total_plus : (s t : Terms) (i j : ℕ) → total (plus s t) i j ≡ total s i j +ℤ total t i j
  unfolding total
  total_plus none t i j = omega (arith, ints)
  total_plus (term p w s) t i j =
      omega (arith, ints, total_insert p w (plus s t) i j, total_plus s t i j)

  total_front : (p : Poly) (w : List ℕ) (t : Terms) → total (front p w t) ≈⟨ n ⟩ eval ρ p ⊙ (word w ·⟨ n ⟩ total t)
  unfolding total
  total_front p w none i j h k = sym (ap (λ X. eval ρ p *ℤ X i j) (·-𝟘ʳ n (word w)) ∙ *ℤ-zero (eval ρ p))
  total_front p w (term q v t) i j h k =
      ap₂ (λ x y. x +ℤ y) (ap₂ (λ x y. x *ℤ y) (eval_mul ρ p q) (word_append w v i j h k)) (total_front p w t i j h k)
      ∙ ring 4 (λ p q x y. p ⊗ q ⊗ x ⊕ p ⊗ y ≐ p ⊗ (q ⊗ x ⊕ y)) tt (eval ρ p) (eval ρ q) ((word w ·⟨ n ⟩ word v) i j) ((word w ·⟨ n ⟩ total t) i j)
      ∙ ap (λ X. eval ρ p *ℤ X i j) (sym (·-⊞ˡ n (word w) (eval ρ q ⊙ word v) (total t) ∙ ap (λ X. X ⊞ word w ·⟨ n ⟩ total t) (·-⊙ʳ n (eval ρ q) (word w) (word v))))

  total_times : (s t : Terms) → total (times s t) ≈⟨ n ⟩ total s ·⟨ n ⟩ total t
  unfolding total
  total_times none t i j h k = ap (λ X. X i j) (sym (·-𝟘ˡ n (total t)))
  total_times (term p w s) t i j h k =
      total_plus (front p w t) (times s t) i j
      ∙ ap₂ (λ x y. x +ℤ y) (total_front p w t i j h k) (total_times s t i j h k)
      ∙ ap (λ X. X i j) (sym (·-⊞ʳ n (eval ρ p ⊙ word w) (total s) (total t) ∙ ap (λ X. X ⊞ total s ·⟨ n ⟩ total t) (·-⊙ˡ n (eval ρ p) (word w) (total t))))

  -- p·t, for a word that is empty
  total_scale : (p : Poly) (t : Terms) → total (front p [] t) ≈⟨ n ⟩ eval ρ p ⊙ total t
  unfolding word
  total_scale p t i j h k = total_front p [] t i j h k ∙ ap (λ x. eval ρ p *ℤ x) (·-idˡ n (total t) i j h k)

  total_one : (w : List ℕ) (i j : ℕ) → total (term (lit (pos 1)) w none) i j ≡ word w i j
  unfolding total eval
  total_one w i j = omega (arith, ints)

  pub total_terms : (a : MExpr) → total (terms a) ≈⟨ n ⟩ meaning n ρ σ a
  unfolding word total eval
  total_terms (mat a) i j h k = total_one (a ∷ []) i j ∙ ·-idʳ n (σ a) i j h k
  total_terms 𝟘ᵉ i j h k = refl
  total_terms 𝟙 i j h k = total_one [] i j
  total_terms (a ⊞ᵉ b) i j h k =
      omega (arith, ints, total_plus (terms a) (terms b) i j, total_terms a i j h k, total_terms b i j h k)
  total_terms (a ⊟ᵉ b) i j h k =
      omega (arith, ints, total_plus (terms a) (front (lit (negsuc 0)) [] (terms b)) i j, total_terms a i j h k, total_scale (lit (negsuc 0)) (terms b) i j h k, total_terms b i j h k)
  total_terms (a ·ᵉ b) i j h k = total_times (terms a) (terms b) i j h k ∙ ·-cong n (total_terms a) (total_terms b) i j h k
  total_terms (c ⊙ᵉ a) i j h k = total_scale (norm c) (terms a) i j h k ∙ ap₂ (λ x y. x *ℤ y) (sound ρ c) (total_terms a i j h k)

  pub total_vanish : (t : Terms) → T (vanish t) → (i j : ℕ) → total t i j ≡ pos 0
  unfolding total
  total_vanish none u i j = refl
  total_vanish (term p w t) u i j =
      let (z, r) = both (is_zero p) (vanish t) u in
      rw (eval_is_zero ρ p z) (omega (arith, ints, total_vanish t r i j))
