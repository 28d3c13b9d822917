-- Equations and congruences of matrices below n, proved by computing, as `ring` does those of integers (`RingSolver.antt` of the crate numbers).
-- `matrix n s m (λ x .. A .. . l ≑ r) tt` proves l ≈⟨ n ⟩ r for all s integers x, .. and m matrices A, ..:
--     telescope : (n : ℕ) (x : ℤ) (R : Matrix) → (δ ⊟ x ⊙ R) ·⟨ n ⟩ (δ ⊞ x ⊙ R) ≈⟨ n ⟩ δ ⊟ (x *ℤ x) ⊙ (R ·⟨ n ⟩ R)
--     telescope n = matrix n 1 1 (λ x R. (𝟙 ⊟ᵉ x ⊙ᵉ R) ·ᵉ (𝟙 ⊞ᵉ x ⊙ᵉ R) ≑ 𝟙 ⊟ᵉ (x ⊗ x) ⊙ᵉ (R ·ᵉ R)) tt
-- `modular n z` proves the congruence `CongM n z` in the same way. A hypothesis that l is r is used between two factors, p·(l - r)·q:
-- `given l is r by p and q then ..`. The difference of the sides, less the hypotheses', becomes a sum of words (Terms.antt), and the test that `tt` passes is
-- that it vanishes.
use mathlib.Core.Path.{sym, ap, ◌∙◌, subst}
use mathlib.Core.Bool.{Bool}
use mathlib.Core.List.{List, [], ◌∷◌}
use Prim.Native.Nat.{ℕ, zero, suc}
use lib.Dec.{T}
use lib.ListN.{get_or}
use lib.IntN.{ℤ, pos}
use Rattle.numbers.proofs.Remainders.Congruence.{cong_trans, cong_zero, cong_sub_zero, cong_of_sub}
use Rattle.numbers.proofs.Algebra.RingSolver.{Expr, var}
use Rattle.tables.specs.Tables.{Matrix, ◌≈⟨◌⟩◌, ◌·⟨◌⟩◌, ◌⊟◌, CongM}
use Rattle.tables.proofs.Algebra.Matrix.{𝟘, ·-𝟘ˡ, ·-𝟘ʳ, cong_m-·, cong_m_eq, cong_m_refl}
use Rattle.tables.proofs.Algebra.Terms.{total_terms, total_vanish}
pub use Rattle.tables.proofs.Algebra.Terms.{MExpr, mat, 𝟘ᵉ, 𝟙, ◌⊞ᵉ◌, ◌⊟ᵉ◌, ◌·ᵉ◌, ◌⊙ᵉ◌, meaning, terms, vanish}

-- ---- assertions: that two sides are in relation, perhaps under hypotheses

infix 4 ◌≑◌
infixr 3 given◌is◌by◌and◌then◌
pub data Assertionᴹ : Type 0 where
  ◌≑◌ : MExpr → MExpr → Assertionᴹ
  given◌is◌by◌and◌then◌ : MExpr → MExpr → MExpr → MExpr → Assertionᴹ → Assertionᴹ

-- the difference of the sides, less the hypotheses' between their factors
abbrev pub gapᴹ : Assertionᴹ → MExpr
gapᴹ (l ≑ r) = l ⊟ᵉ r
gapᴹ (given l is r by p and q then k) = gapᴹ k ⊟ᵉ p ·ᵉ (l ⊟ᵉ r) ·ᵉ q

abbrev pub Relation : Type 1
Relation = Matrix → Matrix → Type 0

abbrev pub Assertsᴹ : Relation → ℕ → (ℕ → ℤ) → (ℕ → Matrix) → Assertionᴹ → Type 0
Assertsᴹ R n ρ σ (l ≑ r) = R (meaning n ρ σ l) (meaning n ρ σ r)
Assertsᴹ R n ρ σ (given l is r by p and q then k) = R (meaning n ρ σ l) (meaning n ρ σ r) → Assertsᴹ R n ρ σ k

between : (n : ℕ) (x : ℤ) (P Q L R : Matrix) → CongM n x L R → CongM n x (P ·⟨ n ⟩ (L ⊟ R) ·⟨ n ⟩ Q) 𝟘
between n x P Q L R e =
    subst (λ Z. CongM n x (P ·⟨ n ⟩ (L ⊟ R) ·⟨ n ⟩ Q) Z) (ap (λ Z. Z ·⟨ n ⟩ Q) (·-𝟘ʳ n P) ∙ ·-𝟘ˡ n Q)
    (cong_m-· n x (cong_m-· n x (cong_m_refl n x P) (λ i j h k. cong_sub_zero (e i j h k))) (cong_m_refl n x Q))

asserts : (n : ℕ) (x : ℤ) (ρ : ℕ → ℤ) (σ : ℕ → Matrix) (k : Assertionᴹ) → CongM n x (meaning n ρ σ (gapᴹ k)) 𝟘 → Assertsᴹ (CongM n x) n ρ σ k
asserts n x ρ σ (l ≑ r) z = λ i j a b. cong_of_sub (z i j a b)
asserts n x ρ σ (given l is r by p and q then k) z = λ e.
    asserts n x ρ σ k
    (λ i j a b. cong_trans (cong_of_sub (z i j a b)) (between n x (meaning n ρ σ p) (meaning n ρ σ q) (meaning n ρ σ l) (meaning n ρ σ r) e i j a b))

-- modulo 0, congruent is equal
whole : (n : ℕ) (ρ : ℕ → ℤ) (σ : ℕ → Matrix) (k : Assertionᴹ) → Assertsᴹ (CongM n (pos 0)) n ρ σ k → Assertsᴹ (λ A B. A ≈⟨ n ⟩ B) n ρ σ k
whole n ρ σ (l ≑ r) z = λ i j a b. cong_zero (z i j a b)
whole n ρ σ (given l is r by p and q then k) z = λ e. whole n ρ σ k (z (cong_m_eq n (pos 0) e))

-- ---- an assertion for all integers and matrices

abbrev pub Underᴹ : ℕ → ℕ → Type 0
Underᴹ zero zero = Assertionᴹ
Underᴹ zero (suc m) = MExpr → Underᴹ zero m
Underᴹ (suc s) m = Expr → Underᴹ s m

abbrev pub passesᴹ : (s m : ℕ) → Underᴹ s m → Bool
passesᴹ zero zero k = vanish (terms (gapᴹ k))
passesᴹ zero (suc m) f = passesᴹ zero m (f (mat m))
passesᴹ (suc s) m f = passesᴹ s m (f (var s))

abbrev pub AssertsAllᴹ : Relation → ℕ → (s m : ℕ) → Underᴹ s m → List ℤ → List Matrix → Type 0
AssertsAllᴹ R n zero zero k xs As = Assertsᴹ R n (λ i. get_or xs i (pos 0)) (λ i. get_or As i 𝟘) k
AssertsAllᴹ R n zero (suc m) f xs As = (A : Matrix) → AssertsAllᴹ R n zero m (f (mat m)) xs (A ∷ As)
AssertsAllᴹ R n (suc s) m f xs As = (x : ℤ) → AssertsAllᴹ R n s m (f (var s)) (x ∷ xs) As

module _ (n : ℕ) (R : Relation) (conclude : (ρ : ℕ → ℤ) (σ : ℕ → Matrix) (k : Assertionᴹ) → meaning n ρ σ (gapᴹ k) ≈⟨ n ⟩ 𝟘 → Assertsᴹ R n ρ σ k) where
  prove : (s m : ℕ) (f : Underᴹ s m) → T (passesᴹ s m f) → (xs : List ℤ) (As : List Matrix) → AssertsAllᴹ R n s m f xs As
  prove zero zero k t xs As =
      let ρ : ℕ → ℤ = λ i. get_or xs i (pos 0) in
      let σ : ℕ → Matrix = λ i. get_or As i 𝟘 in
      conclude ρ σ k (λ i j a b. sym (total_terms n ρ σ (gapᴹ k) i j a b) ∙ total_vanish n ρ σ (terms (gapᴹ k)) t i j)
  prove zero (suc m) f t xs As = λ A. prove zero m (f (mat m)) t xs (A ∷ As)
  prove (suc s) m f t xs As = λ x. prove s m (f (var s)) t (x ∷ xs) As

pub modular : (n : ℕ) (x : ℤ) (s m : ℕ) (f : Underᴹ s m) → T (passesᴹ s m f) → AssertsAllᴹ (CongM n x) n s m f [] []
modular n x s m f t = prove n (CongM n x) (λ ρ σ k z. asserts n x ρ σ k (cong_m_eq n x z)) s m f t [] []

pub matrix : (n s m : ℕ) (f : Underᴹ s m) → T (passesᴹ s m f) → AssertsAllᴹ (λ A B. A ≈⟨ n ⟩ B) n s m f [] []
matrix n s m f t = prove n (λ A B. A ≈⟨ n ⟩ B) (λ ρ σ k z. whole n ρ σ k (asserts n (pos 0) ρ σ k (cong_m_eq n (pos 0) z))) s m f t [] []
