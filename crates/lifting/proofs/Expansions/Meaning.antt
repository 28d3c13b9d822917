-- The meaning of the blocks: A·B_i = I - X_i·R_i, from one digit to the next.
use mathlib.Core.Path.{◌≡◌}
use mathlib.Core.List.{List}
use Prim.Native.Nat.{ℕ, zero, suc, ◌+◌, ◌*◌, ◌≤◌}
use native.Mathlib.Omega.{arith}
use lib.IntN.{ℤ, pos}
use Rattle.numbers.proofs.Algebra.RingSolver.{#◌, ⊝◌, ◌⊗◌}
use Rattle.numbers.proofs.Algebra.Sum.{δ}
use Rattle.tables.specs.Tables.{Matrix, ◌≈⟨◌⟩◌, ◌⊞◌, ◌⊟◌, ◌⊙◌, ◌·⟨◌⟩◌, block}
use Rattle.tables.proofs.Algebra.MatrixSolver.{matrix, given◌is◌by◌and◌then◌, 𝟙, ◌⊞ᵉ◌, ◌⊟ᵉ◌, ◌·ᵉ◌, ◌⊙ᵉ◌, ◌≑◌}
use Rattle.lifting.specs.Lifting.{IsStart, IsDigit, IsStep, Upto}
use Rattle.lifting.specs.Meaning.{modulus, next, lifted}
use Rattle.lifting.proofs.Expansions.Rules.{start_digit}

-- a first digit, of any table F: A·D = F - X·T
pub first_means : {n X : ℕ} {A B F D T : Matrix} → IsDigit n X A B F D T → A ·⟨ n ⟩ D ≈⟨ n ⟩ F ⊟ pos X ⊙ T
first_means {n} {X} {A} {B} {F} {D} {T} p =
    matrix n 1 4 (λ x A F D T. given F ⊟ᵉ A ·ᵉ D is x ⊙ᵉ T by (⊝ # 1) ⊙ᵉ 𝟙 and 𝟙 then A ·ᵉ D ≑ F ⊟ᵉ x ⊙ᵉ T) tt (pos X) A F D T p.residue

pub start_means : {n X : ℕ} {A B R : Matrix} → IsStart n X A B R → A ·⟨ n ⟩ B ≈⟨ n ⟩ δ ⊟ pos X ⊙ R
start_means p = first_means (start_digit p)

-- a digit more, of any table F: A·C = F - x·R gives A·(C + x·D) = F - x·X·T
pub digit_means : {n X : ℕ} {A B R D T : Matrix} (F : Matrix) → IsDigit n X A B R D T → (x : ℕ) (C : Matrix) → A ·⟨ n ⟩ C ≈⟨ n ⟩ F ⊟ pos x ⊙ R → A ·⟨ n ⟩ (C ⊞ pos x ⊙ D) ≈⟨ n ⟩ F ⊟ pos (x * X) ⊙ T
digit_means {n} {X} {A} {B} {R} {D} {T} F p x C means =
    matrix n 2 6 (λ x y A C F R D T.
    given A ·ᵉ C is F ⊟ᵉ x ⊙ᵉ R by 𝟙 and 𝟙 then
    given R ⊟ᵉ A ·ᵉ D is y ⊙ᵉ T by (⊝ x) ⊙ᵉ 𝟙 and 𝟙 then
    A ·ᵉ (C ⊞ᵉ x ⊙ᵉ D) ≑ F ⊟ᵉ (x ⊗ y) ⊙ᵉ T) tt (pos x) (pos X) A C F R D T means p.residue

-- a step more: A·(C·(I + x·R)) = I - x²·R², and then a digit of R²
pub step_means : {n X : ℕ} {A B R M S : Matrix} → IsStep n X A B R M S → (x : ℕ) (C : Matrix) → A ·⟨ n ⟩ C ≈⟨ n ⟩ δ ⊟ pos x ⊙ R → A ·⟨ n ⟩ next n (pos x) C R M ≈⟨ n ⟩ δ ⊟ pos (x * x * X) ⊙ S
step_means {n} {X} {A} {B} {R} p x C means =
    digit_means δ p.digit (x * x) (C ·⟨ n ⟩ (δ ⊞ pos x ⊙ R))
    (matrix n 1 3 (λ x A C R. given A ·ᵉ C is 𝟙 ⊟ᵉ x ⊙ᵉ R by 𝟙 and 𝟙 ⊞ᵉ x ⊙ᵉ R then A ·ᵉ (C ·ᵉ (𝟙 ⊞ᵉ x ⊙ᵉ R)) ≑ 𝟙 ⊟ᵉ (x ⊗ x) ⊙ᵉ (R ·ᵉ R)) tt (pos x) A C R means)

-- A·B_i = I - X_i·R_i
pub upto_means : {n X s : ℕ} {A : Matrix} {L : List ℤ} → Upto n X s A L → (i : ℕ) → i ≤ s → A ·⟨ n ⟩ lifted n X L i ≈⟨ n ⟩ δ ⊟ pos (modulus X i) ⊙ block n L (2 * i + 1)
unfolding modulus lifted
upto_means p zero l = start_means p.start
upto_means {n} {X} {s} {A} {L} p (suc t) l =
    let e : 2 * suc t + 1 ≡ 2 * t + 3 = omega arith in
    rw e (step_means (p.step t (omega arith)) (modulus X t) (lifted n X L t) (upto_means p t (omega arith)))
