-- Inverses of tables: a left and a right inverse are one, a whole inverse is one modulo every number, and a row that refutes an inverse.
use mathlib.Core.Bool.{Bool, not, ◌&&◌}
use mathlib.Core.List.{List}
use Prim.Native.Nat.{ℕ, ◌<◌}
use Rattle.std.proofs.Common.{rules}
use lib.Dec.{T, T_not, ltb}
use lib.IntN.{ℤ, pos, ◌*ℤ◌}
use lib.ListN.{get_or}
use Rattle.numbers.specs.Numbers.{Cong}
use Rattle.numbers.proofs.Algebra.RingSolver.{#◌, ⊝◌}
use Rattle.numbers.proofs.Algebra.Sum.{sum, δ}
use Rattle.numbers.proofs.Testing.Tests.{both, all, all_at}
use Rattle.numbers.proofs.Testing.RuleTests.{congruent, congruent_sound, congruent_complete}
use Rattle.tables.specs.Tables.{Matrix, ◌≈⟨◌⟩◌, ◌·⟨◌⟩◌, CongM, HasInverseMod, HasWholeInverse}
use Rattle.tables.proofs.Algebra.Matrix.{𝟘, cong_m_eq}
use Rattle.tables.proofs.Algebra.MatrixSolver.{MExpr, Assertionᴹ, matrix, modular, given◌is◌by◌and◌then◌, 𝟘ᵉ, 𝟙, ◌·ᵉ◌, ◌⊙ᵉ◌, ◌≑◌}

-- B = B·(A·C) = (B·A)·C = C
abbrev meet : MExpr → MExpr → MExpr → Assertionᴹ
meet A B C = given B ·ᵉ A is 𝟙 by 𝟙 and C then given A ·ᵉ C is 𝟙 by (⊝ # 1) ⊙ᵉ B and 𝟙 then B ≑ C

pub inverses_meet : (n : ℕ) (x : ℤ) (A B C : Matrix) → CongM n x (B ·⟨ n ⟩ A) δ → CongM n x (A ·⟨ n ⟩ C) δ → CongM n x B C
inverses_meet n x = modular n x 0 3 meet tt

pub whole_unique : (n : ℕ) (A B C : Matrix) → B ·⟨ n ⟩ A ≈⟨ n ⟩ δ → A ·⟨ n ⟩ C ≈⟨ n ⟩ δ → B ≈⟨ n ⟩ C
whole_unique n = matrix n 0 3 meet tt

pub whole_mod : {n : ℕ} {A : Matrix} → HasWholeInverse n A → (X : ℕ) → HasInverseMod n X A
whole_mod {n} w X = record { inverse = w.inverse; right = cong_m_eq n (pos X) w.right }

-- ---- a row v with v·A = 0 modulo m, and v not 0 modulo m: A has no inverse modulo m

-- every row of W is v
pub no_inverse : (m n : ℕ) (W A : Matrix) (c : ℕ) → c < n → CongM n (pos m) (W ·⟨ n ⟩ A) 𝟘 → ¬ Cong (pos m) (W c c) (pos 0) → ¬ HasInverseMod n m A
no_inverse m n W A c h z f w =
    f (modular n (pos m) 0 3 (λ W A B. given W ·ᵉ A is 𝟘ᵉ by 𝟙 and B then given A ·ᵉ B is 𝟙 by (⊝ # 1) ⊙ᵉ W and 𝟙 then W ≑ 𝟘ᵉ) tt W A w.inverse z w.right c c h h)

-- the test of such a row
abbrev pub refutes : ℕ → ℕ → List ℤ → ℕ → Matrix → Bool
refutes m n v c A =
    ltb c n && (not (congruent m (get_or v c (pos 0)) (pos 0)) && all n (λ j. congruent m (sum n (λ k. get_or v k (pos 0) *ℤ A k j)) (pos 0)))

pub refutes_sound : (m n : ℕ) (v : List ℤ) (c : ℕ) (A : Matrix) → T (refutes m n v c A) → ¬ HasInverseMod n m A
refutes_sound m n v c A t =
    let f : ℕ → Bool = λ j. congruent m (sum n (λ k. get_or v k (pos 0) *ℤ A k j)) (pos 0) in
    let g : Bool = congruent m (get_or v c (pos 0)) (pos 0) in
    let p = both (not g) (all n f) (both (ltb c n) (not g && all n f) t).1 in
    no_inverse m n (λ i k. get_or v k (pos 0)) A c (search rules)
    (λ i j h k. congruent_sound m (sum n (λ k. get_or v k (pos 0) *ℤ A k j)) (pos 0) (all_at n f p.1 j k))
    (λ e. T_not g p.0 (congruent_complete m (get_or v c (pos 0)) (pos 0) e))
