-- A right inverse modulo X is a left inverse, and so is a whole right inverse, which is one modulo 0. There are finitely many tables modulo X from 1 up,
-- so two powers of the inverse B are congruent, B^i and B^(i+m+1). Times A^i they are I and B^(m+1), so B·D = I for D = B^m, and B·A = I with it.
-- Hence an inverse is the only one.
use mathlib.Core.Path.{◌≡◌, ap, ◌∙◌}
use Prim.Native.Nat.{ℕ, zero, suc, ◌+◌, ◌-◌, ◌*◌, ◌/◌, ◌%◌, ◌^◌, ◌<◌}
use native.Mathlib.Nat.{le_refl, zero-add, suc-add}
use native.Mathlib.Omega.{arith}
use lib.Arith.{digits_lt, digits_div, digits_mod}
use lib.IntN.{ℤ, pos, nat_abs, ◌-ℤ◌}
use Rattle.numbers.specs.Remainder.{residue}
use Rattle.numbers.proofs.Algebra.RingSolver.{#◌, ⊝◌}
use Rattle.numbers.proofs.Algebra.Sum.{δ}
use Rattle.numbers.proofs.Remainders.Congruence.{cong_of_eq, cong_sym, cong_trans, cong_near, cong_zero}
use Rattle.numbers.proofs.Remainders.Division.{residue_below, residue_cong}
use Rattle.numbers.proofs.Counting.Pigeonhole.{pigeonhole}
use Rattle.numbers.proofs.Counting.Digits.{number, number_below, number_inj}
use Rattle.tables.specs.Tables.{Matrix, ◌≈⟨◌⟩◌, ◌·⟨◌⟩◌, CongM}
use Rattle.tables.proofs.Algebra.Matrix.{cong_m_eq}
use Rattle.tables.proofs.Algebra.MatrixSolver.{modular, given◌is◌by◌and◌then◌, 𝟙, ◌⊟ᵉ◌, ◌·ᵉ◌, ◌⊙ᵉ◌, ◌≑◌}
use Rattle.tables.proofs.Inverses.Laws.{inverses_meet, whole_unique}

-- ---- a table modulo X as a number

abbrev cell : ℕ → ℕ → Matrix → ℕ → ℕ
cell X n A k = residue X (A (k / n) (k % n))

code : ℕ → ℕ → Matrix → ℕ
code X n A = number X (cell X n A) (n * n)

module _ (X n : ℕ) (h : 0 < X) where
  cell_below : (A : Matrix) (k : ℕ) → k < n * n → cell X n A k < X
  cell_below A k l = residue_below X h (A (k / n) (k % n))

  code_below : (A : Matrix) → code X n A < X ^ (n * n)
  unfolding code
  code_below A = number_below X (cell X n A) (n * n) (cell_below A)

  code_cong : (A B : Matrix) → code X n A ≡ code X n B → CongM n (pos X) A B
  unfolding code
  code_cong A B e i j l k =
      let q : residue X (A i j) ≡ residue X (B i j) =
      rw (digits_div i k, digits_mod i k) at (number_inj X (cell X n A) (cell X n B) (n * n) (cell_below A) (cell_below B) e (i * n + j) (digits_lt l k)) in
      cong_trans (cong_sym (residue_cong X h (A i j))) (cong_trans (cong_of_eq (pos X) (ap pos q)) (residue_cong X h (B i j)))

-- ---- powers

module _ (n : ℕ) (A : Matrix) where
  power : ℕ → Matrix
  power zero = δ
  power (suc k) = A ·⟨ n ⟩ power k

  powerʳ : ℕ → Matrix
  powerʳ zero = δ
  powerʳ (suc k) = powerʳ k ·⟨ n ⟩ A

module _ (n : ℕ) (x : ℤ) (A B : Matrix) (right : CongM n x (A ·⟨ n ⟩ B) δ) where
  -- A^i·B^(i+k) = B^k
  cancel : (i k : ℕ) → CongM n x (powerʳ n A i ·⟨ n ⟩ power n B (i + k)) (power n B k)
  unfolding power powerʳ
  cancel zero k = rw zero-add (modular n x 0 1 (λ P. 𝟙 ·ᵉ P ≑ P) tt (power n B k))
  cancel (suc i) k =
      rw suc-add
      (modular n x 0 5 (λ A B Q P E. given A ·ᵉ B is 𝟙 by Q and P then given Q ·ᵉ P is E by 𝟙 and 𝟙 then (Q ·ᵉ A) ·ᵉ (B ·ᵉ P) ≑ E) tt
      A B (powerʳ n A i) (power n B (i + k)) (power n B k) right (cancel i k))

  cycle : (i m : ℕ) → CongM n x (power n B (i + 0)) (power n B (i + suc m)) → CongM n x (B ·⟨ n ⟩ A) δ
  unfolding power
  cycle i m e =
      let D : Matrix = power n B m in
      let one : CongM n x (B ·⟨ n ⟩ D) δ =
      modular n x 0 5 (λ B D Q P P'. given P is P' by (⊝ # 1) ⊙ᵉ Q and 𝟙 then given Q ·ᵉ P is 𝟙 by 𝟙 and 𝟙 then given Q ·ᵉ P' is B ·ᵉ D by (⊝ # 1) ⊙ᵉ 𝟙 and 𝟙 then B ·ᵉ D ≑ 𝟙) tt
      B D (powerʳ n A i) (power n B (i + 0)) (power n B (i + suc m)) e (cancel i 0) (cancel i (suc m)) in
      modular n x 0 3 (λ A B D. given A ·ᵉ B is 𝟙 by B and D then given B ·ᵉ D is 𝟙 by 𝟙 ⊟ᵉ B ·ᵉ A and 𝟙 then B ·ᵉ A ≑ 𝟙) tt A B D right one

two_sided_above : (X n : ℕ) → 0 < X → (A B : Matrix) → CongM n (pos X) (A ·⟨ n ⟩ B) δ → CongM n (pos X) (B ·⟨ n ⟩ A) δ
two_sided_above X n h A B right =
    let f : ℕ → ℕ = λ k. code X n (power n B k) in
    let (i, j, l, k, e) = pigeonhole (suc (X ^ (n * n))) (X ^ (n * n)) f (le_refl (suc (X ^ (n * n)))) (λ k z. code_below X n h (power n B k)) in
    let r : i + 0 ≡ i = omega arith in
    let s : j ≡ i + suc (j - suc i) = omega arith in
    cycle n (pos X) A B right i (j - suc i) (code_cong X n h (power n B (i + 0)) (power n B (i + suc (j - suc i))) (ap f r ∙ e ∙ ap f s))

pub two_sided_whole : (n : ℕ) (A B : Matrix) → A ·⟨ n ⟩ B ≈⟨ n ⟩ δ → B ·⟨ n ⟩ A ≈⟨ n ⟩ δ
two_sided_whole n A B right i j h k =
    let z : ℤ = (B ·⟨ n ⟩ A) i j -ℤ δ i j in
    cong_near (two_sided_above (suc (nat_abs z)) n (omega arith) A B (cong_m_eq n (pos (suc (nat_abs z))) right) i j h k) (le_refl (suc (nat_abs z)))

pub two_sided : (X n : ℕ) (A B : Matrix) → CongM n (pos X) (A ·⟨ n ⟩ B) δ → CongM n (pos X) (B ·⟨ n ⟩ A) δ
two_sided zero n A B right = cong_m_eq n (pos 0) (two_sided_whole n A B (λ i j h k. cong_zero (right i j h k)))
two_sided (suc X) n A B right = two_sided_above (suc X) n (omega arith) A B right

-- A has at most one whole inverse
pub inverse_unique : (n : ℕ) (A B C : Matrix) → A ·⟨ n ⟩ B ≈⟨ n ⟩ δ → A ·⟨ n ⟩ C ≈⟨ n ⟩ δ → B ≈⟨ n ⟩ C
inverse_unique n A B C b c = whole_unique n A B C (two_sided_whole n A B b) c

-- and modulo X, up to congruence
pub inverse_unique_mod : (X n : ℕ) (A B C : Matrix) → CongM n (pos X) (A ·⟨ n ⟩ B) δ → CongM n (pos X) (A ·⟨ n ⟩ C) δ → CongM n (pos X) B C
inverse_unique_mod X n A B C b c = inverses_meet n (pos X) A B C (two_sided X n A B b) c
