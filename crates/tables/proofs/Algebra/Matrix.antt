-- Square matrices of integers. A matrix is its entries, a function of row and column; the order n is told only where it counts: in the product,
-- a sum over n, and in `A ≈⟨ n ⟩ B`, that A and B agree at all rows and columns below n.
-- A law that holds at every row and column, below n or not, is an equation of matrices, `≡`, so that `rw` takes it. What follows from these laws
-- alone is one line by `matrix` or `modular` (`MatrixSolver.antt`).
use mathlib.Core.Path.{◌≡◌, refl, sym, ap₂, ◌∙◌, fun_ext}
use Prim.Native.Nat.{ℕ, ◌*◌, ◌≤◌}
use lib.IntN.{ℤ, pos, nat_abs, ◌-ℤ◌, ◌*ℤ◌, *ℤ-zero, zero-*ℤ}
use Rattle.numbers.proofs.Algebra.IntRing.{*ℤ-assoc, *ℤ-left_comm, *ℤ-distribˡ, *ℤ-distribʳ}
use Rattle.numbers.proofs.Algebra.IntOrder.{*ℤ-bound}
use Rattle.numbers.proofs.Algebra.Sum.{sum_cong, sum_zero, sum-+, sum_scaleˡ, sum_scaleʳ, sum_swap, sum_bound, δ, sum_δˡ, sum_δʳ}
pub use Rattle.tables.specs.Tables.{Matrix, Below, ◌≈⟨◌⟩◌, ◌⊞◌, ◌⊟◌, ◌⊙◌, ◌·⟨◌⟩◌, CongM}
use Rattle.numbers.proofs.Remainders.Congruence.{cong_of_eq, cong_trans, cong-*, cong_sum}

abbrev pub 𝟘 : Matrix
𝟘 i j = pos 0

-- ---- laws at every row and column

everywhere : {A B : Matrix} → ((i j : ℕ) → A i j ≡ B i j) → A ≡ B
everywhere h = fun_ext (λ i. fun_ext (λ j. h i j))

module _ (n : ℕ) where
  pub ·-assoc : (A B C : Matrix) → A ·⟨ n ⟩ B ·⟨ n ⟩ C ≡ A ·⟨ n ⟩ (B ·⟨ n ⟩ C)
  ·-assoc A B C = everywhere λ i j.
      sum_cong n (λ k h. sym (sum_scaleʳ n (λ l. A i l *ℤ B l k) (C k j)))
      ∙ sum_swap n n (λ k l. A i l *ℤ B l k *ℤ C k j)
      ∙ sum_cong n (λ l h. sum_cong n (λ k g. *ℤ-assoc (A i l) (B l k) (C k j)) ∙ sum_scaleˡ n (A i l) (λ k. B l k *ℤ C k j))

  pub ·-⊞ˡ : (A B C : Matrix) → A ·⟨ n ⟩ (B ⊞ C) ≡ A ·⟨ n ⟩ B ⊞ A ·⟨ n ⟩ C
  ·-⊞ˡ A B C = everywhere λ i j.
      sum_cong n (λ k h. *ℤ-distribˡ (A i k) (B k j) (C k j)) ∙ sum-+ n (λ k. A i k *ℤ B k j) (λ k. A i k *ℤ C k j)

  pub ·-⊞ʳ : (A B C : Matrix) → (A ⊞ B) ·⟨ n ⟩ C ≡ A ·⟨ n ⟩ C ⊞ B ·⟨ n ⟩ C
  ·-⊞ʳ A B C = everywhere λ i j.
      sum_cong n (λ k h. *ℤ-distribʳ (A i k) (B i k) (C k j)) ∙ sum-+ n (λ k. A i k *ℤ C k j) (λ k. B i k *ℤ C k j)

  pub ·-⊙ˡ : (c : ℤ) (A B : Matrix) → (c ⊙ A) ·⟨ n ⟩ B ≡ c ⊙ (A ·⟨ n ⟩ B)
  ·-⊙ˡ c A B = everywhere λ i j. sum_cong n (λ k h. *ℤ-assoc c (A i k) (B k j)) ∙ sum_scaleˡ n c (λ k. A i k *ℤ B k j)

  pub ·-⊙ʳ : (c : ℤ) (A B : Matrix) → A ·⟨ n ⟩ (c ⊙ B) ≡ c ⊙ (A ·⟨ n ⟩ B)
  ·-⊙ʳ c A B = everywhere λ i j. sum_cong n (λ k h. *ℤ-left_comm (A i k) c (B k j)) ∙ sum_scaleˡ n c (λ k. A i k *ℤ B k j)

  pub ·-𝟘ˡ : (A : Matrix) → 𝟘 ·⟨ n ⟩ A ≡ 𝟘
  ·-𝟘ˡ A = everywhere λ i j. sum_cong n (λ k h. zero-*ℤ (A k j)) ∙ sum_zero n

  pub ·-𝟘ʳ : (A : Matrix) → A ·⟨ n ⟩ 𝟘 ≡ 𝟘
  ·-𝟘ʳ A = everywhere λ i j. sum_cong n (λ k h. *ℤ-zero (A i k)) ∙ sum_zero n

-- ---- laws below n

pub ≈-refl : (n : ℕ) (A : Matrix) → A ≈⟨ n ⟩ A
≈-refl n A i j h k = refl

pub ≈-sym : {n : ℕ} {A B : Matrix} → A ≈⟨ n ⟩ B → B ≈⟨ n ⟩ A
≈-sym e i j h k = sym (e i j h k)

pub ≈-trans : {n : ℕ} {A B C : Matrix} → A ≈⟨ n ⟩ B → B ≈⟨ n ⟩ C → A ≈⟨ n ⟩ C
≈-trans e f i j h k = e i j h k ∙ f i j h k

module _ (n : ℕ) where
  pub ·-idˡ : (A : Matrix) → δ ·⟨ n ⟩ A ≈⟨ n ⟩ A
  ·-idˡ A i j h k = sum_δˡ n i (λ l. A l j) h

  pub ·-idʳ : (A : Matrix) → A ·⟨ n ⟩ δ ≈⟨ n ⟩ A
  ·-idʳ A i j h k = sum_δʳ n j (λ l. A i l) k

  pub ·-cong : {A A' B B' : Matrix} → A ≈⟨ n ⟩ A' → B ≈⟨ n ⟩ B' → A ·⟨ n ⟩ B ≈⟨ n ⟩ A' ·⟨ n ⟩ B'
  ·-cong e f i j h k = sum_cong n (λ l m. ap₂ (λ x y. x *ℤ y) (e i l h m) (f l j m k))

  pub ⊟-cong : {A A' B B' : Matrix} → A ≈⟨ n ⟩ A' → B ≈⟨ n ⟩ B' → A ⊟ B ≈⟨ n ⟩ A' ⊟ B'
  ⊟-cong e f i j h k = ap₂ (λ x y. x -ℤ y) (e i j h k) (f i j h k)

  -- entries of magnitude at most a and b
  pub ·-bound : (A B : Matrix) {a b : ℕ} → Below n (λ i j. nat_abs (A i j) ≤ a) → Below n (λ i j. nat_abs (B i j) ≤ b) → Below n (λ i j. nat_abs ((A ·⟨ n ⟩ B) i j) ≤ n * (a * b))
  ·-bound A B {a} {b} e f i j h k = sum_bound n (λ l. A i l *ℤ B l j) (a * b) (λ l m. *ℤ-bound (A i l) (B l j) (e i l h m) (f l j m k))

-- ---- congruence, entry by entry

module _ (n : ℕ) (x : ℤ) where
  pub cong_m_eq : {A B : Matrix} → A ≈⟨ n ⟩ B → CongM n x A B
  cong_m_eq e i j h k = cong_of_eq x (e i j h k)

  pub cong_m_refl : (A : Matrix) → CongM n x A A
  cong_m_refl A i j h k = cong_of_eq x refl

  pub cong_m_trans : {A B C : Matrix} → CongM n x A B → CongM n x B C → CongM n x A C
  cong_m_trans e f i j h k = cong_trans (e i j h k) (f i j h k)

  pub cong_m-· : {A A' B B' : Matrix} → CongM n x A A' → CongM n x B B' → CongM n x (A ·⟨ n ⟩ B) (A' ·⟨ n ⟩ B')
  cong_m-· e f i j h k = cong_sum x n (λ l m. cong-* (e i l h m) (f l j m k))
