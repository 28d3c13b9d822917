-- An inverse turned over is an inverse of the table turned over: the entry of Aᵀ·Bᵀ at i and j is that of B·A at j and i, and B·A = I with A·B = I.
use mathlib.Core.Path.{◌≡◌}
use Prim.Native.Nat.{ℕ}
use lib.IntN.{pos}
use Rattle.numbers.proofs.Algebra.RingSolver.{ring, ◌⊗◌, ◌≐◌}
use Rattle.numbers.proofs.Algebra.Sum.{sum_cong, δ, δ_comm}
use Rattle.numbers.proofs.Remainders.Congruence.{cong_of_eq, cong_trans}
use Rattle.tables.specs.Tables.{Matrix, ◌·⟨◌⟩◌, ◌ᵀ, CongM, HasInverseMod}
use Rattle.tables.proofs.Inverses.TwoSided.{two_sided}

·-turned : (n : ℕ) (A B : Matrix) (i j : ℕ) → ((A ᵀ) ·⟨ n ⟩ (B ᵀ)) i j ≡ (B ·⟨ n ⟩ A) j i
·-turned n A B i j = sum_cong n (λ k h. ring 2 (λ a b. a ⊗ b ≐ b ⊗ a) tt (A k i) (B j k))

pub inverse_turned : (X n : ℕ) (A B : Matrix) → CongM n (pos X) (A ·⟨ n ⟩ B) δ → CongM n (pos X) ((A ᵀ) ·⟨ n ⟩ (B ᵀ)) δ
inverse_turned X n A B right i j k l =
    cong_trans (cong_of_eq (pos X) (·-turned n A B i j))
    (cong_trans (two_sided X n A B right j i l k) (cong_of_eq (pos X) (δ_comm j i)))

pub has_turned : (X n : ℕ) (A : Matrix) → HasInverseMod n X A → HasInverseMod n X (A ᵀ)
has_turned X n A w = record { inverse = w.inverse ᵀ; right = inverse_turned X n A w.inverse w.right }
