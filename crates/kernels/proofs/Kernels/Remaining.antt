-- The remainder of a product by X, kernel by kernel: residues modulo a multiple M of X determine it.
use mathlib.Core.Path.{◌∙◌}
use mathlib.Core.List.{List}
use Prim.Native.Nat.{ℕ, ◌+◌, ◌*◌, ◌<◌}
use native.Mathlib.Omega.{arith}
use lib.IntN.{ℤ, pos}
use lib.ListN.{get_or, replicate}
use Rattle.numbers.specs.Numbers.{Cong}
use Rattle.numbers.specs.Remainder.{residue, rem}
use Rattle.numbers.proofs.Remainders.Congruence.{cong_of_eq, cong_trans, cong_down}
use Rattle.numbers.proofs.Remainders.Division.{residue_cong}
use Rattle.numbers.proofs.Remainders.Remainder.{rem_same}
use Rattle.tables.specs.Tables.{◌·⟨◌⟩◌, CongM, block}
use Rattle.tables.specs.Buffer.{BlockPut, Wrote}
use Rattle.tables.specs.Residues.{residues}
use Rattle.kernels.specs.Kernels.{Remain, residue_product}
use Rattle.tables.proofs.Algebra.Matrix.{cong_m_refl, cong_m-·}
use Rattle.tables.proofs.Buffers.Residues.{taken}

abbrev zeros : List ℕ
zeros = replicate 1024 0

-- y holds the residues of block b
abbrev Taken : ℕ → ℕ → List ℤ → ℕ → List ℕ → Type 0
Taken M n L b y = Wrote 0 (λ k. residue M (get_or L (b * (n * n) + k) (pos 0))) 0 (n * n) zeros y

pub remain_done : {n X : ℕ} {L : List ℤ} {p q o : ℕ} → Remain n X L p q o → (M : ℕ) {y : List ℕ} → Taken M n L q y → {K : List ℤ} → 0 < M → BlockPut n (residue_product M n (block n L p) y) o L K
    → {N : List ℤ} → Cong (pos X) (pos M) (pos 0) → BlockPut n (λ i j. rem X (block n K o i j)) o K N → BlockPut n (λ i j. rem X ((block n L p ·⟨ n ⟩ block n L q) i j)) o L N
remain_done {n} {X} {L} {p} {q} {o} r M {y} v {K} some w d t = record {
  long = t.long ∙ w.long;
  there = λ i j h k. t.there i j h k ∙ rem_same X (omega (arith, r.modulus.from)) (cong_down (same i j h k) d);
  rest = λ b f i j h k. t.rest b f i j h k ∙ w.rest b f i j h k;
}
  where
    same : CongM n (pos M) (block n K o) (block n L p ·⟨ n ⟩ block n L q)
    same i j h k =
        cong_trans (cong_of_eq (pos M) (w.there i j h k))
        (cong_trans (residue_cong M some ((block n L p ·⟨ n ⟩ residues n y) i j))
        (cong_m-· n (pos M) (cong_m_refl n (pos M) (block n L p)) (taken L (q * (n * n)) some v) i j h k))
