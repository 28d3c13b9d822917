-- The product of a block and a table of residues, row by row: a row is taken from block p, folded from zeros, and put into block o.
use mathlib.Core.Path.{◌≡◌, refl, sym, ap, ◌∙◌}
use mathlib.Core.List.{List, ◌++◌}
use Prim.Native.Nat.{ℕ, ◌+◌, ◌*◌, ◌<◌}
use native.Mathlib.Nat.{zero-add}
use native.Mathlib.Omega.{arith}
use lib.IntN.{ℤ, pos}
use lib.ListN.{length, get_or, take, drop, replicate, get_or-replicate}
use lib.Seq.{get_or-take, length-take-le}
use Rattle.numbers.specs.Remainder.{residue}
use Rattle.numbers.proofs.Remainders.Congruence.{Cong, cong_of_eq, cong_refl, cong_trans, cong-*, cong_sum}
use Rattle.numbers.proofs.Remainders.Division.{residue_cong, residue_same}
use Rattle.tables.specs.Tables.{◌≈⟨◌⟩◌, block}
use Rattle.tables.specs.Buffer.{RowPut, Wrote}
use Rattle.tables.specs.Residues.{residues, row_times, Folds}
use Rattle.kernels.specs.Kernels.{residue_product, Products}
use Rattle.tables.proofs.Algebra.Matrix.{≈-sym, ·-cong}
use Rattle.tables.proofs.Buffers.Wrote.{wrote_is, wrote_front}
use Rattle.tables.proofs.Buffers.Residues.{taken_part}
use Rattle.tables.proofs.Buffers.Places.{row_end}
use Rattle.tables.proofs.Buffers.Bounds.{low-≈}
use Rattle.kernels.specs.Entries.{Reached}

abbrev zeros : List ℕ
zeros = replicate 32 0

module _ {n : ℕ} {y : List ℕ} {L : List ℤ} {p o i : ℕ} (q : Products n y L p o) (h : i < n) where
  -- a place of row i
  place : (k : ℕ) → p * (n * n) + i * n + k ≡ p * (n * n) + (i * n + k)
  place k = omega arith

  -- the numbers of the row, taken
  pub row_taken : {k : ℕ} {x : List ℕ} (X : ℕ) → k ≡ n
      → Wrote 0 (λ t. residue X (get_or (take k (drop (p * (n * n) + i * n) L)) t (pos 0))) 0 (length (take k (drop (p * (n * n) + i * n) L))) zeros x
      → Wrote 0 (λ k. residue X (get_or L (p * (n * n) + i * n + k) (pos 0))) 0 n zeros x
  row_taken X e = taken_part X _ n L e (omega (arith, row_end h, q.left))

  -- the product of the row, in the front of a list of zeros
  pub row_folded : (X : ℕ) (x : List ℕ) {z : List ℕ} → Wrote 0 (row_times X (length (take n zeros)) x y (length (take n zeros))) 0 (length (take n zeros)) (take n zeros) z
      → Wrote 0 (row_times X n x y n) 0 n zeros (z ++ drop n zeros)
  row_folded X x w =
      let e = length-take-le n zeros q.order.upto in
      wrote_front n refl e q.order.upto w (λ j l. ap (λ (m : ℕ). row_times X m x y m j) e)

  module _ (X : ℕ) {x : List ℕ} (u : Wrote 0 (λ k. residue X (get_or L (p * (n * n) + i * n + k) (pos 0))) 0 n zeros x) where
    pub fold_asks : Folds (length (take n zeros)) x y (take n zeros)
    fold_asks =
        let e = length-take-le n zeros q.order.upto in
        rw e
        (record {
          order = q.order;
          left = rw u.long q.order.upto;
          right = q.right;
          target = omega arith;
          zero = λ j l. get_or-take n zeros j 0 l ∙ get_or-replicate 32 j 0 0 (omega (arith, q.order.upto));
        })

    -- the row taken is row i of block p, modulo X
    row_cong : 0 < X → (k : ℕ) → k < n → Cong (pos X) (pos (get_or x k 0)) (block n L p i k)
    row_cong some k l =
        cong_trans (cong_of_eq (pos X) (ap pos (sym (ap (λ (m : ℕ). get_or x m 0) (zero-add k)) ∙ u.inside k l)))
        (cong_trans (residue_cong X some (get_or L (p * (n * n) + i * n + k) (pos 0))) (cong_of_eq (pos X) (ap (λ (m : ℕ). get_or L m (pos 0)) (place k))))

    module _ {z : List ℕ} (w : Wrote 0 (row_times X n x y n) 0 n zeros z) where
      pub row_done : {M : List ℤ} → 0 < X → Wrote (pos 0) (λ j. pos (get_or z j 0)) (o * (n * n) + i * n) n L M → RowPut n (residue_product X n (block n L p) y) o i L M
      row_done some v = record {
        wrote = wrote_is v (λ j l. ap pos (sym (ap (λ (m : ℕ). get_or z m 0) (zero-add j)) ∙ w.inside j l
            ∙ residue_same X some (cong_sum (pos X) n (λ k m. cong-* (row_cong some k m) (cong_refl (residues n y k j))))));
      }

-- while block o is written, block p is as it was
pub products_kept : {n : ℕ} {y : List ℕ} {L K : List ℤ} {p o i j : ℕ} → Products n y L p o → Reached n o i j L K → Products n y K p o
products_kept {p = p} q b = record {
  order = q.order;
  left = omega (arith, q.left, b.long);
  right = q.right;
  target = omega (arith, q.target, b.long);
  apart = q.apart;
  low = low-≈ (≈-sym (b.rest p q.apart)) q.low;
}

pub products_same : (X : ℕ) {n : ℕ} {y : List ℕ} {L K : List ℤ} {p o i j : ℕ} → Products n y L p o → Reached n o i j L K → residue_product X n (block n K p) y ≈⟨ n ⟩ residue_product X n (block n L p) y
products_same X {n} {y} {p = p} q b r c h k =
    ap (λ z. pos (residue X z)) (·-cong n {B = residues n y} (b.rest p q.apart) (λ i j a c. refl) r c h k)
