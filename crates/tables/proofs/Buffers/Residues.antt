-- What a list of residues holds: the numbers it was taken from, modulo X; and a row of a product, product by product: after k of them z holds the
-- residues of the sums so far.
use mathlib.Core.Path.{◌≡◌, sym, ap, ap₂, ◌∙◌}
use mathlib.Core.List.{List}
use Prim.Native.Nat.{ℕ, ◌+◌, ◌*◌, ◌%◌, ◌≤◌, ◌<◌}
use native.Mathlib.Nat.{zero-add, zero-mod}
use native.Mathlib.Omega.{arith}
use lib.Arith.{digits_lt}
use lib.IntN.{ℤ, pos, ◌*ℤ◌}
use lib.ListN.{length, get_or, take, drop}
use borrow.Rule.Slice.PartMut.{put_mid}
use Rattle.std.proofs.lemmas.Grind.{common_steps}
use Rattle.numbers.specs.Remainder.{residue}
use Rattle.numbers.proofs.Algebra.Sum.{sum, sum_one}
use Rattle.numbers.proofs.Remainders.Congruence.{cong_of_eq, cong_trans}
use Rattle.numbers.proofs.Remainders.Division.{residue_cong, residue_fold}
use Rattle.tables.specs.Tables.{CongM}
use Rattle.tables.specs.Buffer.{Wrote}
use Rattle.tables.specs.Residues.{residues, row_times, Folds}
use Rattle.tables.proofs.Buffers.Wrote.{wrote_over, wrote_is, wrote_part, get_or_part, part_long}

-- x holds the residues of a table, which is in L from place p on
pub taken : {n X : ℕ} (L : List ℤ) (p : ℕ) {old x : List ℕ} → 0 < X → Wrote 0 (λ q. residue X (get_or L (p + q) (pos 0))) 0 (n * n) old x
    → CongM n (pos X) (residues n x) (λ i j. get_or L (p + (i * n + j)) (pos 0))
taken {n} {X} L p {x = x} some u i j h k =
    cong_trans (cong_of_eq (pos X) (ap pos (grind (arith, u.inside (i * n + j) (digits_lt h k)))))
    (residue_cong X some (get_or L (p + (i * n + j)) (pos 0)))

-- ---- a row, product by product

pub record Folding (X n : ℕ) (x y : List ℕ) (k : ℕ) (old new : List ℕ) : Type 0 where
  pub upto : k ≤ n
  pub wrote : Wrote 0 (row_times X n x y k) 0 n old new

pub folding_none : {X n : ℕ} {x y z : List ℕ} → Folds n x y z → Folding X n x y 0 z z
unfolding sum
folding_none {X} f = record { upto = omega arith; wrote = grind (arith, f.zero, zero-mod X) }

-- a row more: the residues of mid gain x[k] times row k of y, which is the m numbers of y from place k·n on
pub folding_more : {X n : ℕ} {x y : List ℕ} {k m : ℕ} {old mid new : List ℕ} → 0 < X → k < n → Folding X n x y k old mid → length mid ≡ n → m ≡ n
    → Wrote 0 (λ j. (get_or mid j 0 + get_or x k 0 * get_or (take m (drop (k * n) y)) j 0) % X) 0 (length mid) mid new → Folding X n x y (k + 1) old new
folding_more {X} {n} {x} {y} {k} {m} {mid = mid} some h f long p w = record {
  upto = omega arith;
  wrote = wrote_over f.wrote (rw long at w) (λ j l.
      ap₂ (λ (u v : ℕ). (u + get_or x k 0 * v) % X) (ap (λ (i : ℕ). get_or mid i 0) (sym (zero-add j)) ∙ f.wrote.inside j l) (get_or_part (k * n) m y j 0 (omega arith))
      ∙ residue_fold X some (sum k (λ l. pos (get_or x l 0) *ℤ residues n y l j)) (get_or x k 0) (get_or y (k * n + j) 0)
      ∙ ap (λ z. residue X z) (sym (sum_one k (λ l. pos (get_or x l 0) *ℤ residues n y l j))));
}

-- ---- rows of a table that stands in a list of residues, which are the m residues from place o on

pub folded_part : {o k : ℕ} (X x m : ℕ) (y : List ℕ) {z new : List ℕ} → k ≡ m → o + m ≤ length z
    → Wrote 0 (λ j. (get_or (take k (drop o z)) j 0 + x * get_or y j 0) % X) 0 (length (take k (drop o z))) (take k (drop o z)) new
    → Wrote 0 (λ j. (get_or z (o + j) 0 + x * get_or y j 0) % X) o m z (put_mid o k z new)
folded_part {o} {k} X x m y {z} e h w = wrote_part m e (part_long o m z e h) h w (λ j l. grind (arith, get_or_part))

pub scaled_part : {o k : ℕ} (X u m : ℕ) {t new : List ℕ} → k ≡ m → o + m ≤ length t
    → Wrote 0 (λ j. (0 + u * get_or (take k (drop o t)) j 0) % X) 0 (length (take k (drop o t))) (take k (drop o t)) new
    → Wrote 0 (λ j. (0 + u * get_or t (o + j) 0) % X) o m t (put_mid o k t new)
scaled_part {o} {k} X u m {t} e h w = wrote_part m e (part_long o m t e h) h w (λ j l. grind (arith, get_or_part))

pub widened_part : {o k n : ℕ} (m : ℕ) (z : List ℕ) {buf new : List ℤ} → k ≡ m → n ≡ m → m ≤ length z → o + m ≤ length buf
    → Wrote (pos 0) (λ j. pos (get_or (take n z) j 0)) 0 (length (take n z)) (take k (drop o buf)) new
    → Wrote (pos 0) (λ j. pos (get_or z j 0)) o m buf (put_mid o k buf new)
widened_part m z e f h g w = wrote_part m e (grind (arith, common_steps)) g w (λ j l. grind (arith, common_steps))

pub taken_part : {k : ℕ} (X p m : ℕ) (a : List ℤ) {old new : List ℕ} → k ≡ m → p + m ≤ length a
    → Wrote 0 (λ q. residue X (get_or (take k (drop p a)) q (pos 0))) 0 (length (take k (drop p a))) old new
    → Wrote 0 (λ q. residue X (get_or a (p + q) (pos 0))) 0 m old new
taken_part {k} X p m a {old} {new} e h w =
    wrote_is (rw (part_long p m a e h) at w) (λ j l. grind (arith, get_or_part))
