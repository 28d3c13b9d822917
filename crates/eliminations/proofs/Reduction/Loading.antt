-- Words that are filled column by column.
use mathlib.Core.Path.{◌≡◌, refl, ap, ◌∙◌}
use mathlib.Core.Logic.{◌≢◌}
use mathlib.Core.List.{List}
use Prim.Native.Nat.{ℕ, ◌+◌, ◌/◌, ◌%◌, ◌^◌, ◌<◌}
use native.Mathlib.Omega.{arith}
use borrow.Author.Count.{below_more}
use lib.Bits.{bit_xor}
use lib.IntN.{pos}
use lib.ListN.{length, set}
use lib.Seq.{get_or-set_same, get_or-set_other}
use Rattle.numbers.proofs.Remainders.Congruence.{Cong, cong_of_eq, cong_sym, cong_trans}
use Rattle.tables.specs.Tables.{Matrix, CongM}
use Rattle.eliminations.specs.Parity.{bits, Loaded}
use Rattle.eliminations.proofs.Reduction.Bits.{bit_lt, bit_zero, bit_of_xor, bit_same, bit_other}

-- ---- a word, bit by bit

pub load_none : {A : Matrix} {j : ℕ} → Loaded 0 A j 0
load_none = record { low = λ i h. absurd (omega arith); high = λ i h. bit_zero i }

module _ {m : ℕ} {A : Matrix} {j w : ℕ} (k : Loaded m A j w) where
  -- v has bit m, and no other bit is changed
  load_more : (v : ℕ) → Cong (pos 2) (pos (v / 2 ^ m % 2)) (A m j) → ((i : ℕ) → i ≢ m → v / 2 ^ i % 2 ≡ w / 2 ^ i % 2) → Loaded (m + 1) A j v
  load_more v e other = record {
    low = below_more (λ (i : ℕ). Cong (pos 2) (pos (v / 2 ^ i % 2)) (A i j)) m
        (λ i h. cong_trans (cong_of_eq (pos 2) (ap pos (other i (apart h)))) (k.low i h)) e;
    high = λ i h. other i (λ q. omega arith) ∙ k.high i (omega arith);
  }
    where
      apart : {i : ℕ} → i < m → i ≢ m
      apart h q = omega arith

  pub load_even : Cong (pos 2) (A m j) (pos 0) → Loaded (m + 1) A j w
  load_even e = load_more w (cong_trans (cong_of_eq (pos 2) (ap pos (k.high m (omega arith)))) (cong_sym e)) (λ i q. refl)

  pub load_odd : Cong (pos 2) (A m j) (pos 1) → Loaded (m + 1) A j (bit_xor w (2 ^ m))
  load_odd e =
      load_more (bit_xor w (2 ^ m))
      (cong_trans (cong_of_eq (pos 2) (ap pos (bit_of_xor w (2 ^ m) m ∙ omega (arith, k.high m (omega arith), bit_same m)))) (cong_sym e))
      (λ i q. bit_of_xor w (2 ^ m) i ∙ omega (arith, bit_lt w i, bit_other m i q))

-- ---- the words, one by one

-- the first m columns are those of A
pub record Filled (n m : ℕ) (A : Matrix) (l : List ℕ) : Type 0 where
  pub column : (j : ℕ) → j < m → (i : ℕ) → i < n → Cong (pos 2) (bits l i j) (A i j)

pub fill_none : {n : ℕ} {A : Matrix} (l : List ℕ) → Filled n 0 A l
fill_none l = record { column = λ j h. absurd (omega arith) }

pub fill_more : {n m : ℕ} {A : Matrix} {l : List ℕ} (w : ℕ) → m < length l → ((i : ℕ) → i < n → Cong (pos 2) (pos (w / 2 ^ i % 2)) (A i m))
    → Filled n m A l → Filled n (m + 1) A (set l m w)
fill_more {n} {m} {A} {l} w h e k = record {
  column = below_more (λ (j : ℕ). (i : ℕ) → i < n → Cong (pos 2) (bits (set l m w) i j) (A i j)) m
      (λ j g i q. cong_trans (word i (get_or-set_other l m j w 0 (apart g))) (k.column j g i q))
      (λ i q. cong_trans (word i (get_or-set_same l m w 0 h)) (e i q));
}
  where
    apart : {j : ℕ} → j < m → j ≢ m
    apart g q = omega arith

    word : {v u : ℕ} (i : ℕ) → v ≡ u → Cong (pos 2) (pos (v / 2 ^ i % 2)) (pos (u / 2 ^ i % 2))
    word i e = cong_of_eq (pos 2) (ap (λ (w : ℕ). pos (w / 2 ^ i % 2)) e)

pub fill_all : {n m : ℕ} {A : Matrix} {l : List ℕ} → m ≡ n → Filled n m A l → CongM n (pos 2) (bits l) A
fill_all e k i j hi hj = k.column j (rw e hj) i hi
