-- The vocabulary of the parity's inner contracts: a reader of the public calls can skip it.
--   bits p              the table whose columns are the words of p: bit i of word j is its entry in row i and column j
--   xored l d s         the list l with word s joined to word d: each bit of word d becomes the sum of both, modulo 2
--   Settles n r P P'    whatever A is, from r rows the work went on to r + 1
--   Loaded m A j w      the first m bits of w are the parities of column j, and it has no others
use Rattle.std.specs.Prelude.{◌≡◌, List, ℕ, ◌+◌, ◌/◌, ◌%◌, ◌^◌, ◌≤◌, ◌<◌, pos, get_or, set}
use Rattle.std.specs.Int.Bits.{bit_xor}
use Rattle.numbers.specs.Numbers.{Cong}
use Rattle.tables.specs.Tables.{Matrix}
use Rattle.eliminations.specs.Elimination.{Reaches}

abbrev pub bits : List ℕ → Matrix
bits p i j = pos (get_or p j 0 / 2 ^ i % 2)

abbrev pub xored : List ℕ → ℕ → ℕ → List ℕ
xored l d s = set l d (bit_xor (get_or l d 0) (get_or l s 0))

pub record Settles (n r : ℕ) (P P' : Matrix) : Type 0 where
  pub on : (A : Matrix) → Reaches n 2 r A P → Reaches n 2 (r + 1) A P'

pub record Loaded (m : ℕ) (A : Matrix) (j w : ℕ) : Type 0 where
  pub low : (i : ℕ) → i < m → Cong (pos 2) (pos (w / 2 ^ i % 2)) (A i j)
  pub high : (i : ℕ) → m ≤ i → w / 2 ^ i % 2 ≡ 0
