-- Lists of residues, in 32 bits each.
--   residues n t          the table that a list of residues holds, row by row
--   row_times X n x y k   the first k products of a row x and each column of a table y, summed, in residues modulo X
-- What the work on their rows asks:
--   Folds n x y z         the product of a row x and a table y is to be put into z, which is zero
use Rattle.std.specs.Prelude.{◌≡◌, List, ℕ, ◌+◌, ◌*◌, ◌≤◌, ◌<◌, pos, ◌*ℤ◌, length, get_or}
use Rattle.numbers.specs.Limits.{IsOrder}
use Rattle.numbers.specs.Numbers.{sum}
use Rattle.numbers.specs.Remainder.{residue}
use Rattle.tables.specs.Tables.{Matrix}

abbrev pub residues : ℕ → List ℕ → Matrix
residues n t i j = pos (get_or t (i * n + j) 0)

abbrev pub row_times : ℕ → ℕ → List ℕ → List ℕ → ℕ → ℕ → ℕ
row_times X n x y k j = residue X (sum k (λ l. pos (get_or x l 0) *ℤ residues n y l j))

pub record Folds (n : ℕ) (x y z : List ℕ) : Type 0 where
  pub order : IsOrder n
  pub left : n ≤ length x
  pub right : n * n ≤ length y
  pub target : n ≤ length z
  pub zero : (j : ℕ) → j < n → get_or z j 0 ≡ 0
