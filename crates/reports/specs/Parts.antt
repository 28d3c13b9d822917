-- The vocabulary of the parts of report.
--   Puts P old r new   the first r bytes of new are a text with the property P, as far as it has room, and the others are as in old
use Rattle.std.specs.Prelude.{List, ℕ}
use Rattle.sheets.specs.Writing.{Put}

pub record Puts (P : List ℕ → Type 0) (old : List ℕ) (r : ℕ) (new : List ℕ) : Type 0 where
  pub text : List ℕ
  pub right : P text
  pub put : Put old 0 text r new
