-- The vocabulary of inner contracts: a bool that answers.
--   Says P Q b   where b is true P holds, and where it is false Q does
--   Tells P b    b says whether P holds
use Rattle.std.specs.Prelude.{◌≡◌, Bool, true, false}

pub record Says (P Q : Type 0) (b : Bool) : Type 0 where
  pub yes : b ≡ true → P
  pub no : b ≡ false → Q

abbrev pub Tells : Type 0 → Bool → Type 0
Tells P b = Says P (¬ P) b
