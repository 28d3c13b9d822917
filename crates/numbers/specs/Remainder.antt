-- The vocabulary of inner contracts: remainders, computed.
--   residue X v   the number from 0 to X - 1 that v is congruent to
--   rem X v       Rem(v): the residue, less X where it passes X/2
use Rattle.std.specs.Prelude.{cond, ℕ, suc, ◌-◌, ◌*◌, ◌%◌, leb, ℤ, pos, negsuc, ◌-ℤ◌}

abbrev pub residue : ℕ → ℤ → ℕ
residue X (pos a) = a % X
residue X (negsuc a) = X - suc (a % X)

unfoldable pub rem : ℕ → ℤ → ℤ
rem X v = cond (leb (2 * residue X v) X) (pos (residue X v)) (pos (residue X v) -ℤ pos X)
