use mathlib.Core.Path.{◌≡◌}
use lib.ListN.{length}
use Rattle.tables.specs.Tables.{entries}
use Rattle.eliminations.specs.Elimination.{Reaches}
use Rattle.eliminations.specs.Parity.{bits}
use Rattle.eliminations.proofs.parity.has_inverse.Given as goal

abbrev pub invariant-loop-r : goal.invariant-loop-r
invariant-loop-r l = (length l.p ≡ l.n) × Reaches l.n 2 l.r (entries l.n l.a) (bits l.p)
