use Rattle.std.proofs.Common.{◌^◌, ◌≡◌, ◌≤◌, length}
use Rattle.tables.specs.Tables.{entries}
use Rattle.lifting.specs.Lifting.{Upto}
use Rattle.lifting.proofs.lift.Given as goal

abbrev pub invariant-loop-t : goal.invariant-loop-t
invariant-loop-t l = (l.lifts ≤ 4) × ((length l.expansion ≡ length l.initial.expansion) × Upto l.n (2 ^ l.exponent) l.t (entries l.n l.table) l.expansion)
