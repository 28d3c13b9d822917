use Rattle.std.proofs.Common.{◌≡◌, ◌+◌, ◌*◌}
use Rattle.std.specs.Prelude.{None}
use Rattle.tables.specs.Checks.{Inside}
use Rattle.tables.proofs.checks.first_outside.Given as goal

abbrev pub invariant-loop-column : goal.invariant-loop-column
invariant-loop-column l = (l.found ≡ None) × Inside l.table (l.row * l.n + l.column)

abbrev pub invariant-rows : goal.invariant-rows
invariant-rows l = (l.found ≡ None) × Inside l.table (l.row * l.n)
