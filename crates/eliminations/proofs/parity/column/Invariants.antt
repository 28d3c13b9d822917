use Rattle.tables.specs.Tables.{entries}
use Rattle.eliminations.specs.Parity.{Loaded}
use Rattle.eliminations.proofs.parity.column.Given as goal

abbrev pub invariant-loop-i : goal.invariant-loop-i
invariant-loop-i l = Loaded l.i (entries l.n l.a) l.j l.w
