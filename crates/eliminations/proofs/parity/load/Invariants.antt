use Rattle.tables.specs.Tables.{entries}
use Rattle.eliminations.proofs.Reduction.Loading.{Filled}
use Rattle.eliminations.proofs.parity.load.Given as goal

abbrev pub invariant-loop-j : goal.invariant-loop-j
invariant-loop-j l = Filled l.n l.j (entries l.n l.a) l.p
