use Rattle.eliminations.specs.Elimination.{None}
use Rattle.eliminations.specs.Parity.{bits}
use Rattle.eliminations.proofs.parity.pivot.Given as goal

abbrev pub invariant-loop-s : goal.invariant-loop-s
invariant-loop-s l = None 2 l.s l.r (bits l.p)
