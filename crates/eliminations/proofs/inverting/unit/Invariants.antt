use Prim.Native.Nat.{◌^◌}
use Rattle.eliminations.proofs.Reduction.Units.{Led}
use Rattle.eliminations.proofs.inverting.unit.Given as goal

abbrev pub invariant-loop : goal.invariant-loop
invariant-loop l = Led (2 ^ 32) l.g l.counter l.h
