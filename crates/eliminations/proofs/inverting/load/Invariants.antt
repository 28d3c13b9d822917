use Rattle.tables.specs.Tables.{entries}
use Rattle.eliminations.proofs.Reduction.Ends.{Loading}
use Prim.Native.Nat.{◌^◌}
use Rattle.eliminations.proofs.inverting.load.Given as goal

abbrev pub invariant-loop-i : goal.invariant-loop-i
invariant-loop-i l = Loading (2 ^ 32) l.n l.i (entries l.n l.a) l.t
