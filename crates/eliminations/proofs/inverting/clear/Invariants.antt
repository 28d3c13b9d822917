use Rattle.eliminations.proofs.Reduction.Rows.{Sweeping}
use Prim.Native.Nat.{◌^◌}
use lib.ListN.{length}
use Rattle.eliminations.proofs.inverting.clear.Given as goal

abbrev pub invariant-loop-d : goal.invariant-loop-d
invariant-loop-d l = Sweeping (2 ^ 32) (length l.initial.t) l.d l.r l.row l.initial.t l.t
