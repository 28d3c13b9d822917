use Prim.Native.Nat.{◌^◌}
use lib.ListN.{length}
use Rattle.tables.specs.Tables.{◌ᵀ, entries}
use Rattle.eliminations.specs.Elimination.{Going}
use Rattle.eliminations.specs.Inverting.{front, back}
use Rattle.eliminations.proofs.inverting.solve.Given as goal

abbrev pub invariant-loop-r : goal.invariant-loop-r
invariant-loop-r l = Going (length l.fn.t) (2 ^ 32) l.r (entries (length l.fn.t) l.a ᵀ) (back (length l.fn.t) l.t ᵀ) (front l.t ᵀ)
