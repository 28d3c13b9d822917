use Rattle.tables.specs.Tables.{◌ᵀ}
use Rattle.eliminations.specs.Elimination.{None}
use Rattle.eliminations.specs.Inverting.{front}
use Prim.Native.Nat.{◌-◌, ◌≤◌}
use lib.ListN.{length}
use Rattle.eliminations.proofs.inverting.pivot.Given as goal

abbrev pub invariant-loop-s : goal.invariant-loop-s
invariant-loop-s l = (l.r ≤ l.s) × ((l.s ≤ length l.t) × None 2 l.s l.r (front l.t ᵀ))

abbrev pub decreases-loop-s : goal.decreases-loop-s
decreases-loop-s l = length l.t - l.s
