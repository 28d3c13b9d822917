use lib.ListN.{length}
use Rattle.eliminations.proofs.Reduction.Words.{Cleared}
use Rattle.eliminations.proofs.parity.clear.Given as goal

abbrev pub invariant-loop-m : goal.invariant-loop-m
invariant-loop-m l = Cleared (length l.initial.p) l.m l.r l.initial.p l.p
