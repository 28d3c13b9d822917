use Rattle.std.proofs.Common.{ℕ, get_or, pos}
use Rattle.tables.specs.Buffer.{Wrote}
use Rattle.tables.proofs.residues.widen.Given as goal

abbrev pub invariant-loop-j : goal.invariant-loop-j
invariant-loop-j l = Wrote (pos 0) (λ (j : ℕ). pos (get_or l.z j 0)) 0 l.j l.initial.out l.out
