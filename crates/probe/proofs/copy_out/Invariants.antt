use Rattle.tables.specs.Buffer.{Copied}
use Rattle.probe.proofs.copy_out.Given as goal

abbrev pub invariant-loop-k : goal.invariant-loop-k
invariant-loop-k l = Copied l.k l.view l.initial.out l.out
