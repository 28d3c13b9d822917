use mathlib.Core.Path.{ap}
use Rattle.verdict.specs.declared.Outcome.{Outcome}
use Rattle.host.proofs.Refusals.{host_verdict}
use Rattle.host.proofs.rule.Goals as goal

pub returns : goal.returns
returns c =
    host_verdict c.verdict.result c.requires.1.0 c.read.ensures c.verdict.ensures (ap (λ (o : Outcome). o.number) c.outcome_of.ensures)
