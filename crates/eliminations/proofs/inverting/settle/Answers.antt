use Rattle.eliminations.proofs.Reduction.Rows.{settled}
use Rattle.eliminations.proofs.inverting.settle.Goals as goal

pub returns : goal.returns
returns c = settled c.clear.new.t c.lead.auto.t c.scale.auto.t c.lead.ensures c.scale.ensures c.clear.ensures
