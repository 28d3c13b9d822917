use Rattle.std.proofs.Common.{rules, ◌∙◌}
use Rattle.kernels.proofs.Kernels.Filling.{column_put}
use Rattle.kernels.proofs.columns.copy.Goals as goal

pub returns : goal.returns
returns c = let r = c.requires in column_put c.fill.ensures (λ i v h x. search rules ∙ x.reached.rest _ r.apart i 0 h r.order.from)
