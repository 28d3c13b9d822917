use Rattle.std.proofs.Common.{rules, ◌∙◌}
use Rattle.kernels.proofs.Kernels.Blocks.{product_same}
use Rattle.kernels.proofs.Kernels.Filling.{block_put}
use Rattle.kernels.proofs.blocks.product.Goals as goal

pub returns : goal.returns
returns c = block_put c.fill.ensures (λ i j v h k x. search rules ∙ product_same c.requires x.reached i j h k)
