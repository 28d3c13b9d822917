use Rattle.std.proofs.Common.{rules, ◌∙◌}
use Rattle.kernels.proofs.Kernels.Blocks.{shrink_at, shrink_same}
use Rattle.kernels.proofs.Kernels.Filling.{block_put}
use native.Mathlib.Omega.{arith}
use Rattle.kernels.proofs.blocks.shrink.Goals as goal

pub fill-requires : goal.fill-requires
fill-requires c =
    let r = c.requires.0 in
    record { order = r.order; target = r.target; width = omega arith; may = λ b i j h k s. let a = shrink_at r c.requires.1 s h k in search rules }

pub returns : goal.returns
returns c = block_put c.fill.ensures (λ i j v h k x. search rules ∙ shrink_same _ _ c.requires.0.apart x.reached h k)
