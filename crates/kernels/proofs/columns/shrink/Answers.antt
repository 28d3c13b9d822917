use Rattle.std.proofs.Common.{rules, ◌∙◌}
use Rattle.kernels.proofs.Kernels.Blocks.{shrink_same}
use Rattle.kernels.proofs.Kernels.Columns.{shrink_at}
use Rattle.kernels.proofs.Kernels.Filling.{column_put}
use Rattle.kernels.proofs.columns.shrink.Goals as goal

pub fill-requires : goal.fill-requires
fill-requires c =
    let r = c.requires in
    record { order = r.order; target = r.target; width = r.order.from; may = λ b i j h k s. let a = shrink_at r s h k in search rules }

pub returns : goal.returns
returns c = column_put c.fill.ensures (λ i v h x. search rules ∙ shrink_same _ _ c.requires.apart x.reached h c.requires.order.from)
