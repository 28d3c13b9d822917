use Rattle.std.proofs.Common.{rules}
use Rattle.numbers.proofs.Remainders.Moduli.{exponent_below}
use Rattle.kernels.proofs.Kernels.Blocks.{extend_gives}
use Rattle.kernels.proofs.Kernels.Filling.{block_put}
use Rattle.kernels.proofs.blocks.extend.Goals as goal

pub pow2-x-requires : goal.pow2-x-requires
pow2-x-requires c = exponent_below _ 63 c.requires.fits

pub returns : goal.returns
returns c =
    let r = c.requires in
    block_put c.fill.ensures (λ i j v h k x. let z = x.reached.rest _ r.apart i j h k in let m = r.room i j h k in search (rules, extend_gives))
