use Rattle.std.proofs.Common.{rules}
use lib.Pow.{pow_pos}
use Rattle.numbers.proofs.Remainders.Moduli.{exponent_of}
use Rattle.kernels.proofs.Kernels.Blocks.{balance_room, balance_gives}
use Rattle.kernels.proofs.Kernels.Filling.{block_put}
use native.Mathlib.Omega.{arith}
use Rattle.kernels.proofs.blocks.balance.Goals as goal

pub fill-requires : goal.fill-requires
fill-requires c =
    let r = c.requires in
    record { order = r.order; target = r.target; width = omega arith; may = λ b i j h k s. let x = exponent_of r.modulus in search (rules, balance_room) }

pub returns : goal.returns
returns c = block_put c.fill.ensures (λ i j v h k x. let p = pow_pos c.args.e in search (rules, balance_gives))
