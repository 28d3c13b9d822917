use Rattle.std.proofs.Common.{rules}
use lib.Pow.{pow_pos}
use native.Mathlib.Omega.{arith}
use Rattle.numbers.proofs.Remainders.Moduli.{exponent_of}
use Rattle.kernels.proofs.Kernels.Blocks.{balance_gives}
use Rattle.kernels.proofs.Kernels.Columns.{remain_dot, remain_room, remain_same}
use Rattle.kernels.proofs.Kernels.Filling.{column_put}
use Rattle.kernels.proofs.columns.remain.Goals as goal

pub fill-requires : goal.fill-requires
fill-requires c =
    let r = c.requires in
    record {
      order = r.order;
      target = r.target;
      width = r.order.from;
      may = λ b i j h k s. let d = remain_dot r s h k in let x = exponent_of r.modulus in let y = remain_room r s h k in search rules;
    }

pub returns : goal.returns
returns c = column_put c.fill.ensures (λ i v h x. let y = remain_same c.requires x.reached h (omega arith) in let p = pow_pos c.args.e in search (rules, balance_gives))
