use Rattle.numbers.proofs.Remainders.Powers.{power_divides}
use Rattle.numbers.proofs.Remainders.Moduli.{exponent_of}
use Rattle.tables.proofs.Buffers.Residues.{taken_part}
use Rattle.kernels.proofs.Kernels.Remaining.{remain_done}
use native.Mathlib.Omega.{arith}
use Prim.Native.Nat.{◌*◌, ◌^◌}
use Rattle.kernels.proofs.blocks.remain.Goals as goal

pub returns : goal.returns
returns c =
    let r = c.requires in
    remain_done r (2 ^ 32) (taken_part (2 ^ 32) _ (c.args.n * c.args.n) _ (omega arith) r.right c.take.ensures) (omega arith) c.product.ensures (power_divides 2 (exponent_of r.modulus).1) c.balance.ensures
