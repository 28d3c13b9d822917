use native.Mathlib.Omega.{arith}
use Rattle.numbers.proofs.Remainders.Moduli.{exponent_upto}
use Rattle.kernels.proofs.Kernels.Blocks.{shrunk_gives}
use Rattle.kernels.proofs.entries.shrunk.Goals as goal

pub overflow_shr-result : goal.overflow_shr-result
overflow_shr-result c = omega (arith, exponent_upto c.requires.upto)

pub returns : goal.returns
returns c = shrunk_gives c.requires c.cell.type_inv c.cell.ensures c.dot.type_inv c.dot.ensures
