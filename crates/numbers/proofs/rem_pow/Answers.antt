-- The code subtracts 1 from 2^(e - 1): what it computes is then the multiple, and the remainder, of `Shift`.
use mathlib.Core.Path.{◌≡◌, refl}
use Prim.Native.Nat.{◌-◌, ◌^◌}
use lib.IntN.{pos}
use Rattle.numbers.proofs.Machine.{rd, rd_got}
use Rattle.numbers.proofs.Remainders.Shift.{multiple_fits, remainder_fits, remainder_is}
use Rattle.numbers.proofs.rem_pow.Goals as goal

half : (c : goal.After-pow2) → rd c.pow2-h.result ≡ pos (2 ^ (c.args.e - 1))
half c = rd_got c.pow2-h.result c.pow2-h.type_inv c.pow2-h.ensures

whole : (c : goal.After-pow2) → rd c.pow2.result ≡ pos (2 ^ c.args.e)
whole c = rd_got c.pow2.result c.pow2.type_inv c.pow2.ensures

pub overflow_mul-result : goal.overflow_mul-result
overflow_mul-result c = multiple_fits c.args.v c.args.e c.requires.exponent c.ranges.v c.requires.room c.pow2-h.result _ c.pow2.result (half c) refl (whole c)

pub overflow_sub-result : goal.overflow_sub-result
overflow_sub-result c = remainder_fits c.args.v c.args.e c.requires.exponent c.ranges.v c.requires.room c.pow2-h.result _ c.pow2.result (half c) refl (whole c)

pub returns : goal.returns
returns c = remainder_is c.args.v c.args.e c.requires.exponent c.ranges.v c.requires.room c.pow2-h.result _ c.pow2.result (half c) refl (whole c)
