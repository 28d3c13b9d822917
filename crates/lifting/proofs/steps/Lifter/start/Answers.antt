use Rattle.numbers.proofs.Remainders.Powers.{power_divides}
use Rattle.numbers.proofs.Remainders.Moduli.{exponent_upto}
use Rattle.lifting.proofs.Calls.Stepping.{start_2}
use Rattle.lifting.proofs.steps.Lifter.start.Goals as goal

-- 2^e divides 2^32
pub base-requires : goal.base-requires
base-requires c =
    start_2 c.requires c.inverse.ensures (power_divides 2 (exponent_upto c.args.self.setting.suits.upto))
