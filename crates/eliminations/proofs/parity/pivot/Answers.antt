use mathlib.Core.Path.{ap}
use lib.IntN.{pos}
use Rattle.numbers.proofs.Remainders.Congruence.{cong_of_eq}
use Rattle.eliminations.specs.Parity.{bits}
use Rattle.eliminations.proofs.Reduction.Stages.{none_more}
use Rattle.eliminations.proofs.parity.pivot.Goals as goal

pub loop-s-preserved : goal.loop-s-preserved
loop-s-preserved c = none_more 2 _ _ (bits c.args.p.now) c.loop-s.invariant (cong_of_eq (pos 2) (ap pos (c.has_bit.ensures.no c.if-has_bit.false)))
