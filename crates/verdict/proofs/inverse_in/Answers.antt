use Rattle.verdict.proofs.Refusals.{not_yes, inverse_as_verdict, after_wide, after_done}
use Rattle.verdict.proofs.Standing.{front_size}
use Rattle.verdict.proofs.inverse_in.Goals as goal

pub returns-in_default : goal.returns-in_default
returns-in_default c =
    record { gives = rw c.outcome_of-in_default.ensures (inverse_as_verdict (front_size _ c.requires c.decide-ruling.array_long) (not_yes c.decide-ruling.result c.decide-ruling.ensures.0 c.in_default.not-Yes) c.decide-ruling.ensures.0) }

pub returns-then-invert : goal.returns-then-invert
returns-then-invert c =
    record { gives = rw c.outcome_of.ensures (after_done c.decide-ruling.ensures.0 (front_size _ c.requires c.invert.array_long) c.in-Yes.is (c.invert.ensures.yes c.if-invert.true)) }

pub returns-else-invert : goal.returns-else-invert
returns-else-invert c =
    record { gives = after_wide c.decide-ruling.ensures.0 (front_size _ c.requires c.invert.array_long) c.in-Yes.is (c.invert.ensures.no c.if-invert.false) }
