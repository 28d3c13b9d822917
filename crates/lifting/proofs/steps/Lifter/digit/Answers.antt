use Rattle.lifting.proofs.Calls.Stepping.{digit_2, digit_done}
use Rattle.lifting.proofs.steps.Lifter.digit.Goals as goal

pub shrink-requires : goal.shrink-requires
shrink-requires c = digit_2 c.requires c.remain.ensures

pub returns : goal.returns
returns c = digit_done c.requires c.remain.ensures c.shrink.ensures
