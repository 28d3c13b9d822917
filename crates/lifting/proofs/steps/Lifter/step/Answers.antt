use Rattle.lifting.proofs.Calls.Stepping.{step_2, step_done}
use Rattle.lifting.proofs.steps.Lifter.step.Goals as goal

pub digit-requires : goal.digit-requires
digit-requires c = step_2 c.requires c.product.ensures

pub returns : goal.returns
returns c = step_done c.requires c.product.ensures c.digit.ensures
