use Rattle.lifting.proofs.Calls.Columns.{column_2, column_done}
use Rattle.lifting.proofs.steps.Lifter.column_digit.Goals as goal

pub shrink-requires : goal.shrink-requires
shrink-requires c = column_2 c.requires c.remain.ensures

pub returns : goal.returns
returns c = column_done c.requires c.remain.ensures c.shrink.ensures
