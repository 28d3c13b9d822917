use Rattle.lifting.proofs.Calls.Stepping.{base_3, base_done}
use Rattle.lifting.proofs.steps.Lifter.base.Goals as goal

pub shrink-requires : goal.shrink-requires
shrink-requires c = base_3 c.args.self.setting c.requires c.identity.ensures c.balance.ensures

pub returns : goal.returns
returns c = base_done c.args.self.setting c.requires c.identity.ensures c.balance.ensures c.shrink.ensures
