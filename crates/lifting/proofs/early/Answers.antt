-- What the checks have let pass is told by their tests, which `omega` finds.
use Rattle.std.proofs.Common.{refl, arith}
use Rattle.lifting.proofs.Calls.Refusals.{need_asks, early_0}
use Rattle.lifting.proofs.early.Goals as goal

pub need-requires : goal.need-requires
need-requires c = need_asks (c.in_ok-lawful.ensures.lawful refl) c.top.ensures

pub returns : goal.returns
returns c =
    early_0 (c.in_ok-lawful.ensures.lawful refl) (omega arith) c.in_ok-m.ensures.1 (omega arith) c.top.ensures c.need.ensures (omega arith) (omega arith)
