use Prim.Native.Nat.{◌^◌}
use native.Mathlib.Omega.{arith}
use Rattle.lifting.proofs.Calls.Holding.{setting, enough_32}
use Rattle.lifting.proofs.Calls.Refusals.{need_asks}
use Rattle.verdict.proofs.Refusals.{leaves_none, need_of_top, found_none, verdict_yes, verdict_no}
use Rattle.verdict.proofs.ruled.Goals as goal

pub need-exponent-requires : goal.need-exponent-requires
need-exponent-requires c = need_asks c.requires c.top.ensures

pub invariant_of-lifter : goal.invariant_of-lifter
invariant_of-lifter c = record { setting = setting c.requires (enough_32 c.requires) (omega arith) }

pub returns-in-Whole : goal.returns-in-Whole
returns-in-Whole c =
    (verdict_yes c.requires (need_of_top c.args.a.now c.top.ensures c.need-exponent.ensures) c.lifts-lifts.ensures c.in-Whole.ensures.0, record { stage = λ z. c.in-Whole.ensures.1 })

pub returns-in-NoneModulo2 : goal.returns-in-NoneModulo2
returns-in-NoneModulo2 c =
    (verdict_no c.requires (need_of_top c.args.a.now c.top.ensures c.need-exponent.ensures) c.lifts-lifts.ensures (found_none (2 ^ 32) c.args.a.now c.find.new.buf c.in-NoneModulo2.is c.find.ensures), leaves_none (λ z. omega arith))
