use Rattle.std.proofs.Common.{refl, ◌∙◌}
use Rattle.std.proofs.lemmas.Result.{err_from_is_err_and}
use Rattle.lifting.proofs.Calls.Refusals.{lift_refused}
use Rattle.lifting.proofs.Calls.Ready.{gives_done, in_setting, start_asks, step_asks, step_more}
use Rattle.lifting.proofs.lift.Goals as goal

pub returns-in_err-early : goal.returns-in_err-early
returns-in_err-early c =
    let p = err_from_is_err_and c.from_residual.result c.from_residual.ensures.1 in
    rw (p.1, p.2) (lift_refused c.in_err-early.field-0.0 c.in_err-early.ensures)

-- `early` says that the checks were passed
pub invariant_of-lifter : goal.invariant_of-lifter
invariant_of-lifter c = record { setting = in_setting (c.in_ok-early.ensures.ready refl) }

pub start-requires : goal.start-requires
start-requires c = start_asks (c.in_ok-early.ensures.ready refl) refl (c.has_inverse.ensures.yes c.if-not-has_inverse.false)

pub step-requires : goal.step-requires
step-requires c =
    let v = c.loop-t.invariant in
    step_asks (c.in_ok-early.ensures.ready refl) c.loop-t.t c.loop-t-test.true (v.1.0 ∙ c.start.ensures.long) v.1.1

pub loop-t-preserved : goal.loop-t-preserved
loop-t-preserved c =
    let v = c.loop-t.invariant in
    let d = c.step.ensures in
    (v.0, (d.long ∙ v.1.0, step_more c.loop-t.t v.1.1 d))

pub returns : goal.returns
returns c =
    let v = c.loop-t.invariant in
    gives_done (c.in_ok-early.ensures.ready refl) c.loop-t.t c.loop-t.auto.t-end c.loop-t-test.false (v.1.0 ∙ c.start.ensures.long) v.1.1
