use Rattle.verdict.proofs.Rule.{judged_yes, judged_no}
use Rattle.verdict.proofs.Buffer.{in_buffer}
use Rattle.lifting.proofs.Expansions.Rules.{start_resp}
use Rattle.lifting.proofs.Calls.Holding.{holds_first, holds_stage, holds_low, holds_step}
use Rattle.tables.proofs.Algebra.Matrix.{≈-sym}
use native.Mathlib.Numerals.{add-one}
use native.Mathlib.Omega.{arith}
use mathlib.Core.Path.{◌≡◌, refl, ◌∙◌}
use Rattle.verdict.proofs.find.Goals as goal

pub loop-init : goal.loop-init
loop-init c =
    let f = c.fails.ensures in
    (c.fails.array_long, ((refl, (omega arith, omega arith)), holds_first (start_resp c.start.ensures.start (≈-sym (f.rest 0 (omega arith))) (≈-sym (f.rest 1 (omega arith))))))

pub returns-then-vanishes : goal.returns-then-vanishes
returns-then-vanishes c =
    judged_yes c.args.lifter.setting c.loop.invariant.1.1 (c.vanishes.ensures.yes c.if-vanishes.true)

pub step-requires : goal.step-requires
step-requires c =
    let g = c.args.lifter.setting in
    let v = c.loop.invariant in
    let m = g.lawful.order.upto in
    record {
      stage = holds_stage g v.1.1;
      here = in_buffer c.loop.r m (omega arith) v.0;
      low = holds_low g v.1.1;
      digit = in_buffer 3 m (omega arith) v.0;
      next = in_buffer c.loop.s m (omega arith) v.0;
      r_m = λ e. omega arith;
      r_s = λ e. omega arith;
      m_s = λ e. omega arith;
      base_m = λ e. omega arith;
      base_s = λ e. omega arith;
    }

pub loop-preserved : goal.loop-preserved
loop-preserved c =
    let v = c.loop.invariant in
    let q = c.step.ensures in
    (q.long ∙ v.0, ((omega arith, (omega arith, omega arith)), rw (c.swap.ensures.x_after, add-one) (holds_step (λ e. omega arith) (λ e. omega arith) v.1.1 q)))

pub returns-then-gone : goal.returns-then-gone
returns-then-gone c =
    judged_yes c.args.lifter.setting c.loop.invariant.1.1 (c.vanishes-gone.ensures.yes c.if-gone.true)

-- all k(n) steps are done
pub returns : goal.returns
returns c =
    let e : c.loop.counter ≡ c.args.k = omega arith in
    (c.has_inverse.ensures.yes c.if-not-has_inverse.false, judged_no c.args.lifter.setting (rw e at c.loop.invariant.1.1) c.requires.holds (c.vanishes-gone.ensures.no c.if-gone.false))
