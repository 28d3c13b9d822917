use Rattle.numbers.proofs.Machine.{rd_ok}
use Rattle.kernels.proofs.Kernels.Filling.{filling_more, filling_row, reached}
use native.Mathlib.Omega.{arith}
use Rattle.kernels.proofs.entries.fill.Goals as goal

pub loop-j-preserved : goal.loop-j-preserved
loop-j-preserved g c =
    let r = c.requires in
    let e = rd_ok c.f-v.result c.f-v.type_inv in
    filling_more _ c.loop-i-test.true c.loop-j-test.true r.width r.target (rw e (record { shown = _; reached = reached (omega arith) c.loop-j.invariant; says = c.f-v.ensures })) c.loop-j.invariant

pub loop-i-preserved : goal.loop-i-preserved
loop-i-preserved g c = filling_row c.requires.width (omega arith) c.loop-j.invariant
