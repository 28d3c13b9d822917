use native.Mathlib.Omega.{arith}
use Rattle.eliminations.proofs.Reduction.Rows.{held_here, sweep_none, sweep_pivot, sweep_row, sweep_all}
use Rattle.eliminations.proofs.inverting.clear.Goals as goal
use Rattle.eliminations.proofs.inverting.clear.Goals.{then-d-r, else-d-r}

pub loop-d-init : goal.loop-d-init
loop-d-init c = sweep_none (held_here c.args.t.now) c.requires.one

pub loop-d-preserved : goal.loop-d-preserved
loop-d-preserved c =
    let q = c.loop-d.invariant in
    elim c.if-d-r.branch [
      | then-d-r w ↦ rw w.t-is (sweep_row q (omega arith) (omega arith) c.requires.inside.0 (omega arith) w.if-d-r.true w.negative-f.ensures w.fold_front.ensures)
      | else-d-r w ↦ rw w.t-is (sweep_pivot q w.if-d-r.false)
    ]

pub returns : goal.returns
returns c = sweep_all c.loop-d.invariant (omega arith)
