use native.Mathlib.Omega.{arith}
use Rattle.numbers.proofs.Machine.{rd_ok}
use Rattle.tables.specs.Tables.{entries}
use Rattle.eliminations.proofs.Reduction.Bits.{one_shl}
use Rattle.eliminations.proofs.Reduction.Loading.{load_even, load_odd}
use Rattle.eliminations.proofs.parity.column.Goals as goal
use Rattle.eliminations.proofs.parity.column.Goals.{then-odd, else-odd}

pub loop-i-preserved : goal.loop-i-preserved
loop-i-preserved c =
    let q = c.loop-i.invariant in
    let read = rd_ok (entries c.args.n c.args.a.now c.loop-i.i c.args.j) (omega arith) in
    elim c.if-odd.branch [
      | then-odd w ↦ rw (w.w-is, one_shl c.loop-i.i (omega arith)) (load_odd q (rw read at (c.odd.ensures.yes w.if-odd.true)))
      | else-odd w ↦ rw w.w-is (load_even q (rw read at (c.odd.ensures.no w.if-odd.false)))
    ]
