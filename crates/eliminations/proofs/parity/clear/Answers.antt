use native.Mathlib.Omega.{arith}
use Rattle.eliminations.proofs.Reduction.Words.{words_pivot, words_pass, words_join, words_all}
use Rattle.eliminations.proofs.parity.clear.Goals as goal
use Rattle.eliminations.proofs.parity.clear.Goals.{then-m-r+then-has_bit, else-m-r, else-m-r-via-then-m-r+else-has_bit, else-m-r-via-else-m-r}

pub loop-m-preserved : goal.loop-m-preserved
loop-m-preserved c =
    let q = c.loop-m.invariant in
    elim c.if-m-r.branch [
      | then-m-r+then-has_bit w ↦ rw w.p-is (words_join q (omega arith) (omega arith) w.if-m-r.true (w.has_bit.ensures.yes w.if-has_bit.true))
      | else-m-r w ↦ rw w.p-is (elim w.else-m-r.branch [
        | else-m-r-via-then-m-r+else-has_bit v ↦ words_pass q v.if-m-r.true (v.has_bit.ensures.no v.if-has_bit.false)
        | else-m-r-via-else-m-r v ↦ words_pivot q v.if-m-r.false
      ])
    ]

pub returns : goal.returns
returns c = words_all c.loop-m.invariant (omega arith)
