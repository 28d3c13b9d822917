use Rattle.sheets.proofs.Bytes.Written.{rows_start, rows_turn, rows_end}
use Rattle.sheets.proofs.writing.put_rows.Goals as goal

pub loop-row-init : goal.loop-row-init
loop-row-init c = rows_start c.args.out.now c.args.at (cc) (cc) (cc)

pub loop-row-preserved : goal.loop-row-preserved
loop-row-preserved c =
    let (s, l) = c.in-Some.ensures.steps in
    rows_turn c.loop-row.invariant c.in-Some.row.now s.0 l s.1.0 s.1.1 c.put_line-next.ensures

pub returns : goal.returns
returns c = rows_end c.loop-row.invariant (λ k. (c.in-None.ensures.steps k).1.0)
