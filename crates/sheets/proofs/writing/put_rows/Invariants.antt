use Rattle.sheets.proofs.Bytes.Written.{Rows}
use Rattle.sheets.proofs.writing.put_rows.Given as goal

abbrev pub invariant-loop-row : goal.invariant-loop-row
invariant-loop-row l =
    let rows = l.row-iterator in Rows l.initial.out l.at l.n l.figures rows.iter.size rows.n rows.iter.rest.now l.next l.out
