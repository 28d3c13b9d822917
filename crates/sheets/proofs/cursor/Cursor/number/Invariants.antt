use Rattle.sheets.proofs.Reading.Scan.{Going}
use Rattle.sheets.proofs.cursor.Cursor.number.Given as goal

abbrev pub invariant-loop-b : goal.invariant-loop-b
invariant-loop-b l = Going l.form l.initial.c l.b-items l.c l.seen l.b-index
