use Rattle.sheets.proofs.Reading.Entries.{Reading}
use Rattle.sheets.proofs.cursor.Cursor.entries.Given as goal

abbrev pub invariant-loop-i : goal.invariant-loop-i
invariant-loop-i l = Reading l.text l.n l.c l.i l.cells
