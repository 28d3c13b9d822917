use Rattle.sheets.specs.Sheet.{line}
use lib.ListN.{drop}
use Rattle.sheets.proofs.Bytes.Puts.{Partly}
use Rattle.sheets.proofs.writing.put_line.Given as goal

abbrev pub invariant-loop-i : goal.invariant-loop-i
invariant-loop-i l = Partly l.initial.out l.at (line l.figures) (line (drop l.i l.figures)) l.next l.out
