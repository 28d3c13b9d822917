use mathlib.Core.Path.{sym, ap, ◌∙◌}
use Rattle.std.specs.Prelude.{Some}
use Rattle.sheets.proofs.Reading.Scan.{going_on}
use Rattle.sheets.proofs.cursor.Cursor.number.Goals as goal

pub loop-b-preserved : goal.loop-b-preserved
loop-b-preserved c =
    rw c.past-next.ensures (going_on c.loop-b.invariant c.loop-b-test.true (sym c.after.ensures ∙ c.in-Some.is ∙ ap Some c.in-Go.is))
