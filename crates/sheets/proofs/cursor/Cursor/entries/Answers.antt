use mathlib.Core.Path.{◌≡◌, ap}
use native.Mathlib.Omega.{arith}
use Rattle.sheets.specs.declared.number.Form.{Form}
use Rattle.sheets.proofs.Reading.Entries.{reading_order, reading_cells, reading_next, reading_stops, reading_done}
use Rattle.sheets.proofs.Reading.Turns.{ready_sane, ready_inside}
use Rattle.sheets.proofs.cursor.Cursor.entries.Goals as goal

pub entry_form-requires : goal.entry_form-requires
entry_form-requires c =
    let r = c.loop-i.invariant in (reading_order r, omega (arith, r.size, reading_cells r))

pub number-requires : goal.number-requires
number-requires c =
    let r = c.loop-i.invariant.ready in
    let e : c.entry_form.result.limit ≡ 1048576 = ap (λ (f : Form). f.limit) c.entry_form.ensures in
    (ready_sane r, ready_inside r, omega arith)

pub loop-i-preserved : goal.loop-i-preserved
loop-i-preserved c =
    reading_next c.loop-i.invariant (omega arith) c.entry_form.ensures c.number.ensures (c.in_ok-value.was)

pub returns-in_err-value : goal.returns-in_err-value
returns-in_err-value c =
    reading_stops c.loop-i.invariant (omega arith) _ c.from_residual.result c.entry_form.ensures c.number.ensures c.in_err-value.was c.from_residual.ensures.1

pub returns : goal.returns
returns c = reading_done c.loop-i.invariant (omega arith)
