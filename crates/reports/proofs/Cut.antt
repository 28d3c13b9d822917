-- The report of a text is that of its first 9,220 bytes: so the program reads no more.
use mathlib.Core.List.{List}
use Prim.Native.Nat.{ℕ}
use lib.ListN.{take}
use Rattle.sheets.specs.Answer.{figures_of}
use Rattle.sheets.proofs.Cut.{cut}
use Rattle.reports.specs.Report.{IsReport}
use Rattle.reports.proofs.Reading.{blank, reading, reported}

pub report_cut : (t R : List ℕ) → IsReport (take 9220 t) R → IsReport t R
report_cut t R h =
    let r = reading (take 9220 t) R h in
    reported t R (record { answer = r.answer; left = r.left; says = cut t blank (figures_of r.answer) r.left r.says; shows = r.shows })
