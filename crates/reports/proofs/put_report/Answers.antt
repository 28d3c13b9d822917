use mathlib.Core.Path.{◌≡◌}
use lib.IntN.{pos}
use lib.ListN.{length, replicate, length-replicate}
use Rattle.reports.proofs.Answered.{sheet_order, refused_near, sheet_puts, refused_puts}
use Rattle.reports.proofs.put_report.Goals as goal

zeros : length (replicate 1024 (pos 0)) ≡ 1024
zeros = length-replicate 1024 (pos 0)

pub certify-requires : goal.certify-requires
certify-requires c = sheet_order c.read.result zeros c.read.ensures c.in-Ok.is

pub put_refusal-requires : goal.put_refusal-requires
put_refusal-requires c =
    rw c.in-Err-Text.field-0-is (refused_near c.read.result zeros c.read.ensures (rw c.in-Err-Text.field-0-is at c.in-Err-Text.is))

pub returns-in-Ok : goal.returns-in-Ok
returns-in-Ok c =
    sheet_puts c.read.result zeros c.read.ensures c.in-Ok.is c.certify.ensures

pub returns-in-Err-Text : goal.returns-in-Err-Text
returns-in-Err-Text c =
    refused_puts c.read.result zeros c.read.ensures (rw c.in-Err-Text.field-0-is at c.in-Err-Text.is) (rw c.in-Err-Text.field-0-is at c.put_refusal.ensures)
