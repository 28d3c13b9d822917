use Rattle.std.proofs.Common.{arith}
use mathlib.Core.Path.{◌≡◌}
use Prim.Native.Nat.{ℕ, ◌≤◌}
use lib.IntN.{pos}
use lib.ListN.{length, take, replicate, length-replicate}
use lib.Seq.{length-take-le}
use Rattle.tables.proofs.Buffers.Places.{square_small}
use Rattle.reports.proofs.Writing.{line_and_rows}
use Rattle.reports.proofs.certify.Goals as goal

room : (k : ℕ) → k ≤ 1024 → length (take k (replicate 1024 (pos 0))) ≡ k
room k h = length-take-le k (replicate 1024 (pos 0)) (omega (arith, length-replicate 1024 (pos 0)))

pub returns : goal.returns
returns c =
    line_and_rows (room _ (square_small c.requires.upto)) c.inverse-answer.ensures c.put_four-next.ensures (omega arith) c.put_rows.ensures
