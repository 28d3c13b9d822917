use Rattle.std.proofs.Common.{◌≡◌, take}
use Rattle.octets.specs.Bytes.{decode}
use Rattle.octets.proofs.read.Given as goal

abbrev pub invariant-loop-i : goal.invariant-loop-i
invariant-loop-i l = take l.i l.out ≡ take l.i (decode l.bytes)
