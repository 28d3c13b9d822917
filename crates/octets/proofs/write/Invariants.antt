use Rattle.std.proofs.Common.{◌≡◌, ◌*◌, take}
use Rattle.octets.specs.Bytes.{encode}
use Rattle.octets.proofs.write.Given as goal

abbrev pub invariant-loop-i : goal.invariant-loop-i
invariant-loop-i l = take (8 * l.i) l.out ≡ encode (take l.i l.list)
