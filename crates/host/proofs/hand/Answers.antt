use Rattle.std.proofs.Common.{arith}
use Rattle.host.proofs.Refusals.{host_written}
use Rattle.host.proofs.hand.Goals as goal

pub returns : goal.returns
returns c =
    let p = c.requires.bytes in
    host_written p.0 p.1.0 p.1.1 (omega arith) c.read.ensures c.inverse_in-k.ensures (omega arith) c.write.ensures
