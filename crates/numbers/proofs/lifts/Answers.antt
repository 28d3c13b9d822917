use Rattle.std.proofs.Common.{rules}
use Rattle.numbers.proofs.Counting.Leasts.{bits_lifts}
use Rattle.numbers.proofs.lifts.Goals as goal

pub returns : goal.returns
returns c = rw c.saturating_sub.ensures (bits_lifts c.args.n c.requires (search rules))
