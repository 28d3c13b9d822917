use Rattle.std.proofs.Common.{rules}
use Rattle.tables.proofs.Buffers.Wrote.{front_copied}
use Rattle.verdict.proofs.Standing.{copied_out}
use Rattle.verdict.proofs.inverse.Goals as goal

pub returns : goal.returns
returns c =
    copied_out (search rules) c.inverse_in-answer.array_long c.inverse_in-answer.ensures (search rules) (search rules)
    (front_copied (search rules) (search rules) (search rules))
