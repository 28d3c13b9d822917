use Rattle.std.proofs.Common.{◌≡◌, arith}
use Rattle.tables.proofs.Checking.Heights.{legal_of}
use Rattle.tables.proofs.checks.first_outside.Goals as goal

-- run to its end, the search has passed every entry
pub returns-after-rows : goal.returns-after-rows
returns-after-rows c =
    let full : c.rows.row ≡ c.args.n = omega arith in
    rw c.rows.invariant.0 (legal_of c.args.table.now (rw c.requires.1 (rw full at c.rows.invariant.1)))
