use Rattle.std.proofs.Common.{◌≡◌, ◌+◌, ◌^◌, ◌≤◌, length}
use Rattle.lifting.proofs.Calls.Holding.{Holds}
use Rattle.verdict.proofs.find.Given as goal

abbrev pub invariant-loop : goal.invariant-loop
invariant-loop l = (length l.buf ≡ 4096) × (((l.r + l.s ≡ 3) × ((1 ≤ l.r) × (1 ≤ l.s))) × Holds l.n (2 ^ l.lifter.exponent) l.lifter.table.now l.buf l.counter l.r)
