use Rattle.std.proofs.Common.{◌^◌}
use Rattle.numbers.proofs.Algebra.Sum.{δ}
use Rattle.lifting.proofs.Calls.Following.{Follows}
use Rattle.verdict.proofs.fails.Given as goal

abbrev pub invariant-loop : goal.invariant-loop
invariant-loop l = Follows l.n (2 ^ l.lifter.exponent) l.lifter.table.now δ l.initial.buf l.counter l.buf
