use mathlib.Core.Path.{◌≡◌}
use lib.IntN.{◌*ℤ◌}
use Rattle.numbers.specs.Numbers.{sum}
use Rattle.tables.specs.Tables.{table_at}
use Rattle.kernels.proofs.blocks.dot.Given as goal

abbrev pub invariant-loop-k : goal.invariant-loop-k
invariant-loop-k l = l.s ≡ sum l.k (λ m. table_at l.n l.a l.p l.i m *ℤ table_at l.n l.b l.q m l.j)
