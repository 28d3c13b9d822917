use Rattle.std.proofs.Common.{ℕ, ◌<◌, true}
use Rattle.tables.specs.Tables.{block}
use Rattle.kernels.proofs.entries.all.Given as goal

abbrev pub invariant-loop-i : goal.invariant-loop-i
invariant-loop-i g l = (r c : ℕ) → r < l.i → c < l.w → g.F.Fn.post l.f (block l.n l.buf l.o r c, tt) true

abbrev pub invariant-loop-j : goal.invariant-loop-j
invariant-loop-j g l =
    ((r c : ℕ) → r < l.i → c < l.w → g.F.Fn.post l.f (block l.n l.buf l.o r c, tt) true) × ((c : ℕ) → c < l.j → g.F.Fn.post l.f (block l.n l.buf l.o l.i c, tt) true)
