use Rattle.kernels.specs.Entries.{Gave}
use Rattle.kernels.proofs.Kernels.Filling.{Filling}
use Rattle.kernels.proofs.entries.fill.Given as goal

abbrev pub invariant-loop-i : goal.invariant-loop-i
invariant-loop-i g l = Filling l.n l.w (Gave g.F.Fn l.f l.n l.o l.initial.buf) l.o l.i 0 l.initial.buf l.buf

abbrev pub invariant-loop-j : goal.invariant-loop-j
invariant-loop-j g l = Filling l.n l.w (Gave g.F.Fn l.f l.n l.o l.fn.buf) l.o l.i l.j l.fn.buf l.buf
