use Rattle.std.proofs.Common.{ℕ, ◌^◌, get_or, pos}
use Rattle.tables.specs.Buffer.{Wrote}
use Rattle.numbers.specs.Remainder.{residue}
use Rattle.tables.proofs.residues.take.Given as goal

abbrev pub invariant-loop-q : goal.invariant-loop-q
invariant-loop-q l = Wrote 0 (λ (q : ℕ). residue (2 ^ 32) (get_or l.a q (pos 0))) 0 l.q l.initial.t l.t
