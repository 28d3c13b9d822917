use Rattle.std.proofs.Common.{ℕ, ◌+◌, ◌*◌, ◌%◌, ◌^◌, get_or}
use Rattle.tables.specs.Buffer.{Wrote}
use Rattle.tables.proofs.residues.fold_row.Given as goal

abbrev pub invariant-loop-j : goal.invariant-loop-j
invariant-loop-j l = Wrote 0 (λ (j : ℕ). (get_or l.initial.z j 0 + l.x * get_or l.y j 0) % 2 ^ 32) 0 l.j l.initial.z l.z
