use Rattle.std.proofs.Common.{ℕ, ◌+◌, ◌*◌, ◌%◌, ◌^◌, get_or}
use Rattle.tables.specs.Buffer.{Wrote}
use Rattle.tables.proofs.residues.scale_row.Given as goal

abbrev pub invariant-loop-t : goal.invariant-loop-t
invariant-loop-t l = Wrote 0 (λ (j : ℕ). (0 + l.u * get_or l.initial.t-items j 0) % 2 ^ 32) 0 l.t-index l.initial.t-items l.t-items
