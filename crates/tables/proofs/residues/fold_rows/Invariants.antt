use Rattle.std.proofs.Common.{◌^◌, length}
use Rattle.tables.proofs.Buffers.Residues.{Folding}
use Rattle.tables.proofs.residues.fold_rows.Given as goal

abbrev pub invariant-loop-k : goal.invariant-loop-k
invariant-loop-k l = Folding (2 ^ 32) (length l.initial.z) l.x l.y l.k l.initial.z l.z
