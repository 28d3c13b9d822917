use native.Mathlib.Omega.{arith}
use Rattle.tables.proofs.Buffers.Residues.{folding_none, folding_more}
use Rattle.tables.proofs.residues.fold_rows.Goals as goal

pub loop-k-init : goal.loop-k-init
loop-k-init c = folding_none c.requires

pub loop-k-preserved : goal.loop-k-preserved
loop-k-preserved c = folding_more (omega arith) (omega arith) c.loop-k.invariant (omega arith) (omega arith) c.fold_row.ensures
