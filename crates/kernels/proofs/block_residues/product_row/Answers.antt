use Rattle.tables.proofs.Buffers.Places.{row_end}
use Rattle.tables.proofs.Buffers.Residues.{widened_part}
use Rattle.kernels.proofs.Kernels.Products.{row_taken, fold_asks, row_folded, row_done}
use native.Mathlib.Omega.{arith}
use Prim.Native.Nat.{◌^◌}
use Rattle.kernels.proofs.block_residues.product_row.Goals as goal

pub fold_rows-requires : goal.fold_rows-requires
fold_rows-requires c = let q = c.requires in fold_asks q.0 q.1 (2 ^ 32) (row_taken q.0 q.1 (2 ^ 32) (omega arith) c.take.ensures)

pub returns : goal.returns
returns c =
    let q = c.requires in
    let u = row_taken q.0 q.1 (2 ^ 32) (omega arith) c.take.ensures in
    let w = row_folded q.0 q.1 (2 ^ 32) _ c.fold_rows.ensures in
    row_done q.0 q.1 (2 ^ 32) u w (omega arith)
    (widened_part c.args.n _ (omega arith) (omega arith) (rw w.long q.0.order.upto) (omega (arith, row_end q.1, q.0.target)) c.widen.ensures.wrote)
