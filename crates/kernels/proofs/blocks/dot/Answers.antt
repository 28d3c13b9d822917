use mathlib.Core.Path.{◌≡◌, refl, ap₂}
use lib.IntN.{◌*ℤ◌}
use Rattle.numbers.specs.Numbers.{sum}
use Rattle.tables.specs.Tables.{table_at}
use Rattle.numbers.proofs.Machine.{rd, rd_is, rd_got}
use Rattle.kernels.proofs.Kernels.Blocks.{dot_gain_fits, dot_gained_fits, dot_more}
use Rattle.kernels.proofs.blocks.dot.Goals as goal

-- the product that is gained, of the numbers themselves
read : (c : goal.After-cell-in-loop-k)
    → rd c.cell.result *ℤ rd c.cell-in-loop-k.result ≡ table_at c.args.n c.args.a.now c.args.p c.args.i c.loop-k.k *ℤ table_at c.args.n c.args.b.now c.args.q c.loop-k.k c.args.j
read c = ap₂ ◌*ℤ◌ (rd_got c.cell.result c.cell.type_inv c.cell.ensures) (rd_got c.cell-in-loop-k.result c.cell-in-loop-k.type_inv c.cell-in-loop-k.ensures)

pub overflow_mul-s : goal.overflow_mul-s
overflow_mul-s c = rw (read c) (dot_gain_fits c.requires c.loop-k.k c.loop-k-test.true)

pub overflow_add-s : goal.overflow_add-s
overflow_add-s c =
    let h = c.loop-k-test.true in
    rw (c.loop-k.invariant, read c, rd_is (dot_gain_fits c.requires c.loop-k.k h)) (dot_gained_fits c.requires c.loop-k.k h)

pub loop-k-preserved : goal.loop-k-preserved
loop-k-preserved c = rw (c.loop-k.invariant, read c) (dot_more c.requires c.loop-k.k c.loop-k-test.true)

pub loop-k-init : goal.loop-k-init
unfolding sum
loop-k-init c = refl
