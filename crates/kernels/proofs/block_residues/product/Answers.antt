use Rattle.kernels.proofs.Kernels.Filling.{filling_none, filling_put, reached, filled, block_put}
use Rattle.kernels.proofs.Kernels.Products.{products_kept, products_same}
use native.Mathlib.Omega.{arith}
use Prim.Native.Nat.{◌^◌}
use Rattle.kernels.proofs.block_residues.product.Goals as goal

pub loop-i-init : goal.loop-i-init
loop-i-init c = filling_none

pub product_row-requires : goal.product_row-requires
product_row-requires c = (products_kept c.requires (reached c.requires.order.from c.loop-i.invariant), c.loop-i-test.true)

pub loop-i-preserved : goal.loop-i-preserved
loop-i-preserved c =
    let h = c.loop-i-test.true in
    let s = reached c.requires.order.from c.loop-i.invariant in
    filling_put h c.loop-i.invariant c.product_row.ensures (λ j k. products_same (2 ^ 32) c.requires s _ j h k)

pub returns : goal.returns
returns c = block_put (filled (omega arith) c.loop-i.invariant) (λ i j v h k e. e)
