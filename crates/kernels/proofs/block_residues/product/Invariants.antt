use mathlib.Core.Path.{◌≡◌}
use Prim.Native.Nat.{◌^◌}
use Rattle.tables.specs.Tables.{block}
use Rattle.kernels.specs.Kernels.{residue_product}
use Rattle.kernels.proofs.Kernels.Filling.{Filling}
use Rattle.kernels.proofs.block_residues.product.Given as goal

abbrev pub invariant-loop-i : goal.invariant-loop-i
invariant-loop-i l = Filling l.n l.n (λ r c v. v ≡ residue_product (2 ^ 32) l.n (block l.n l.initial.buf l.p) l.y r c) l.o l.i 0 l.initial.buf l.buf
