-- An expansion by a power of p shows an inverse modulo p.
use mathlib.Core.List.{List}
use Prim.Native.Nat.{ℕ, ◌^◌, ◌≤◌}
use lib.IntN.{ℤ}
use Rattle.tables.specs.Tables.{Matrix, block, HasInverseMod}
use Rattle.tables.proofs.Inverses.Powers.{base_mod}
use Rattle.lifting.specs.Lifting.{IsExpansion}
use Rattle.lifting.proofs.Expansions.Rules.{start_right}

pub expansion_base : (p : ℕ) {n s e : ℕ} {A : Matrix} {L : List ℤ} → 1 ≤ e → IsExpansion n (p ^ e) s A L → HasInverseMod n p A
expansion_base p {n} {L = L} h x = base_mod p h (record { inverse = block n L 0; right = start_right x.blocks.start })
