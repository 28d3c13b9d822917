-- Bounds of a table's entries: they depend on the entries alone, and those of a block are seen at its places.
use mathlib.Core.List.{List}
use Prim.Native.Nat.{ℕ, ◌+◌, ◌*◌, ◌/◌, ◌%◌, ◌≤◌, ◌<◌}
use native.Mathlib.Nat.{mod-lt, div-add-mod'}
use native.Mathlib.Omega.{arith}
use Rattle.std.proofs.lemmas.Nat.{rows}
use lib.IntN.{ℤ, pos, nat_abs}
use lib.ListN.{get_or}
use Rattle.numbers.specs.Limits.{IsOrder}
use Rattle.tables.specs.Tables.{Matrix, ◌≈⟨◌⟩◌, block}
use Rattle.tables.specs.Buffer.{Low}

pub low-≈ : {n c : ℕ} {A B : Matrix} → A ≈⟨ n ⟩ B → Low n c A → Low n c B
low-≈ e l = grind arith

-- a bound of a block, by places
pub low_flat : {n c : ℕ} (L : List ℤ) (b : ℕ) → IsOrder n → Low n c (block n L b) → (t : ℕ) → t < n * n → nat_abs (get_or L (b * (n * n) + t) (pos 0)) ≤ c
low_flat {n} L b o l t h = let q = l.low (t / n) (t % n) in grind (arith, rows, div-add-mod' t n, mod-lt)
