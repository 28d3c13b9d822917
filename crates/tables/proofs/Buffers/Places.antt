-- The places of a block: its entries row by row, where a row ends, a block written whole, and that writing one block keeps the others.
use mathlib.Core.Path.{◌≡◌}
use mathlib.Core.Logic.{◌≢◌, ◌⊎◌, inl, inr}
use mathlib.Core.List.{List}
use Prim.Native.Nat.{ℕ, ◌+◌, ◌*◌, ◌/◌, ◌%◌, ◌≤◌, ◌<◌}
use native.Mathlib.Nat.{mul-le-mul, le_refl}
use native.Mathlib.Decide.{dec_lt}
use native.Mathlib.Omega.{arith}
use lib.Arith.{digits_lt, digits_div, digits_mod}
use lib.IntN.{ℤ, pos}
use Rattle.std.proofs.lemmas.Nat.{row_fits}
use Rattle.tables.specs.Tables.{Matrix, ◌≈⟨◌⟩◌, block}
use Rattle.tables.specs.Buffer.{BlockPut, Wrote}

pub square_small : {n : ℕ} → n ≤ 32 → n * n ≤ 1024
square_small h = mul-le-mul h h

-- a matrix by places, row by row
abbrev pub flat : ℕ → Matrix → ℕ → ℤ
flat n F k = F (k / n) (k % n)

pub next_row : (i n : ℕ) → (i + 1) * n ≡ i * n + n
next_row i n = omega arith

-- where a row ends
pub row_end : {n i : ℕ} → i < n → i * n + n ≤ n * n
row_end {n} {i} h = row_fits i n n n h (le_refl n)

pub beside : (b o N : ℕ) → b ≢ o → (b * N + N ≤ o * N) ⊎ (o * N + N ≤ b * N)
beside b o N ne = elim (dec_lt b o) [
  | yes l ↦ inl (row_fits b N o N l (le_refl N))
  | no f ↦ inr (row_fits o N b N (omega arith) (le_refl N))
]

-- what is written in block o keeps the others
pub wrote_rest : {f : ℕ → ℤ} {P t : ℕ} {old new : List ℤ} (n o : ℕ) → o * (n * n) ≤ P → P + t ≤ o * (n * n) + n * n → Wrote (pos 0) f P t old new → (b : ℕ) → b ≢ o → block n new b ≈⟨ n ⟩ block n old b
wrote_rest n o from upto w b ne i j h k = grind (arith, beside, digits_lt)

pub put_of : {F : Matrix} {old new : List ℤ} (n o : ℕ) → Wrote (pos 0) (flat n F) (o * (n * n)) (n * n) old new → BlockPut n F o old new
put_of {F} n o w = record {
  long = w.long;
  there = λ i j h k. grind (arith, digits_lt, digits_div, digits_mod);
  rest = wrote_rest n o (omega arith) (omega arith) w;
}
