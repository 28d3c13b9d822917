-- Sizes of tables, so that every sum on the way is exact: entries within 2^20, B_0 and digits within 2^31, residues within 2^25.
use mathlib.Core.List.{List}
use Prim.Native.Nat.{ℕ, ◌+◌, ◌*◌, ◌^◌, ◌≤◌, ◌<◌}
use native.Mathlib.Nat.{le_trans, mul-le-mul}
use native.Mathlib.Omega.{arith}
use lib.IntN.{ℤ}
use Rattle.numbers.specs.Limits.{IsOrder, Lawful}
use Rattle.numbers.specs.Numbers.{Balanced}
use Rattle.numbers.proofs.Remainders.Remainder.{rem_is, balanced_size}
use Rattle.tables.specs.Tables.{Matrix, Below, ◌·⟨◌⟩◌, entries, height}
use Rattle.tables.specs.Buffer.{Low}
use Rattle.tables.proofs.Checking.Heights.{height_at, legal_height}
use Rattle.lifting.specs.Steps.{Setting, rems}
use Rattle.lifting.proofs.Expansions.Stands.{Stands}
use Rattle.tables.proofs.Algebra.Matrix.{·-bound}

pub setting_some : {n X : ℕ} {A : List ℤ} → Setting n X A → 0 < X
setting_some g = omega (arith, g.suits.from)

pub low_more : {n c d : ℕ} {A : Matrix} → c ≤ d → Low n c A → Low n d A
low_more h l = record { low = λ i j a b. le_trans (l.low i j a b) h }

pub low_product : {n c d : ℕ} {A B : Matrix} (k : ℕ) → Low n c A → Low n d B → n * (c * d) ≤ k → Low n k (A ·⟨ n ⟩ B)
low_product {n} {c} {d} {A} {B} k p q h = record { low = λ i j a b. le_trans (·-bound n A B {a = c} {b = d} p.low q.low i j a b) h }

pub low_balanced : {n X : ℕ} {B : Matrix} → X ≤ 2 ^ 32 → Below n (λ i j. Balanced X (B i j)) → Low n (2 ^ 31) B
low_balanced {B = B} h p = record { low = λ i j a b. omega (arith, balanced_size (B i j) (p i j a b)) }

pub low_rems : {n X : ℕ} (F : Matrix) → 0 < X → X ≤ 2 ^ 32 → Low n (2 ^ 31) (rems X F)
low_rems {X = X} F some h = low_balanced {B = rems X F} h (λ i j a b. (rem_is X some (F i j)).balanced)

pub low_entries : {n : ℕ} {A : List ℤ} → Lawful n A → Low n (2 ^ 20) (entries n A)
low_entries {n} {A} l = record { low = λ i j a b. omega (arith, height_at A (i * n + j), legal_height A l.legal) }

-- 3·n·h / 5 is at most 2^25
pub stands_low : {n : ℕ} {A : List ℤ} {F R : Matrix} {x : ℕ} → Lawful n A → Stands n (height A) (entries n A) F R x → Low n (2 ^ 25) R
stands_low {n} {A} law q = record {
  low = λ i j a b.
      let m : n * height A ≤ 32 * 2 ^ 20 = mul-le-mul {n₂ = 32} {m₂ = 2 ^ 20} law.order.upto (legal_height A law.legal) in
      omega (arith, q.bounded.residue i j a b);
}

-- ---- the product of a table within 2^31 and one within 2^25

pub product_room : {n : ℕ} {A B : Matrix} → IsOrder n → Low n (2 ^ 31) A → Low n (2 ^ 25) B → Low n (2 ^ 62) (A ·⟨ n ⟩ B)
product_room o a b = low_product (2 ^ 62) a b (omega (arith, o.upto))
