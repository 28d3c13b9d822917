-- The height of a table, and what a legal table's entries are.
use mathlib.Core.Path.{◌≡◌, ◌∙◌}
use mathlib.Core.List.{List, [], ◌∷◌, map}
use Prim.Native.Nat.{ℕ, suc, ◌+◌, ◌*◌, ◌^◌, ◌≤◌, ◌<◌, max}
use native.Mathlib.Decide.{dec_lt}
use native.Mathlib.Omega.{arith}
use lib.IntN.{ℤ, pos, nat_abs}
use lib.ListN.{length, get_or}
use Rattle.std.specs.List.{fold}
use Rattle.std.proofs.lemmas.Grind.{common_steps}
use Rattle.std.proofs.lemmas.Nat.{same_from_place}
use Rattle.numbers.specs.Limits.{IsEntry, Legal}
use Rattle.tables.specs.Tables.{Below, entries, height}
use Rattle.tables.specs.Checks.{Inside, IsFirst}

pub height_one : (L : List ℤ) → 1 ≤ height L
height_one [] = omega arith
height_one (a ∷ L) = omega (arith, height_one L)

pub height_at : (L : List ℤ) (m : ℕ) → nat_abs (get_or L m (pos 0)) ≤ height L
height_at [] m = omega arith
height_at (a ∷ L) m = grind (arith, common_steps, height_at L)

pub entries_low : (n : ℕ) (A : List ℤ) → Below n (λ i j. nat_abs (entries n A i j) ≤ height A)
entries_low n A i j a b = height_at A (i * n + j)

-- from the first entry to the last
pub height_fold : (L : List ℤ) → fold max 1 (map nat_abs L) ≡ height L
height_fold L = go 1 L (omega arith) ∙ (let h = height_one L in omega arith)
  where
    go : (m : ℕ) (L : List ℤ) → 1 ≤ m → fold max m (map nat_abs L) ≡ max m (height L)
    go m [] h = omega arith
    go m (v ∷ L) h = go (max m (nat_abs v)) L (omega arith) ∙ omega arith

-- ---- legal

pub legal_at : (L : List ℤ) → Legal L → (i : ℕ) → i < length L → IsEntry (get_or L i (pos 0))
legal_at [] p i h = omega arith
legal_at (z ∷ L) p i h = grind (arith, common_steps, legal_at L p.1)

pub legal_of : (L : List ℤ) → Inside L (length L) → Legal L
legal_of [] f = tt
legal_of (z ∷ L) f = (f 0 (omega arith), legal_of L (λ i h. f (suc i) (omega arith)))

pub legal_height : (L : List ℤ) → Legal L → height L ≤ 2 ^ 20
legal_height [] p = omega arith
legal_height (z ∷ L) p = omega (arith, legal_height L p.1)

-- the place that the search for an entry outside the range names is one
pub first_unique : {n : ℕ} {A : List ℤ} {i j k l : ℕ} → IsFirst n A i j → IsFirst n A k l → (i ≡ k) × (j ≡ l)
first_unique {n} {A} {i} {j} {k} {l} p q = same_from_place i j k l n p.column q.column (omega (arith, least p q, least q p))
  where
    least : {i j k l : ℕ} → IsFirst n A i j → IsFirst n A k l → k * n + l ≤ i * n + j
    least {i} {j} {k} {l} p q = elim (dec_lt (i * n + j) (k * n + l)) [ yes h ↦ absurd (p.outside (q.before (i * n + j) h)) | no f ↦ omega arith ]
