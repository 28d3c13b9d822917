-- What a table may be, and the numbers that refuse one.
--   IsOrder n          n is 1 to 32
--   IsEntry v          v is -2^20 to 2^20
--   All P L            P holds of every element of the list
--   Legal L            every number of the list is an entry
--   Lawful n A         the list A may be a table of order n: order, length and entries are right
--   IsNarrow v         v has the width of an inverse's entry: its magnitude is at most 2^37
--   lent_refusals P A   3 where a lent buffer has a wrong length, which is P; then 4 where the table A has an entry outside the range
--   table_refusals n P A   the same after 1, where n is no order: so begins every list but lift's
use Rattle.std.specs.Prelude.{◌≡◌, List, [], ◌∷◌, ℕ, ◌*◌, ◌^◌, ◌≤◌, ℤ, nat_abs, length}
use Rattle.numbers.specs.Refusals.{Refusals, done, ◌when◌then◌}

pub record IsOrder (n : ℕ) : Type 0 where
  pub from : 1 ≤ n
  pub upto : n ≤ 32

abbrev pub IsEntry : ℤ → Type 0
IsEntry v = nat_abs v ≤ 2 ^ 20

abbrev pub All : {T : Type 0} → (T → Type 0) → List T → Type 0
All P [] = Unit {0}
All P (v ∷ L) = P v × All P L

abbrev pub Legal : List ℤ → Type 0
Legal = All IsEntry

pub record Lawful (n : ℕ) (A : List ℤ) : Type 0 where
  pub order : IsOrder n
  pub size : length A ≡ n * n
  pub legal : Legal A

abbrev pub IsNarrow : ℤ → Type 0
IsNarrow v = nat_abs v ≤ 2 ^ 37

abbrev pub lent_refusals : Type 0 → List ℤ → Refusals
lent_refusals P A =
    3 when P then
    4 when ¬ Legal A then
    done

abbrev pub table_refusals : ℕ → Type 0 → List ℤ → Refusals
table_refusals n P A =
    1 when ¬ IsOrder n then
    lent_refusals P A
