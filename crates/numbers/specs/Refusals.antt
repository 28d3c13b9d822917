-- The number that a call gives back.
--   Refusals          a call's numbers in the stated order, each with what it stands for: `1 when P then 2 when Q then done`
--   rs thereafter ss  the numbers of rs, and after them those of ss
--   Gives rs k        k is the first of them that applies, or 0 where none does
-- The order decides, not the size of a number. But where the numbers rise, the first that applies is the lowest (`gives_lowest`):
--   Applies rs k      number k applies, wherever it stands
--   Rising m rs       the numbers rise, from above m on
--   Lowest rs k       k is the lowest number that applies, or 0 where none does
use Rattle.std.specs.Prelude.{◌≡◌, ◌⊎◌, ℕ, ◌<◌}
use Rattle.numbers.specs.Numbers.{Least}

infixr 3 ◌when◌then◌ ◌thereafter◌
pub data Refusals : Type 1 where
  done : Refusals
  ◌when◌then◌ : ℕ → Type 0 → Refusals → Refusals

abbrev pub ◌thereafter◌ : Refusals → Refusals → Refusals
done thereafter ss = ss
(j when P then rs) thereafter ss = j when P then rs thereafter ss

abbrev pub Gives : Refusals → ℕ → Type 0
Gives done k = k ≡ 0
Gives (j when P then rs) k = (P × (k ≡ j)) ⊎ ((¬ P) × Gives rs k)

abbrev pub Applies : Refusals → ℕ → Type 0
Applies done k = ⊥
Applies (j when P then rs) k = (P × (k ≡ j)) ⊎ Applies rs k

abbrev pub Rising : ℕ → Refusals → Type 0
Rising m done = Unit {0}
Rising m (j when P then rs) = (m < j) × Rising j rs

pub data Lowest (rs : Refusals) (k : ℕ) : Type 0 where
  refused : Least (Applies rs) k → Lowest rs k
  none : k ≡ 0 → ((j : ℕ) → ¬ Applies rs j) → Lowest rs k
