-- The number that a call gives back: it is one, it tells what holds, and a list may follow another.
--   Matching rs ss   the numbers are the same, in the same order, and what each stands for holds in both lists or in neither
--   Passes rs        no number applies
--   fresh k rs       k is none of the numbers (a test)
--   apart rs         the numbers differ, and none is 0 (a test)
--   Learnt rs k      no number before k applies, and what k stands for holds; for 0, no number applies. It is computed from the list
use mathlib.Core.Path.{◌≡◌, refl, ◌∙◌}
use mathlib.Core.Bool.{Bool, true, false, not, ◌&&◌}
use mathlib.Core.Logic.{◌≢◌, ◌↔◌, inl, inr}
use Prim.Native.Nat.{ℕ, ◌<◌}
use native.Mathlib.Omega.{arith}
use lib.Dec.{T, eqb}
use Rattle.std.proofs.Common.{rules}
use Rattle.std.proofs.lemmas.Bool.Decides.{nat_tests}
use Rattle.numbers.specs.Refusals.{Refusals, done, ◌when◌then◌, ◌thereafter◌, Gives, Applies, Rising, Lowest, refused, none}

-- ---- the number is one

abbrev pub Matching : Refusals → Refusals → Type 0
Matching done done = Unit {0}
Matching done (k when Q then ss) = ⊥
Matching (j when P then rs) done = ⊥
Matching (j when P then rs) (k when Q then ss) = (j ≡ k) × ((P ↔ Q) × Matching rs ss)

pub matching_unique : (rs ss : Refusals) {j k : ℕ} → Matching rs ss → Gives rs j → Gives ss k → j ≡ k
matching_unique done done a p q = grind arith
matching_unique done (i when Q then ss) a p q = absurd a
matching_unique (i when P then rs) done a p q = absurd a
matching_unique (i when P then rs) (l when Q then ss) a p q = grind (arith, matching_unique rs ss)

-- and what the one gives, the other does
pub gives_same : (rs ss : Refusals) (k : ℕ) → Matching rs ss → Gives rs k → Gives ss k
gives_same done done k a g = g
gives_same done (l when Q then ss) k a g = absurd a
gives_same (i when P then rs) done k a g = absurd a
gives_same (i when P then rs) (l when Q then ss) k a g = let rest = gives_same rs ss k a.1.1 in grind arith

pub matching_itself : (rs : Refusals) → Matching rs rs
matching_itself done = tt
matching_itself (i when P then rs) = (refl, ((λ p. p, λ p. p), matching_itself rs))

pub gives_unique : (rs : Refusals) {j k : ℕ} → Gives rs j → Gives rs k → j ≡ k
gives_unique rs = matching_unique rs rs (matching_itself rs)

-- ---- a list after another

abbrev pub Passes : Refusals → Type 0
Passes done = Unit {0}
Passes (j when P then rs) = (¬ P) × Passes rs

-- what passes the first list is answered by the second
pub passes_on : (rs ss : Refusals) (k : ℕ) → Passes rs → Gives ss k → Gives (rs thereafter ss) k
passes_on done ss k p g = g
passes_on (j when P then rs) ss k p g = inr (p.0, passes_on rs ss k p.1 g)

-- what the first list refuses stays refused
pub refused_stays : (rs ss : Refusals) {k : ℕ} → k ≢ 0 → Gives rs k → Gives (rs thereafter ss) k
refused_stays done ss z g = absurd (z g)
refused_stays (j when P then rs) ss z g = let rest = refused_stays rs ss z in grind arith

abbrev pub fresh : ℕ → Refusals → Bool
fresh k done = true
fresh k (j when P then rs) = not (eqb j k) && fresh k rs

-- a number that is not of the first list comes from the second
pub from_second : (rs ss : Refusals) (k : ℕ) → T (fresh k rs) → Gives (rs thereafter ss) k → Passes rs × Gives ss k
from_second done ss k t g = (tt, g)
from_second (j when P then rs) ss k t g = let rest = from_second rs ss k in grind (arith, nat_tests)

-- ---- what a number tells

abbrev pub apart : Refusals → Bool
apart done = true
apart (j when P then rs) = not (eqb j 0) && (fresh j rs && apart rs)

abbrev Line : Bool → Type 0 → Type 0 → Type 0
Line true P Q = P
Line false P Q = (¬ P) × Q

abbrev pub Learnt : Refusals → ℕ → Type 0
Learnt done k = Unit {0}
Learnt (j when P then rs) k = Line (eqb j k) P (Learnt rs k)

-- a list gives none but its numbers and 0
given_other : (j : ℕ) (rs : Refusals) {k : ℕ} → j ≢ 0 → T (fresh j rs) → Gives rs k → j ≢ k
given_other j done z t g e = z (e ∙ g)
given_other j (i when P then rs) z t (inl p) e = grind (arith, nat_tests)
given_other j (i when P then rs) z t (inr p) e = given_other j rs z (search rules) p.1 e

pub learnt : (rs : Refusals) (k : ℕ) → T (apart rs) → Gives rs k → Learnt rs k
learnt done k t g = tt
learnt (j when P then rs) k t (inl p) = grind (arith, nat_tests)
learnt (j when P then rs) k t (inr p) =
    let f : j ≢ k = given_other j rs (grind (arith, nat_tests)) (search rules) p.1 in
    let rest = learnt rs k (search rules) p.1 in
    grind (arith, nat_tests)

-- ---- where the numbers rise, the first that applies is the lowest

-- what applies in a rising list lies above its bound
above : (m : ℕ) (rs : Refusals) {k : ℕ} → Rising m rs → Applies rs k → m < k
above m done r a = elim a [ ]
above m (i when P then rs) r a = grind (arith, above i rs)

pub gives_lowest : (m : ℕ) (rs : Refusals) {k : ℕ} → Rising m rs → Gives rs k → Lowest rs k
gives_lowest m done r e = none e (λ j a. a)
gives_lowest m (i when P then rs) r (inl p) = refused (record { holds = inl p; least = λ j a. let h = above i rs {k = j} r.1 in grind arith })
gives_lowest m (i when P then rs) {k} r (inr (f, p)) = go (gives_lowest i rs r.1 p)
  where
    go : Lowest rs k → Lowest (i when P then rs) k
    go (refused l) = refused (record { holds = inr l.holds; least = λ j a. let h = l.least j in grind arith })
    go (none e z) = none e (λ j a. let h = z j in grind arith)
