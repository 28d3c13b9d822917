-- The least number that passes a test, by trial: need(A) and k(n), computed. Two least numbers are equal.
use mathlib.Core.Path.{◌≡◌, refl, sym, subst}
use mathlib.Core.Bool.{Bool, true, false, ◌&&◌}
use Prim.Native.Nat.{ℕ, zero, suc, ◌+◌, ◌*◌, ◌^◌, ◌<◌, ◌≤◌}
use native.Mathlib.Omega.{arith}
use native.Mathlib.Nat.{two-pow-succ, not-suc-le-zero}
use native.Mathlib.Decide.{ℕ_discrete}
use Rattle.std.proofs.Common.{rules}
use lib.Dec.{T, leb, leb→le, le→leb}
use lib.Pow.{pow_mono}
use Rattle.numbers.specs.Numbers.{Least, Enough, IsNeed, IsLifts}

pub least_unique : (P : ℕ → Type 0) {j k : ℕ} → Least P j → Least P k → j ≡ k
least_unique P a b = grind arith

-- the first number from k up that passes p, and k + d where none of the d first does
abbrev pub first : ℕ → ℕ → (ℕ → Bool) → ℕ
first zero k p = k
first (suc d) k p = elim (p k) [ true ↦ k | false ↦ first d (suc k) p ]

at_least : (k j : ℕ) (p : ℕ → Bool) → ((i : ℕ) → i < k → ¬ T (p i)) → T (p j) → k ≤ j
at_least k j p below u = grind arith

pub first_least : (d k : ℕ) (p : ℕ → Bool) → ((j : ℕ) → j < k → ¬ T (p j)) → T (p (k + d)) → Least (λ j. T (p j)) (first d k p)
first_least zero k p below t =
    let e : k + 0 ≡ k = omega arith in
    record { holds = rw e at t; least = λ j u. at_least k j p below u }
first_least (suc d) k p below t = go (λ q. first_least d (suc k) p (more q) (subst (λ (i : ℕ). T (p i)) (sym e) t)) (p k) refl
  where
    e : suc k + d ≡ k + suc d
    e = omega arith

    more : p k ≡ false → (j : ℕ) → j < suc k → ¬ T (p j)
    more q j h u = elim (ℕ_discrete j k) [
      | yes r ↦ subst T q (subst (λ (i : ℕ). T (p i)) r u)
      | no r ↦ below j (omega arith) u
    ]

    go : (p k ≡ false → Least (λ j. T (p j)) (first d (suc k) p)) → (b : Bool) → p k ≡ b → Least (λ j. T (p j)) (elim b as (λ _. ℕ) [ true ↦ k | false ↦ first d (suc k) p ])
    go f true q = record { holds = subst T (sym q) tt; least = λ j u. at_least k j p below u }
    go f false q = f q

-- ---- need(A) and k(n)

pub below_pow : (n : ℕ) → n < 2 ^ n
below_pow zero = omega arith
below_pow (suc n) = let h = below_pow n in let e = two-pow-succ n in omega arith

-- a property, by a test that says the same
least_test : (P : ℕ → Type 0) (p : ℕ → Bool) {k : ℕ} → ((j : ℕ) → T (p j) → P j) → ((j : ℕ) → P j → T (p j)) → Least (λ j. T (p j)) k → Least P k
least_test P p {k} f g l = record { holds = f k l.holds; least = λ j h. l.least j (g j h) }

-- the test of Enough, for 4·n²·h = x
abbrev pub enough : ℕ → ℕ → Bool
enough x e = leb 14 e && leb x (2 ^ e)

pub enough_sound : (n h e : ℕ) → T (enough (4 * (n * n) * h) e) → Enough n h e
enough_sound n h e t = record { from = search rules; reaches = search rules }

unfoldable pub need : ℕ → ℕ → ℕ
need n h = let x = 4 * (n * n) * h in first x 14 (enough x)

pub need_is : (n h : ℕ) → IsNeed n h (need n h)
unfolding need
need_is n h =
    least_test (Enough n h) (enough x)
    (λ j t. enough_sound n h j t)
    (λ j p. search rules)
    (first_least x 14 (enough x) (λ j l t. search rules) (let h = reach in search rules))
  where
    x : ℕ
    x = 4 * (n * n) * h

    reach : x ≤ 2 ^ (14 + x)
    reach = let a = below_pow x in let b = pow_mono {i = x} {j = 14 + x} (omega arith) in omega arith

unfoldable pub lifts : ℕ → ℕ
lifts n = first n 0 (λ k. leb n (2 ^ (k + 1)))

pub lifts_is : (n : ℕ) → IsLifts n (lifts n)
unfolding lifts
lifts_is n =
    least_test (λ k. n ≤ 2 ^ (k + 1)) (λ k. leb n (2 ^ (k + 1))) (λ j t. leb→le n (2 ^ (j + 1)) t) (λ j p. le→leb n (2 ^ (j + 1)) p)
    (first_least n 0 (λ k. leb n (2 ^ (k + 1))) (λ j l t. not-suc-le-zero l) (le→leb n (2 ^ (0 + n + 1)) reach))
  where
    reach : n ≤ 2 ^ (0 + n + 1)
    reach = let a = below_pow n in let b = pow_mono {i = n} {j = 0 + n + 1} (omega arith) in omega arith
