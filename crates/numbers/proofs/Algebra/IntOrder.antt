-- The magnitude of an integer. A bound on an integer is stated of its magnitude, `nat_abs z ≤ n`, an order of native numbers, so that
-- `omega arith` does what is linear; with the set `ints` it reads integers too (`IntRing.antt`).
use mathlib.Core.Path.{◌≡◌, refl}
use mathlib.Core.Logic.{◌≢◌}
use Prim.Native.Nat.{ℕ, zero, suc, ◌+◌, ◌*◌, ◌≤◌, ◌<◌}
use native.Mathlib.Nat.{mul-le-mul, suc-mul}
use native.Mathlib.Omega.{arith}
use lib.IntN.{ℤ, pos, nat_abs, ◌-ℤ◌, ◌*ℤ◌}
use Rattle.std.proofs.lemmas.Int.{ints, unsigned_abs-mul}

pub nat_abs_sub : (a b : ℤ) → nat_abs (a -ℤ b) ≤ nat_abs a + nat_abs b
nat_abs_sub a b = omega (arith, ints)

pub *ℤ-bound : (a b : ℤ) {m n : ℕ} → nat_abs a ≤ m → nat_abs b ≤ n → nat_abs (a *ℤ b) ≤ m * n
*ℤ-bound a b h k = rw unsigned_abs-mul (mul-le-mul h k)

-- a multiple of x that is smaller than x is 0
pub small_multiple : (x z : ℤ) → nat_abs (x *ℤ z) < nat_abs x → z ≡ pos 0
small_multiple x z h = let e = go (nat_abs z) (rw unsigned_abs-mul at h) in omega (arith, ints, e)
  where
    go : (m : ℕ) → nat_abs x * m < nat_abs x → m ≡ 0
    go zero k = refl
    go (suc m) k = absurd (omega arith)

-- a number is no larger than a multiple of it that is not by 0
pub multiple_le : (t v : ℤ) {u : ℤ} {Q : ℕ} → t ≢ pos 0 → u ≡ t *ℤ v → nat_abs u ≤ Q → nat_abs v ≤ Q
multiple_le t v {u} {Q} f e h = go (nat_abs t) (λ z. f (omega (arith, ints))) (rw (e, unsigned_abs-mul) at h)
  where
    go : (m : ℕ) → m ≢ 0 → m * nat_abs v ≤ Q → nat_abs v ≤ Q
    go zero g k = absurd (g refl)
    go (suc m) g k = omega (arith, suc-mul m (nat_abs v))
