-- Moduli, and the powers of 2 that the code shifts by: what a bound of a power says of its exponent, and which powers are moduli.
use Prim.Native.Nat.{ℕ, ◌^◌, ◌≤◌, ◌<◌}
use native.Mathlib.Omega.{arith}
use lib.Pow.{pow_mono}
use Rattle.numbers.specs.Numbers.{Enough}
use Rattle.numbers.specs.Moduli.{IsModulus, Suits}

pub exponent_below : (e k : ℕ) → 2 ^ e < 2 ^ k → e < k
exponent_below e k h = grind (arith, pow_mono)

pub exponent_upto : {e : ℕ} → 2 ^ e ≤ 2 ^ 32 → e ≤ 32
exponent_upto {e} h = let l = exponent_below e 33 (omega arith) in omega arith

pub exponent_of : {e : ℕ} → IsModulus (2 ^ e) → (1 ≤ e) × (e ≤ 32)
exponent_of {e} m = (exponent_below 0 e m.from, exponent_upto m.upto)

-- by an exponent that is enough
pub suits_of : {n h e : ℕ} → Enough n h e → e ≤ 32 → Suits n h (2 ^ e)
suits_of {e = e} k l = record { from = pow_mono {i = 14} {j = e} k.from; reaches = k.reaches; upto = pow_mono {i = e} {j = 32} l }
