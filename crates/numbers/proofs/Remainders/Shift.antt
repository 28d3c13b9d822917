-- The balanced remainder by X = 2^e as the code finds it: v - q·X, where q is v + (X/2 - 1) divided by X, rounded down.
use mathlib.Core.Path.{◌≡◌, refl}
use Prim.Native.Nat.{ℕ, ◌+◌, ◌*◌, ◌-◌, ◌^◌, ◌≤◌, ◌<◌}
use native.Mathlib.Nat.{lt_of_le_of_lt}
use native.Mathlib.Omega.{arith}
use lib.IntN.{ℤ, pos, nat_abs, ◌+ℤ◌, ◌-ℤ◌, ◌*ℤ◌}
use lib.Signed.{shr_z, mag_shr}
use lib.Pow.{pow_pos, pow_mono}
use mir.Syntax.{w64}
use mir.Val.{SFits}
use Rattle.numbers.specs.Numbers.{Balanced, IsRem}
use Rattle.numbers.specs.Remainder.{residue}
use Rattle.numbers.proofs.Algebra.RingSolver.{ring, if◌is◌by◌then◌, #◌, ◌⊕◌, ◌⊖◌, ◌⊗◌, ◌≐◌}
use Rattle.std.proofs.lemmas.Grind.{common_steps}
use Rattle.std.proofs.lemmas.Int.{ints, fits_signed_from_abs}
use Rattle.numbers.proofs.Machine.{rd, rd_is}
use Rattle.numbers.proofs.Remainders.Division.{residue_below, floor}
use Rattle.numbers.proofs.Remainders.Remainder.{balanced_size}

-- X/2 - 1, and the quotient
abbrev pub off : ℕ → ℤ
off e = pos (2 ^ (e - 1)) -ℤ pos 1

abbrev pub quo : ℤ → ℕ → ℤ
quo v e = shr_z (v +ℤ off e) (2 ^ e)

pow_half : (e : ℕ) → 1 ≤ e → 2 ^ e ≡ 2 * 2 ^ (e - 1)
pow_half e h = grind (arith, common_steps)

-- a number from 1 - X/2 to X/2 is balanced
half_balanced : (X h s : ℕ) → X ≡ 2 * h → s < X → Balanced X (pos s +ℤ pos 1 -ℤ pos h)
half_balanced X h s e l =
    record { above = omega (arith, ints); upto = omega (arith, ints) }

module _ (v : ℤ) (e : ℕ) where
  pub rem_pow_is : 1 ≤ e → IsRem (2 ^ e) v (v -ℤ quo v e *ℤ pos (2 ^ e))
  rem_pow_is l = record {
    balanced = rw left (half_balanced (2 ^ e) (2 ^ (e - 1)) s (pow_half e l) (residue_below (2 ^ e) (pow_pos e) (v +ℤ off e)));
    congruent = record { quot = quo v e; eqn = ring 3 (λ v q x. v ⊖ (v ⊖ q ⊗ x) ≐ x ⊗ q) tt v (quo v e) (pos (2 ^ e)) };
  }
    where
      s : ℕ
      s = residue (2 ^ e) (v +ℤ off e)

      left : v -ℤ quo v e *ℤ pos (2 ^ e) ≡ pos s +ℤ pos 1 -ℤ pos (2 ^ (e - 1))
      left =
          ring 5 (λ v q x s h. if v ⊕ (h ⊖ # 1) is x ⊗ q ⊕ s by # 1 then v ⊖ q ⊗ x ≐ s ⊕ # 1 ⊖ h) tt
          v (quo v e) (pos (2 ^ e)) (pos s) (pos (2 ^ (e - 1))) (floor (2 ^ e) (pow_pos e) (v +ℤ off e))

  pub rem_pow_size : 1 ≤ e → 2 * nat_abs (v -ℤ quo v e *ℤ pos (2 ^ e)) ≤ 2 ^ e
  rem_pow_size l = balanced_size (v -ℤ quo v e *ℤ pos (2 ^ e)) (rem_pow_is l).balanced

-- ---- the numbers on the way

module _ (e : ℕ) (upto : e ≤ 32) where
  pub pow_32 : 2 ^ e ≤ 2 ^ 32
  pow_32 = pow_mono upto

  pub off_size : nat_abs (off e) ≤ 2 ^ 33
  off_size =
      let h : 2 ^ (e - 1) ≤ 2 ^ 32 = pow_mono {i = e - 1} {j = 32} (omega arith) in
      omega (arith, ints)

  pub back_size : (v : ℤ) → 1 ≤ e → nat_abs (quo v e *ℤ pos (2 ^ e)) ≤ nat_abs v + 2 ^ 32
  back_size v l =
      omega (arith, ints, rem_pow_size v e l, pow_32)

-- and each fits a word
module _ (v : ℤ) (e : ℕ) (range : (1 ≤ e) × (e ≤ 32)) (fits : SFits w64 v) (room : nat_abs v + 2 ^ 40 < 2 ^ 63) where
  off_fits : SFits w64 (off e)
  off_fits = fits_signed_from_abs w64 (off e) (omega (arith, off_size e range.1))

  near_fits : SFits w64 (v +ℤ off e)
  near_fits = fits_signed_from_abs w64 (v +ℤ off e) (omega (arith, ints, off_size e range.1))

  quo_fits : SFits w64 (quo v e)
  quo_fits = record { sfits = lt_of_le_of_lt (mag_shr (v +ℤ off e) (2 ^ e)) near_fits.sfits }

  back_fits : SFits w64 (quo v e *ℤ pos (2 ^ e))
  back_fits = fits_signed_from_abs w64 (quo v e *ℤ pos (2 ^ e)) (omega (arith, back_size e range.1 v range.0))

  rest_fits : SFits w64 (v -ℤ quo v e *ℤ pos (2 ^ e))
  rest_fits = fits_signed_from_abs w64 (v -ℤ quo v e *ℤ pos (2 ^ e)) (omega (arith, rem_pow_size v e range.0, pow_32 e range.1))

  -- what the code computes, as it is read back of h = 2^(e - 1) and x = 2^e, where d is 1: a multiple of 2^e, and v less that
  module _ (h d x : ℤ) (half : rd h ≡ pos (2 ^ (e - 1))) (one : d ≡ pos 1) (whole : rd x ≡ pos (2 ^ e)) where
    multiple : rd (shr_z (rd (rd v +ℤ rd (rd h -ℤ d))) (2 ^ e)) *ℤ rd x ≡ quo v e *ℤ pos (2 ^ e)
    multiple = simp (one, half, whole, rd_is fits, rd_is off_fits, rd_is near_fits, rd_is quo_fits) refl

    pub multiple_fits : SFits w64 (rd (shr_z (rd (rd v +ℤ rd (rd h -ℤ d))) (2 ^ e)) *ℤ rd x)
    multiple_fits = rw multiple back_fits

    pub remainder_fits : SFits w64 (rd v -ℤ rd (rd (shr_z (rd (rd v +ℤ rd (rd h -ℤ d))) (2 ^ e)) *ℤ rd x))
    remainder_fits = rw (multiple, rd_is back_fits, rd_is fits) rest_fits

    pub remainder_is : IsRem (2 ^ e) v (rd (rd v -ℤ rd (rd (shr_z (rd (rd v +ℤ rd (rd h -ℤ d))) (2 ^ e)) *ℤ rd x)))
    remainder_is = rw (multiple, rd_is back_fits, rd_is fits, rd_is rest_fits) (rem_pow_is v e range.0)
