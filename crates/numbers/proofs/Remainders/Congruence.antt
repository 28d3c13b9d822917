-- Congruence of integers: `Cong x z w` says that z - w is a multiple of x. It is an equivalence that sums, differences and products keep,
-- and two congruent numbers that are nearer than x are equal.
use mathlib.Core.Path.{◌≡◌, refl, ap}
use Prim.Native.Nat.{ℕ, zero, suc, ◌<◌}
use native.Mathlib.Nat.{le_step, le_refl}
use lib.IntN.{ℤ, pos, neg_ℤ, nat_abs, ◌+ℤ◌, ◌-ℤ◌, ◌*ℤ◌}
use native.Mathlib.Omega.{arith}
use Rattle.std.proofs.lemmas.Int.{ints}
use Rattle.numbers.proofs.Algebra.IntOrder.{small_multiple}
use Rattle.numbers.proofs.Algebra.RingSolver.{ring, if◌is◌by◌then◌, #◌, ⊝◌, ◌⊕◌, ◌⊖◌, ◌⊗◌, ◌≐◌}
use Rattle.numbers.proofs.Algebra.Sum.{sum}
pub use Rattle.numbers.specs.Numbers.{Cong}

pub cong_of_eq : (x : ℤ) {z w : ℤ} → z ≡ w → Cong x z w
cong_of_eq x {z} {w} e = record { quot = pos 0; eqn = omega (arith, ints) }

pub cong_refl : {x : ℤ} (z : ℤ) → Cong x z z
cong_refl {x} z = cong_of_eq x refl

module _ {x z w : ℤ} (h : Cong x z w) where
  pub cong_sym : Cong x w z
  cong_sym = record { quot = neg_ℤ h.quot; eqn = ring 4 (λ x z w q. if z ⊖ w is x ⊗ q by ⊝ (# 1) then w ⊖ z ≐ x ⊗ ⊝ q) tt x z w h.quot h.eqn }

  pub cong_neg : Cong x (neg_ℤ z) (neg_ℤ w)
  cong_neg = record { quot = neg_ℤ h.quot; eqn = ring 4 (λ x z w q. if z ⊖ w is x ⊗ q by ⊝ (# 1) then ⊝ z ⊖ ⊝ w ≐ x ⊗ ⊝ q) tt x z w h.quot h.eqn }

  pub cong_sub_zero : Cong x (z -ℤ w) (pos 0)
  cong_sub_zero = record { quot = h.quot; eqn = omega (arith, ints, h.eqn) }

  -- modulo a divisor of the modulus
  pub cong_down : {t : ℤ} → Cong t x (pos 0) → Cong t z w
  cong_down {t} d =
      record {
        quot = d.quot *ℤ h.quot;
        eqn = ring 6 (λ t x z w p q. if x ⊖ # 0 is t ⊗ p by q then if z ⊖ w is x ⊗ q by # 1 then z ⊖ w ≐ t ⊗ (p ⊗ q)) tt t x z w d.quot h.quot d.eqn h.eqn;
      }

  -- nearer than the modulus, they are equal
  pub cong_near : nat_abs (z -ℤ w) < nat_abs x → z ≡ w
  cong_near k = let e = ap (λ q. x *ℤ q) (small_multiple x h.quot (rw h.eqn at k)) in omega (arith, ints, h.eqn, e)

  pub cong_trans : {v : ℤ} → Cong x w v → Cong x z v
  cong_trans {v} k =
      record {
        quot = h.quot +ℤ k.quot;
        eqn = ring 6 (λ x z w v q r. if z ⊖ w is x ⊗ q by # 1 then if w ⊖ v is x ⊗ r by # 1 then z ⊖ v ≐ x ⊗ (q ⊕ r)) tt x z w v h.quot k.quot h.eqn k.eqn;
      }

  module _ {z' w' : ℤ} (k : Cong x z' w') where
    pub cong-+ : Cong x (z +ℤ z') (w +ℤ w')
    cong-+ =
        record {
          quot = h.quot +ℤ k.quot;
          eqn = ring 7 (λ x z w z' w' q r. if z ⊖ w is x ⊗ q by # 1 then if z' ⊖ w' is x ⊗ r by # 1 then z ⊕ z' ⊖ (w ⊕ w') ≐ x ⊗ (q ⊕ r)) tt
              x z w z' w' h.quot k.quot h.eqn k.eqn;
        }

    pub cong-* : Cong x (z *ℤ z') (w *ℤ w')
    cong-* =
        record {
          quot = h.quot *ℤ z' +ℤ w *ℤ k.quot;
          eqn = ring 7 (λ x z w z' w' q r. if z ⊖ w is x ⊗ q by z' then if z' ⊖ w' is x ⊗ r by w then z ⊗ z' ⊖ w ⊗ w' ≐ x ⊗ (q ⊗ z' ⊕ w ⊗ r)) tt
              x z w z' w' h.quot k.quot h.eqn k.eqn;
        }

pub cong_of_sub : {x z w : ℤ} → Cong x (z -ℤ w) (pos 0) → Cong x z w
cong_of_sub {x} {z} {w} h = record { quot = h.quot; eqn = omega (arith, ints, h.eqn) }

-- modulo 0, congruent is equal
pub cong_zero : {z w : ℤ} → Cong (pos 0) z w → z ≡ w
cong_zero {z} {w} h = omega (arith, ints, h.eqn)

pub cong_sub : {x z w z' w' : ℤ} → Cong x z w → Cong x z' w' → Cong x (z -ℤ z') (w -ℤ w')
cong_sub h k = cong-+ h (cong_neg k)

pub cong_sum : (x : ℤ) (n : ℕ) {f g : ℕ → ℤ} → ((i : ℕ) → i < n → Cong x (f i) (g i)) → Cong x (sum n f) (sum n g)
unfolding sum
cong_sum x zero h = cong_of_eq x refl
cong_sum x (suc n) h = cong-+ (cong_sum x n (λ i k. h i (le_step k))) (h n (le_refl (suc n)))
