-- Rem(v): `rem` computes it, and there is one.
use mathlib.Core.Path.{◌≡◌}
use mathlib.Core.Bool.{Bool, true, false, not, cond}
use Prim.Native.Nat.{ℕ, ◌*◌, ◌≤◌, ◌<◌}
use native.Mathlib.Omega.{arith}
use lib.Dec.{T, leb, leb→le, nleb→lt}
use lib.IntN.{ℤ, pos, nat_abs, ◌+ℤ◌, ◌-ℤ◌}
use Rattle.numbers.specs.Numbers.{Balanced, Cong, IsRem}
use Rattle.numbers.specs.Remainder.{residue, rem}
use Rattle.numbers.proofs.Algebra.RingSolver.{ring, if◌is◌by◌then◌, #◌, ◌⊕◌, ◌⊖◌, ◌⊗◌, ◌≐◌}
use Rattle.std.proofs.lemmas.Int.{ints}
use Rattle.numbers.proofs.Remainders.Congruence.{cong_sym, cong_trans, cong_near}
use Rattle.numbers.proofs.Remainders.Division.{residue_below, residue_cong}

-- twice a balanced number is at most X in magnitude
pub balanced_size : {X : ℕ} (v : ℤ) → Balanced X v → 2 * nat_abs v ≤ X
balanced_size {X} v b = omega (arith, ints)

pub balanced_unique : {X : ℕ} {a b : ℤ} → Balanced X a → Balanced X b → Cong (pos X) a b → a ≡ b
balanced_unique {X} {a} {b} p q c =
    cong_near c (omega (arith, ints))

pub rem_unique : {X : ℕ} {v a b : ℤ} → IsRem X v a → IsRem X v b → a ≡ b
rem_unique p q = balanced_unique p.balanced q.balanced (cong_trans (cong_sym p.congruent) q.congruent)

pub rem_is : (X : ℕ) → 0 < X → (v : ℤ) → IsRem X v (rem X v)
unfolding rem
rem_is X h v = go (leb (2 * r) X) (leb→le (2 * r) X) (nleb→lt (2 * r) X)
  where
    r : ℕ
    r = residue X v

    c : Cong (pos X) v (pos r)
    c = cong_sym (residue_cong X h v)

    go : (b : Bool) → (T b → 2 * r ≤ X) → (T (not b) → X < 2 * r) → IsRem X v (cond b (pos r) (pos r -ℤ pos X))
    go true f g =
        record {
          balanced = record { above = omega (arith, ints, f tt); upto = omega (arith, ints, f tt) };
          congruent = c;
        }
    go false f g =
        record {
          balanced = record { above = omega (arith, ints, g tt); upto = omega (arith, ints, residue_below X h v) };
          congruent = record {
            quot = c.quot +ℤ pos 1;
            eqn = ring 4 (λ v r x q. if v ⊖ r is x ⊗ q by # 1 then v ⊖ (r ⊖ x) ≐ x ⊗ (q ⊕ # 1)) tt v (pos r) (pos X) c.quot c.eqn;
          };
        }

-- congruent numbers have one remainder
pub rem_same : (X : ℕ) → 0 < X → {v w : ℤ} → Cong (pos X) v w → rem X v ≡ rem X w
rem_same X h {v} {w} c =
    let p = rem_is X h v in
    let q = rem_is X h w in
    balanced_unique p.balanced q.balanced (cong_trans (cong_sym p.congruent) (cong_trans c q.congruent))
