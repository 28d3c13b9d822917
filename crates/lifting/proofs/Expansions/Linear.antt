-- Linear lifting, over any X and any table F: a residue stands for the sum of the digits so far, once X was used; it is one; and it exists.
use mathlib.Core.Path.{sym, subst}
use Prim.Native.Nat.{ℕ, suc, ◌*◌, ◌^◌, ◌≤◌, ◌<◌}
use native.Mathlib.Nat.{pow-suc}
use native.Mathlib.Omega.{arith}
use lib.IntN.{pos, nat_abs}
use Rattle.numbers.proofs.Algebra.Sum.{δ}
use Rattle.numbers.proofs.Remainders.Powers.{power_one}
use Rattle.numbers.proofs.Remainders.Remainder.{rem_is}
use Rattle.tables.specs.Tables.{Matrix, Below, ◌≈⟨◌⟩◌, ◌⊞◌, ◌⊙◌, ◌·⟨◌⟩◌, CongM}
use Rattle.tables.proofs.Algebra.Matrix.{≈-refl, ≈-sym, ≈-trans}
use Rattle.lifting.specs.Lifting.{IsStart}
use Rattle.lifting.specs.Linear.{IsLinear, unused, used}
use Rattle.lifting.specs.Steps.{digit_of, next_residue}
use Rattle.lifting.proofs.Expansions.Rules.{start_digit, digit_resp, digit_unique, digit_exists}
use Rattle.lifting.proofs.Expansions.Meaning.{first_means, digit_means}
use Rattle.lifting.proofs.Expansions.Bound.{first_bounded, digit_bounded}
use Rattle.lifting.proofs.Expansions.Stands.{Stands}

-- R_0 is the residue after X was used once
pub linear_start : {n X : ℕ} {A B R : Matrix} → IsStart n X A B R → IsLinear n X A B δ 1 R
linear_start {n} s = used (unused (≈-refl n δ)) (start_digit s)

-- the digit and the residue after it, computed
pub linear_more : {n X : ℕ} {A B F : Matrix} {m : ℕ} {R : Matrix} → 0 < X → CongM n (pos X) (A ·⟨ n ⟩ B) δ → IsLinear n X A B F m R → IsLinear n X A B F (suc m) (next_residue n X A B R)
linear_more {n} {X} {A} {B} {R = R} h right p = used p (digit_exists right R (digit_of n X B R) (λ i j a b. rem_is X h ((B ·⟨ n ⟩ R) i j)))

-- of a B_0 that agrees
pub linear_resp : {n X : ℕ} {A B C F : Matrix} {m : ℕ} {R : Matrix} → B ≈⟨ n ⟩ C → IsLinear n X A B F m R → IsLinear n X A C F m R
linear_resp b (unused e) = unused e
linear_resp {n} b (used {R = R} {D = D} {T = T} p d) = used (linear_resp b p) (digit_resp d b (≈-refl n R) (≈-refl n D) (≈-refl n T))

pub linear_unique : {n X : ℕ} {A B C F : Matrix} {m : ℕ} {R S : Matrix} → 0 < X → B ≈⟨ n ⟩ C → IsLinear n X A B F m R → IsLinear n X A C F m S → R ≈⟨ n ⟩ S
linear_unique h b (unused e) (unused f) = ≈-trans e (≈-sym f)
linear_unique {n} {X} {A} h b (used p d) (used q e) = (digit_unique n X h A b (linear_unique h b p q) d e).1

-- what a residue stands for, where F is small beside X
pub linear_stands : (n h X : ℕ) → 60 ≤ X → (A : Matrix) → Below n (λ i j. nat_abs (A i j) ≤ h) → {B F : Matrix} → Below n (λ i j. 10 * nat_abs (F i j) ≤ X)
    → {m : ℕ} {R : Matrix} → 1 ≤ m → IsLinear n X A B F m R → Stands n h A F R (X ^ m)
linear_stands n h X wide A low small l (unused e) = absurd (omega arith)
linear_stands n h X wide A low {B} {F} small l (used {D = D} {T = T} (unused e) d) =
    let c = digit_resp d (≈-refl n B) e (≈-refl n D) (≈-refl n T) in
    subst (λ (x : ℕ). Stands n h A F T x) (sym (power_one X)) (record { sum = D; means = first_means c; bounded = first_bounded n h X wide A low small c })
linear_stands n h X wide A low {F = F} small l (used {D = D} {T = T} (used {m = m} p c) d) =
    let q = linear_stands n h X wide A low small (omega arith) (used p c) in
    subst (λ (x : ℕ). Stands n h A F T x) (sym (pow-suc X (suc m))) (record {
      sum = q.sum ⊞ pos (X ^ suc m) ⊙ D;
      means = digit_means F d (X ^ suc m) q.sum q.means;
      bounded = digit_bounded n h X wide A low q.bounded d;
    })
