-- The number rules as tests that compute, and what a passed test says.
use mathlib.Core.Path.{◌≡◌, ap, ◌∙◌}
use mathlib.Core.Bool.{Bool, ◌&&◌}
use Prim.Native.Nat.{ℕ, suc, ◌/◌, ◌%◌}
use native.Mathlib.Nat.{div-add-mod, mul-mod_right}
use native.Mathlib.Omega.{arith}
use Rattle.std.proofs.Common.{rules}
use lib.Dec.{T, eqb, eqb→eq}
use lib.IntN.{ℤ, pos, negsuc, neg_ℤ, nat_abs, ◌-ℤ◌, ◌*ℤ◌}
use lib.Signed.{lt_z, le_z}
use Rattle.numbers.specs.Numbers.{Balanced, Cong, IsRem}
use Rattle.std.proofs.lemmas.Int.{ints, unsigned_abs-mul}

abbrev pub balanced : ℕ → ℤ → Bool
balanced X v = lt_z (neg_ℤ (pos X)) (pos 2 *ℤ v) && le_z (pos 2 *ℤ v) (pos X)

abbrev pub congruent : ℕ → ℤ → ℤ → Bool
congruent X a b = eqb (nat_abs (a -ℤ b) % X) 0

abbrev pub is_rem : ℕ → ℤ → ℤ → Bool
is_rem X v r = balanced X r && congruent X v r

pub balanced_sound : (X : ℕ) (v : ℤ) → T (balanced X v) → Balanced X v
balanced_sound X v t = record { above = search rules; upto = search rules }

-- a whole number whose magnitude X divides
multiple : (X : ℕ) (z : ℤ) → nat_abs z % X ≡ 0 → (q : ℤ) × (z ≡ pos X *ℤ q)
multiple X (pos a) e = (pos (a / X), omega (arith, ints, div-add-mod a X))
multiple X (negsuc a) e = (neg_ℤ (pos (suc a / X)), grind (arith, ints, div-add-mod (suc a) X))

pub congruent_sound : (X : ℕ) (a b : ℤ) → T (congruent X a b) → Cong (pos X) a b
congruent_sound X a b t =
    let (q, e) = multiple X (a -ℤ b) (eqb→eq (nat_abs (a -ℤ b) % X) 0 t) in record { quot = q; eqn = e }

pub is_rem_sound : (X : ℕ) (v r : ℤ) → T (is_rem X v r) → IsRem X v r
is_rem_sound X v r t = record { balanced = balanced_sound X r (search rules); congruent = congruent_sound X v r (search rules) }

pub congruent_complete : (X : ℕ) (a b : ℤ) → Cong (pos X) a b → T (congruent X a b)
congruent_complete X a b c =
    let e : nat_abs (a -ℤ b) % X ≡ 0 = ap (λ z. nat_abs z % X) c.eqn ∙ ap (λ (m : ℕ). m % X) (unsigned_abs-mul (pos X) c.quot) ∙ mul-mod_right X (nat_abs c.quot) in
    rw e tt
