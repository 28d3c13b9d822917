-- Division by x, rounded down, as the machine's shift does it (`shr_z`): the residue is left over, and a multiple of x is divided exactly.
use mathlib.Core.Path.{◌≡◌, sym, ap, ◌∙◌}
use Prim.Native.Nat.{ℕ, zero, suc, ◌+◌, ◌*◌, ◌%◌, ◌<◌}
use native.Mathlib.Nat.{mul-div_cancel_left, div-add-mod, mod-lt}
use native.Mathlib.Omega.{arith}
use lib.Arith.{digits_div}
use lib.IntN.{ℤ, pos, neg_ℤ, nat_abs, ◌+ℤ◌, ◌-ℤ◌, ◌*ℤ◌}
use lib.Signed.{shr_z}
use Rattle.numbers.specs.Remainder.{residue}
use Rattle.numbers.proofs.Algebra.RingSolver.{ring, if◌is◌by◌then◌, #◌, ⊝◌, ◌⊕◌, ◌⊖◌, ◌⊗◌, ◌≐◌}
use Rattle.std.proofs.lemmas.Int.{ints}
use Rattle.numbers.proofs.Remainders.Congruence.{Cong, cong_sym, cong_trans, cong_near, cong-+, cong_refl}

module _ (x : ℕ) (h : 0 < x) where
  -- ---- rounded down

  pub residue_below : (v : ℤ) → residue x v < x
  residue_below v = grind (arith, mod-lt)

  pub floor : (v : ℤ) → v ≡ pos x *ℤ shr_z v x +ℤ pos (residue x v)
  floor v = grind (arith, ints, div-add-mod, mod-lt)

  pub residue_cong : (v : ℤ) → Cong (pos x) (pos (residue x v)) v
  residue_cong v =
      record { quot = neg_ℤ (shr_z v x); eqn = ring 4 (λ v x q r. if v is x ⊗ q ⊕ r by ⊝ # 1 then r ⊖ v ≐ x ⊗ ⊝ q) tt v (pos x) (shr_z v x) (pos (residue x v)) (floor v) }

  -- congruent numbers have one residue
  pub residue_same : {v w : ℤ} → Cong (pos x) v w → residue x v ≡ residue x w
  residue_same {v} {w} c =
      let a : ℤ = pos (residue x v) in
      let b : ℤ = pos (residue x w) in
      ap nat_abs (cong_near (cong_trans (residue_cong v) (cong_trans c (cong_sym (residue_cong w))))
      (omega (arith, ints, residue_below v, residue_below w)))

  -- a residue and a product more
  pub residue_fold : (s : ℤ) (a b : ℕ) → (residue x s + a * b) % x ≡ residue x (s +ℤ pos a *ℤ pos b)
  residue_fold s a b = residue_same (cong-+ (residue_cong s) (cong_refl (pos a *ℤ pos b)))

  -- ---- exact

  shr_z-* : (q : ℤ) → shr_z (pos x *ℤ q) x ≡ q
  shr_z-* q = grind (arith, ints, mul-div_cancel_left, digits_div)

pub shr_exact : {a b : ℤ} (x : ℕ) → Cong (pos x) a b → a -ℤ b ≡ pos x *ℤ shr_z (a -ℤ b) x
shr_exact {a} {b} zero c = omega (arith, ints, c.eqn)
shr_exact (suc x) c =
    c.eqn ∙ ap (λ q. pos (suc x) *ℤ q) (sym (ap (λ z. shr_z z (suc x)) c.eqn ∙ shr_z-* (suc x) (omega arith) c.quot))
