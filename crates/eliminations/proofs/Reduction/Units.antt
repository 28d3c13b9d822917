-- Numbers modulo X: the test for a multiple, a residue that gains a product and numbers that wrap, as the machine does them, and the inverse of a unit. Where
-- 1 - h g is a multiple of b^j, 1 - h (2 - g h) g is its square and one of b^2j: so five steps lead from an inverse modulo b to one modulo every divisor of
-- b^32.
use mathlib.Core.Path.{◌≡◌, sym, ap, subst, ◌∙◌}
use Prim.Native.Nat.{ℕ, zero, suc, ◌+◌, ◌*◌, ◌%◌, ◌^◌, ◌<◌}
use lib.IntN.{ℤ, pos, neg_ℤ, ◌+ℤ◌, ◌-ℤ◌, ◌*ℤ◌}
use lib.Pow.{pow-add}
use Rattle.numbers.proofs.Algebra.RingSolver.{ring, if◌is◌by◌then◌, #◌, ⊝◌, ◌⊕◌, ◌⊖◌, ◌⊗◌, ◌≐◌}
use Rattle.numbers.proofs.Remainders.Congruence.{Cong, cong_of_eq, cong_refl, cong_sym, cong_trans, cong-+, cong-*, cong_sub}
use Rattle.numbers.proofs.Remainders.Division.{residue_cong}
use Rattle.numbers.proofs.Remainders.Powers.{power_one}
use Rattle.eliminations.specs.Elimination.{One}

-- one step of `unit`
abbrev pub Better : ℕ → ℕ → ℕ → ℕ → Type 0
Better X g h r = Cong (pos X) (pos r) (pos h *ℤ (pos 2 -ℤ pos g *ℤ pos h))

module _ {X : ℕ} (h : 0 < X) where
  -- ---- a multiple, by its residue

  pub is_multiple : {v : ℕ} → v % X ≡ 0 → Cong (pos X) (pos v) (pos 0)
  is_multiple {v} e = cong_trans (cong_sym (residue_cong X h (pos v))) (cong_of_eq (pos X) (ap pos e))

  -- ---- what `fold_row` and `scale_row` give

  pub fold_cong : (z x y : ℕ) → Cong (pos X) (pos ((z + x * y) % X)) (pos z +ℤ pos x *ℤ pos y)
  fold_cong z x y = residue_cong X h (pos (z + x * y))

  -- ---- what the machine's own numbers give, which wrap

  pub negative_is : (r v : ℕ) → (r + v) % X ≡ 0 → Cong (pos X) (pos r) (neg_ℤ (pos v))
  negative_is r v e =
      cong_trans (cong_of_eq (pos X) (ring 2 (λ r v. r ≐ r ⊕ v ⊖ v) tt (pos r) (pos v)))
      (cong_trans (cong_sub (is_multiple e) (cong_refl (pos v))) (cong_of_eq (pos X) (ring 1 (λ v. # 0 ⊖ v ≐ ⊝ v) tt (pos v))))

  -- v is what is subtracted, as the machine adds it
  pub better_is : (g h v : ℕ) → v + g * h % X ≡ X → Better X g h (h * ((2 + v) % X) % X)
  better_is g y v e =
      cong_trans (residue_cong X h (pos (y * ((2 + v) % X))))
      (cong-* (cong_refl (pos y)) (cong_trans (residue_cong X h (pos (2 + v))) (cong-+ (cong_refl (pos 2)) minus)))
    where
      m : ℕ
      m = g * y % X

      none : Cong (pos X) (pos X) (pos 0)
      none = record { quot = pos 1; eqn = ring 1 (λ x. x ⊖ # 0 ≐ x ⊗ # 1) tt (pos X) }

      minus : Cong (pos X) (pos v) (neg_ℤ (pos g *ℤ pos y))
      minus =
          cong_trans (cong_of_eq (pos X) (ring 2 (λ v m. v ≐ v ⊕ m ⊖ m) tt (pos v) (pos m)))
          (cong_trans (cong_sub (cong_trans (cong_of_eq (pos X) (ap pos e)) none) (residue_cong X h (pos (g * y)))) (cong_of_eq (pos X) (ring 1 (λ z. # 0 ⊖ z ≐ ⊝ z) tt (pos g *ℤ pos y))))

-- ---- an inverse

-- modulo X, 1 - h g is a multiple of b^j
pub record Near (X b j g h : ℕ) : Type 0 where
  pub y : ℤ
  pub left : Cong (pos X) (pos 1 -ℤ pos h *ℤ pos g) (y *ℤ pos (b ^ j))

near_twice : {X b : ℕ} (j : ℕ) {g h r : ℕ} → Better X g h r → Near X b j g h → Near X b (j + j) g r
near_twice {X} {b} j {g} {h} {r} w k = record {
  y = k.y *ℤ k.y;
  left =
      cong_trans (cong_sub (cong_refl (pos 1)) (cong-* w (cong_refl (pos g))))
      (cong_trans (cong_of_eq (pos X) (ring 2 (λ g h. # 1 ⊖ h ⊗ (# 2 ⊖ g ⊗ h) ⊗ g ≐ (# 1 ⊖ h ⊗ g) ⊗ (# 1 ⊖ h ⊗ g)) tt (pos g) (pos h)))
      (cong_trans (cong-* k.left k.left)
      (cong_of_eq (pos X) (ring 2 (λ y p. y ⊗ p ⊗ (y ⊗ p) ≐ y ⊗ y ⊗ (p ⊗ p)) tt k.y (pos (b ^ j)) ∙ ap (λ (q : ℕ). k.y *ℤ k.y *ℤ pos q) (sym (pow-add b j j))))));
}

pub near_first : {X b g h : ℕ} → One b (pos h *ℤ pos g) → Near X b 1 g h
near_first {X} {b} {g} {h} e = record {
  y = neg_ℤ e.quot;
  left = cong_of_eq (pos X) (ring 4 (λ b g h q. if h ⊗ g ⊖ # 1 is b ⊗ q by ⊝ # 1 then # 1 ⊖ h ⊗ g ≐ (⊝ q) ⊗ b) tt (pos b) (pos g) (pos h) e.quot e.eqn ∙ ap (λ q. neg_ℤ e.quot *ℤ q) (sym (ap pos (power_one b))));
}

-- modulo a divisor of b^j
pub near_last : {X b : ℕ} (j : ℕ) {g h : ℕ} → Cong (pos X) (pos (b ^ j)) (pos 0) → Near X b j g h → One X (pos h *ℤ pos g)
near_last {X} {b} j {g} {h} d k =
    let z : Cong (pos X) (pos 1 -ℤ pos h *ℤ pos g) (pos 0) =
    cong_trans k.left (cong_trans (cong-* (cong_refl k.y) d) (cong_of_eq (pos X) (ring 1 (λ y. y ⊗ # 0 ≐ # 0) tt k.y))) in
    cong_trans (cong_of_eq (pos X) (ring 2 (λ g h. h ⊗ g ≐ # 1 ⊖ (# 1 ⊖ h ⊗ g)) tt (pos g) (pos h))) (cong_sub (cong_refl (pos 1)) z)

-- so five steps lead from an inverse modulo b to one modulo a divisor of b^32
pub five_steps : {b X : ℕ} (g h₀ : ℕ) {h₁ h₂ h₃ h₄ h₅ : ℕ} → Cong (pos X) (pos (b ^ 32)) (pos 0) → One b (pos h₀ *ℤ pos g)
    → Better X g h₀ h₁ → Better X g h₁ h₂ → Better X g h₂ h₃ → Better X g h₃ h₄ → Better X g h₄ h₅ → One X (pos h₅ *ℤ pos g)
five_steps g h₀ d e b₁ b₂ b₃ b₄ b₅ = near_last 32 d (near_twice 16 b₅ (near_twice 8 b₄ (near_twice 4 b₃ (near_twice 2 b₂ (near_twice 1 b₁ (near_first e))))))

-- a number from which a second one is made
pub record After (P Q : ℕ → Type 0) : Type 0 where
  pub from : ℕ
  pub led : P from
  pub step : Q from

-- h is what so many steps make of 1
abbrev pub Led : ℕ → ℕ → ℕ → ℕ → Type 0
Led X g zero h = h ≡ 1
Led X g (suc k) h = After (Led X g k) (λ r. Better X g r h)

-- the five steps of `unit`
pub five_led : {b X : ℕ} (g h : ℕ) → Cong (pos X) (pos (b ^ 32)) (pos 0) → One b (pos 1 *ℤ pos g) → Led X g 5 h → One X (pos h *ℤ pos g)
five_led {b} {X} g h d e l =
    let k = l.led.led.led.led in
    five_steps g k.from d (subst (λ (h : ℕ). One b (pos h *ℤ pos g)) (sym k.led) e) k.step l.led.led.led.step l.led.led.step l.led.step l.step
