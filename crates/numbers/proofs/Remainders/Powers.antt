-- Powers of a number: the first, and that one divides every greater one.
use mathlib.Core.Path.{◌≡◌, ap, ◌∙◌}
use Prim.Native.Nat.{ℕ, ◌+◌, ◌-◌, ◌*◌, ◌^◌, ◌≤◌}
use native.Mathlib.Nat.{pow-suc, pow-zero, one-mul}
use native.Mathlib.Omega.{arith}
use lib.IntN.{pos, ◌-ℤ◌}
use lib.Pow.{pow-add}
use Rattle.numbers.proofs.Algebra.RingSolver.{ring, #◌, ◌⊖◌, ◌⊗◌, ◌≐◌}
use Rattle.numbers.proofs.Remainders.Congruence.{Cong}

pub power_one : (b : ℕ) → b ^ 1 ≡ b
power_one b = pow-suc b 0 ∙ ap (λ (m : ℕ). m * b) (pow-zero b) ∙ one-mul b

pub power_divides : (b : ℕ) {e j : ℕ} → e ≤ j → Cong (pos (b ^ e)) (pos (b ^ j)) (pos 0)
power_divides b {e} {j} h = record {
  quot = pos (b ^ (j - e));
  eqn = ap (λ (m : ℕ). pos m -ℤ pos 0) split ∙ ring 2 (λ x y. x ⊗ y ⊖ # 0 ≐ x ⊗ y) tt (pos (b ^ e)) (pos (b ^ (j - e)));
}
  where
    split : b ^ j ≡ b ^ e * b ^ (j - e)
    split = let q : j ≡ e + (j - e) = omega arith in ap (λ (m : ℕ). b ^ m) q ∙ pow-add b e (j - e)
