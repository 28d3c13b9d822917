use mathlib.Core.Path.{◌≡◌, refl, subst}
use Prim.Native.Nat.{ℕ, ◌^◌}
use native.Mathlib.Omega.{arith}
use lib.IntN.{pos}
use Rattle.numbers.proofs.Algebra.RingSolver.{ring, #◌, ◌⊗◌, ◌≐◌}
use Rattle.numbers.proofs.Remainders.Congruence.{cong_of_eq, cong_trans}
use Rattle.eliminations.proofs.Reduction.Bits.{odd_one}
use Rattle.eliminations.proofs.Reduction.Units.{Led, five_led}
use Rattle.eliminations.proofs.inverting.unit.Goals as goal

pub returns : goal.returns
returns c =
    let e : c.loop.counter ≡ 5 = omega arith in
    five_led {b = 2} c.args.g c.loop.h (record { quot = pos 1; eqn = refl }) (cong_trans (cong_of_eq (pos 2) (ring 1 (λ g. # 1 ⊗ g ≐ g) tt (pos c.args.g))) (odd_one c.requires)) (subst (λ (k : ℕ). Led (2 ^ 32) c.args.g k c.loop.h) e c.loop.invariant)
