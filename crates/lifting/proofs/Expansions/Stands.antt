-- A residue R stands for a table C: A·C = F - x·R, with 5·|C| ≤ 3·x and 5·|R| ≤ 3·n·h, where x is what the modulus has come to. The residues of both rules
-- stand so: double-plus-one for F = I (Residues.antt), linear for every F (Linear.antt). Where R is 0, C solves A·C = F. And R is 0 where a solution is
-- small beside x, and where a whole inverse exists and x is large.
use Prim.Native.Nat.{ℕ, ◌*◌, ◌-◌, ◌^◌, ◌≤◌, ◌<◌}
use native.Mathlib.Omega.{arith}
use lib.IntN.{pos, nat_abs}
use Rattle.numbers.proofs.Algebra.Sum.{δ}
use Rattle.tables.specs.Tables.{Matrix, Below, ◌≈⟨◌⟩◌, ◌⊟◌, ◌⊙◌, ◌·⟨◌⟩◌, Zero, HasInverseMod, HasWholeInverse}
use Rattle.tables.proofs.Inverses.Residue.{near_zero, zero_right, residue_zero}
use Rattle.tables.proofs.Inverses.TwoSided.{two_sided}
use Rattle.lifting.proofs.Expansions.Bound.{Bounded}

pub record Stands (n h : ℕ) (A F R : Matrix) (x : ℕ) : Type 0 where
  pub sum : Matrix
  pub means : A ·⟨ n ⟩ sum ≈⟨ n ⟩ F ⊟ pos x ⊙ R
  pub bounded : Bounded n h sum R x

module _ {n h : ℕ} {A F R : Matrix} {x : ℕ} (q : Stands n h A F R x) where
  pub stands_solves : Zero n R → A ·⟨ n ⟩ q.sum ≈⟨ n ⟩ F
  stands_solves = zero_right n (pos x) A F q.sum R q.means

  -- a solution within 2/5 of x leaves no residue
  pub stands_near : HasInverseMod n x A → (S : Matrix) → A ·⟨ n ⟩ S ≈⟨ n ⟩ F → Below n (λ i j. 5 * nat_abs (S i j) < 2 * x) → Zero n R
  stands_near w S solves small =
      near_zero n (pos x) A w.inverse F S q.sum R (two_sided x n A w.inverse w.right) solves q.means
      (λ i j a b. omega (arith, small i j a b, q.bounded.size i j a b))

-- a whole inverse is at most (n·h)^(n-1)
pub stands_whole : {n h : ℕ} {A R : Matrix} {x : ℕ} → Stands n h A δ R x → 1 ≤ h → Below n (λ i j. nat_abs (A i j) ≤ h) → 4 * (n * h) ^ (n - 1) ≤ x → HasWholeInverse n A → Zero n R
stands_whole {n} {h} {A} {R} {x} q one low far w =
    residue_zero n h A w.inverse q.sum R (pos x) one low w.right q.means
    (λ i j a b. omega (arith, q.bounded.size i j a b, q.bounded.some, far))
