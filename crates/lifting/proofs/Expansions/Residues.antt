-- A residue R_t stands for B_t of document 01: A·B_t = I - X_t·R_t, and 5·|B_t| ≤ 3·X_t.
use mathlib.Core.Path.{◌≡◌, sym, subst}
use mathlib.Core.List.{List}
use Prim.Native.Nat.{ℕ, zero, suc, ◌+◌, ◌*◌, ◌≤◌}
use native.Mathlib.Omega.{arith}
use lib.IntN.{ℤ, pos, nat_abs}
use Rattle.numbers.proofs.Algebra.Sum.{δ}
use Rattle.tables.specs.Tables.{Matrix, Below, block}
use Rattle.lifting.specs.Lifting.{IsStart, IsResidue, first, later, Upto}
use Rattle.lifting.specs.Meaning.{modulus, next}
use Rattle.lifting.proofs.Expansions.Meaning.{start_means, step_means}
use Rattle.lifting.proofs.Expansions.Bound.{start_bounded, step_bounded}
use Rattle.lifting.proofs.Expansions.Stands.{Stands}

-- the blocks of an expansion are the residues
pub upto_residue : {n X s : ℕ} {A : Matrix} {L : List ℤ} → Upto n X s A L → (t : ℕ) → t ≤ s → IsResidue n X A (block n L 0) t (block n L (2 * t + 1))
upto_residue p zero l = first p.start
upto_residue {n} {X} {s} {A} {L} p (suc t) l =
    let e : 2 * suc t + 1 ≡ 2 * t + 3 = omega arith in
    subst (λ (b : ℕ). IsResidue n X A (block n L 0) (suc t) (block n L b)) (sym e) (later (upto_residue p t (omega arith)) (p.step t (omega arith)))

pub residue_start : {n X : ℕ} {A B : Matrix} {t : ℕ} {R : Matrix} → IsResidue n X A B t R → (S : Matrix) × IsStart n X A B S
residue_start (first {R = R} p) = (R, p)
residue_start (later q p) = residue_start q

pub stands : (n h X : ℕ) → 60 ≤ X → 4 * (n * n) * h ≤ X → (A : Matrix) → Below n (λ i j. nat_abs (A i j) ≤ h) → {B : Matrix} {t : ℕ} {R : Matrix} → IsResidue n X A B t R → Stands n h A δ R (modulus X t)
unfolding modulus
stands n h X wide enough A low {B} (first p) = record { sum = B; means = start_means p; bounded = start_bounded n h X wide A low p }
stands n h X wide enough A low (later {t = t} {R = R} {M = M} q p) =
    let r = stands n h X wide enough A low q in
    record {
      sum = next n (pos (modulus X t)) r.sum R M;
      means = step_means p (modulus X t) r.sum r.means;
      bounded = step_bounded n h X wide A low enough r.bounded p;
    }
