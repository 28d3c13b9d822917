-- Residues in a buffer, with B_0 in block 0: what a loop over steps keeps. The exponent 32 is enough for every lawful table.
use mathlib.Core.Logic.{◌≢◌}
use mathlib.Core.List.{List}
use Prim.Native.Nat.{ℕ, suc, ◌+◌, ◌*◌, ◌^◌, ◌≤◌}
use native.Mathlib.Omega.{arith}
use native.Mathlib.Nat.{mul-le-mul, le_refl}
use lib.IntN.{ℤ, pos, nat_abs}
use Rattle.numbers.specs.Limits.{Lawful}
use Rattle.numbers.specs.Numbers.{Enough}
use Rattle.numbers.proofs.Algebra.Sum.{δ}
use Rattle.numbers.proofs.Remainders.Moduli.{suits_of}
use Rattle.tables.specs.Tables.{Matrix, Below, ◌≈⟨◌⟩◌, block, entries, height}
use Rattle.tables.specs.Buffer.{Low}
use Rattle.tables.proofs.Buffers.Bounds.{low-≈}
use Rattle.tables.proofs.Buffers.Places.{square_small}
use Rattle.tables.proofs.Checking.Heights.{entries_low, legal_height}
use Rattle.tables.proofs.Algebra.Matrix.{≈-refl, ≈-sym, ≈-trans, ·-cong, cong_m_eq, cong_m_trans}
use Rattle.lifting.specs.Lifting.{IsStart, IsResidue, first, later, Upto}
use Rattle.lifting.specs.Linear.{IsLinear}
use Rattle.lifting.specs.Meaning.{modulus}
use Rattle.lifting.specs.Steps.{Setting, Stage, Stepped}
use Rattle.lifting.proofs.Expansions.Stands.{Stands}
use Rattle.lifting.proofs.Expansions.Residues.{stands, upto_residue, residue_start}
use Rattle.lifting.proofs.Expansions.Linear.{linear_stands}
use Rattle.lifting.proofs.Expansions.Rules.{step_resp, start_right}
use Rattle.lifting.proofs.Calls.Sizes.{low_balanced, stands_low}

-- ---- the setting

-- 4·n²·h is at most 2^32
pub enough_32 : {n : ℕ} {A : List ℤ} → Lawful n A → Enough n (height A) 32
enough_32 {n} {A} law = record {
  from = omega arith;
  reaches = let b : 4 * (n * n) ≤ 2 ^ 12 = omega (arith, square_small law.order.upto) in mul-le-mul {n₂ = 2 ^ 12} {m₂ = 2 ^ 20} b (legal_height A law.legal);
}

pub setting : {n e : ℕ} {A : List ℤ} → Lawful n A → Enough n (height A) e → e ≤ 32 → Setting n (2 ^ e) A
setting law enough upto = record { lawful = law; suits = suits_of enough upto }

module _ {n X : ℕ} {A : List ℤ} (g : Setting n X A) where
  pub setting_wide : 60 ≤ X
  setting_wide = omega (arith, g.suits.from)

  pub residue_stands : {B : Matrix} {t : ℕ} {R : Matrix} → IsResidue n X (entries n A) B t R → Stands n (height A) (entries n A) δ R (modulus X t)
  residue_stands = stands n (height A) X setting_wide g.suits.reaches (entries n A) (entries_low n A)

  pub used_stands : {B F : Matrix} {m : ℕ} {R : Matrix} → Below n (λ i j. 10 * nat_abs (F i j) ≤ X) → 1 ≤ m → IsLinear n X (entries n A) B F m R → Stands n (height A) (entries n A) F R (X ^ m)
  used_stands small = linear_stands n (height A) X setting_wide (entries n A) (entries_low n A) small

-- ---- residues in a buffer

-- R_t stands in block r, over B_0 in block 0
pub record Holds (n X : ℕ) (A L : List ℤ) (t r : ℕ) : Type 0 where
  pub base : Matrix
  pub there : block n L 0 ≈⟨ n ⟩ base
  pub last : IsResidue n X (entries n A) base t (block n L r)

pub holds_first : {n X : ℕ} {A L : List ℤ} {r : ℕ} → IsStart n X (entries n A) (block n L 0) (block n L r) → Holds n X A L 0 r
holds_first {n} {X} {A} {L} p = record { base = block n L 0; there = ≈-refl n (block n L 0); last = first p }

pub holds_upto : {n X t : ℕ} {A L : List ℤ} → Upto n X t (entries n A) L → Holds n X A L t (2 * t + 1)
holds_upto {n} {X} {t} {A} {L} p = record { base = block n L 0; there = ≈-refl n (block n L 0); last = upto_residue p t (le_refl t) }

pub holds_stage : {n X : ℕ} {A L : List ℤ} {t r : ℕ} → Setting n X A → Holds n X A L t r → Stage n X A L
holds_stage {n} {X} {A} g p =
    let (S, s) = residue_start p.last in
    record {
      setting = g;
      right = cong_m_trans n (pos X) (cong_m_eq n (pos X) (·-cong n (≈-refl n (entries n A)) p.there)) (start_right s);
      small = low-≈ (≈-sym p.there) (low_balanced g.suits.upto s.balanced);
    }

pub holds_low : {n X : ℕ} {A L : List ℤ} {t r : ℕ} → Setting n X A → Holds n X A L t r → Low n (2 ^ 25) (block n L r)
holds_low g p = stands_low g.lawful (residue_stands g p.last)

pub holds_step : {n X : ℕ} {A old new : List ℤ} {t r m s : ℕ} → 0 ≢ m → 0 ≢ s → Holds n X A old t r → Stepped n X (entries n A) old new r m s → Holds n X A new (suc t) s
holds_step {n} {X} {A} {old} {new} {t} {r} {m} {s} f g p q = record {
  base = p.base;
  there = ≈-trans (q.rest 0 f g) p.there;
  last = later p.last (step_resp q.step p.there (≈-refl n (block n old r)) (≈-refl n (block n new m)) (≈-refl n (block n new s)));
}
