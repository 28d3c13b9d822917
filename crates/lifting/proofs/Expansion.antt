-- What document 01 says of an expansion, over every modulus X and every base p: it exists exactly if A has an inverse modulo the base, it is
-- unique, what it means, and its bounds; and the same of what lift leaves in the lent buffer. R_i is block 2i + 1.
use mathlib.Core.Path.{◌≡◌, refl, sym, ap, ◌∙◌}
use mathlib.Core.Logic.{◌↔◌}
use mathlib.Core.List.{List}
use Prim.Native.Nat.{ℕ, zero, suc, ◌+◌, ◌-◌, ◌*◌, ◌^◌, ◌≤◌, ◌<◌}
use native.Mathlib.Omega.{arith}
use native.Mathlib.Nat.{pow-suc, one-le-pow, two-pow-succ}
use lib.IntN.{ℤ, pos, nat_abs}
use lib.Pow.{pow-add, pow_mono, pow_pos}
use Rattle.numbers.specs.Numbers.{Enough}
use Rattle.numbers.proofs.Algebra.Sum.{δ}
use Rattle.numbers.proofs.Remainders.Powers.{power_one}
use Rattle.tables.specs.Tables.{Matrix, Below, ◌≈⟨◌⟩◌, ◌⊟◌, ◌⊙◌, ◌·⟨◌⟩◌, Zero, entries, block, height, HasInverseMod}
use Rattle.tables.proofs.Checking.Heights.{entries_low}
use Rattle.lifting.specs.Lifting.{IsExpansion, LiftGives}
use Rattle.lifting.specs.Meaning.{modulus, lifted}
use Rattle.tables.proofs.Inverses.Powers.{power_mod}
use Rattle.lifting.proofs.Expansions.Powers.{expansion_base}
use Rattle.lifting.proofs.Expansions.Meaning.{upto_means}
use Rattle.lifting.proofs.Expansions.Vanishing.{stays}
use Rattle.lifting.proofs.Expansions.Bound.{upto_bounded}
use Rattle.lifting.proofs.Expansions.Exists.{expansion_of}
use Rattle.lifting.proofs.Expansions.Unique.{expansion_same}
use Rattle.lifting.proofs.Calls.Refusals.{lift_enough}

-- it exists exactly if A has an inverse modulo p, where X = p^e
pub expansion_exists : (p e n s : ℕ) → 2 ≤ p → 1 ≤ e → (A : Matrix) → ((L : List ℤ) × IsExpansion n (p ^ e) s A L) ↔ HasInverseMod n p A
expansion_exists p e n s h l A =
    (λ x. expansion_base p l x.1, λ w. expansion_of n (p ^ e) A (one-le-pow e p (omega arith)) (power_mod p n A w e) s)

pub expansion_unique : {n X s : ℕ} {A : Matrix} {L K : List ℤ} → 0 < X → IsExpansion n X s A L → IsExpansion n X s A K → L ≡ K
expansion_unique {n} {X} {s} {A} {L} {K} h p q = expansion_same n X s h A L K p q

-- A·B_i = I - R_i·X_i
pub meaning : {n X s : ℕ} {A : Matrix} {L : List ℤ} → IsExpansion n X s A L → (i : ℕ) → i ≤ s → A ·⟨ n ⟩ lifted n X L i ≈⟨ n ⟩ δ ⊟ pos (modulus X i) ⊙ block n L (2 * i + 1)
meaning p = upto_means p.blocks

-- where R_i is 0, every later residue is 0 and every later B is B_i
pub zero_stays : {n X s : ℕ} {A : Matrix} {L : List ℤ} → 0 < X → IsExpansion n X s A L → (i d : ℕ) → d + i ≤ s → Zero n (block n L (2 * i + 1))
    → Zero n (block n L (2 * (d + i) + 1)) × (lifted n X L (d + i) ≈⟨ n ⟩ lifted n X L i)
zero_stays h p = stays h p.blocks

-- X_i = X^(2^(i+1) - 1)
pub modulus_power : (X i : ℕ) → modulus X i ≡ X ^ (2 ^ (i + 1) - 1)
unfolding modulus
modulus_power X zero = sym (power_one X)
modulus_power X (suc i) =
    let m : ℕ = 2 ^ (i + 1) - 1 in
    let e : suc i + 1 ≡ suc (i + 1) = omega arith in
    let f : suc (m + m) ≡ 2 ^ (suc i + 1) - 1 = omega (arith, pow_pos (i + 1), ap (λ (k : ℕ). 2 ^ k) e ∙ two-pow-succ (i + 1)) in
    ap (λ (x : ℕ). x * x * X) (modulus_power X i) ∙ ap (λ (x : ℕ). x * X) (sym (pow-add X m m)) ∙ sym (pow-suc X (m + m)) ∙ ap (λ (k : ℕ). X ^ k) f

module _ {n h X s : ℕ} {A : Matrix} {L : List ℤ} (wide : 60 ≤ X) (enough : 4 * (n * n) * h ≤ X) (low : Below n (λ i j. nat_abs (A i j) ≤ h)) (p : IsExpansion n X s A L) where
  -- 5·|r| ≤ 3·n·h for every entry r of R_i
  pub residue_bound : (i : ℕ) → i ≤ s → Below n (λ a b. 5 * nat_abs (block n L (2 * i + 1) a b) ≤ 3 * (n * h))
  residue_bound i l = (upto_bounded n h X wide A low enough p.blocks i l).residue

  -- 5·|b| ≤ 3·X_i for every entry b of B_i
  pub lifted_bound : (i : ℕ) → i ≤ s → Below n (λ a b. 5 * nat_abs (lifted n X L i a b) ≤ 3 * modulus X i)
  lifted_bound i l = (upto_bounded n h X wide A low enough p.blocks i l).size

-- ---- what lift leaves in the buffer, after 0

module _ {n s e : ℕ} {A L E : List ℤ} (p : LiftGives n s e A L 0 E) where
  -- A·B_i = I - R_i·X_i, with X = 2^e
  pub lift_meaning : (i : ℕ) → i ≤ s → entries n A ·⟨ n ⟩ lifted n (2 ^ e) E i ≈⟨ n ⟩ δ ⊟ pos (modulus (2 ^ e) i) ⊙ block n E (2 * i + 1)
  lift_meaning = meaning (p.written refl)

  -- 5·|r| ≤ 3·n·h for every entry r of R_i
  pub lift_bound : (i : ℕ) → i ≤ s → Below n (λ a b. 5 * nat_abs (block n E (2 * i + 1) a b) ≤ 3 * (n * height A))
  lift_bound =
      let q : Enough n (height A) e = lift_enough p in
      residue_bound (omega (arith, pow_mono {i = 14} {j = e} q.from)) q.reaches (entries_low n A) (p.written refl)
