-- Residues are one, and one that is zero stays zero: where R_i is 0, M_i and R_{i+1} are 0 and B_{i+1} = B_i.
use mathlib.Core.Path.{◌≡◌, sym, subst}
use mathlib.Core.List.{List}
use Prim.Native.Nat.{ℕ, zero, suc, ◌+◌, ◌*◌, ◌≤◌, ◌<◌}
use native.Mathlib.Omega.{arith}
use lib.IntN.{ℤ, pos}
use Rattle.numbers.specs.Numbers.{Balanced}
use Rattle.std.proofs.lemmas.Int.{ints}
use Rattle.numbers.proofs.Algebra.RingSolver.{◌⊗◌}
use Rattle.numbers.proofs.Remainders.Congruence.{cong_of_eq}
use Rattle.tables.specs.Tables.{Matrix, ◌≈⟨◌⟩◌, block}
use Rattle.tables.proofs.Algebra.Matrix.{𝟘, ≈-refl, ≈-trans}
use Rattle.tables.proofs.Algebra.MatrixSolver.{matrix, given◌is◌by◌and◌then◌, 𝟘ᵉ, 𝟙, ◌⊞ᵉ◌, ◌⊟ᵉ◌, ◌·ᵉ◌, ◌⊙ᵉ◌, ◌≑◌}
use Rattle.lifting.specs.Lifting.{IsDigit, IsStep, IsResidue, first, later, Upto}
use Rattle.lifting.specs.Meaning.{modulus, next, lifted}
use Rattle.lifting.proofs.Expansions.Residues.{residue_start}
use Rattle.lifting.proofs.Expansions.Rules.{start_right, start_unique, step_unique, digit_unique, step_exists}

pub residue_unique : {n X : ℕ} {A B C : Matrix} {t : ℕ} {R S : Matrix} → 0 < X → IsResidue n X A B t R → IsResidue n X A C t S → (B ≈⟨ n ⟩ C) × (R ≈⟨ n ⟩ S)
residue_unique {n} {X} {A} h (first p) (first q) = start_unique n X h A p q
residue_unique {n} {X} {A} h (later p a) (later q b) = let u = residue_unique h p q in (u.0, (step_unique n X h A u.0 u.1 a b).1)

zero_balanced : (X : ℕ) → 0 < X → Balanced X (pos 0)
zero_balanced X h = record { above = omega (arith, ints); upto = omega (arith, ints) }

-- the digit of 0 is 0, and so is the residue after it
zero_digit : (n X : ℕ) → 0 < X → (A B : Matrix) → IsDigit n X A B 𝟘 𝟘 𝟘
zero_digit n X h A B = record {
  remainder = λ i j a b. record { balanced = zero_balanced X h; congruent = cong_of_eq (pos X) (matrix n 0 1 (λ B. B ·ᵉ 𝟘ᵉ ≑ 𝟘ᵉ) tt B i j a b) };
  residue = matrix n 1 1 (λ x A. 𝟘ᵉ ⊟ᵉ A ·ᵉ 𝟘ᵉ ≑ x ⊙ᵉ 𝟘ᵉ) tt (pos X) A;
}

pub zero_step : {n X : ℕ} {A B R M S : Matrix} → 0 < X → IsStep n X A B R M S → R ≈⟨ n ⟩ 𝟘 → (M ≈⟨ n ⟩ 𝟘) × (S ≈⟨ n ⟩ 𝟘)
zero_step {n} {X} {A} {B} {R} h p z =
    digit_unique n X h A (≈-refl n B) (matrix n 0 1 (λ R. given R is 𝟘ᵉ by 𝟙 and R then R ·ᵉ R ≑ 𝟘ᵉ) tt R z) p.digit (zero_digit n X h A B)

-- where R_t is 0, so is the next residue, and the one after d steps more
zero_next : {n X : ℕ} {A B : Matrix} {t : ℕ} {R : Matrix} → 0 < X → IsResidue n X A B t R → R ≈⟨ n ⟩ 𝟘 → (S : Matrix) × (IsResidue n X A B (suc t) S × (S ≈⟨ n ⟩ 𝟘))
zero_next {R = R} h p z =
    let (Q, s) = residue_start p in
    let w = step_exists h (start_right s) R in
    (_, (later p w, (zero_step h w z).1))

pub residue_stays : {n X : ℕ} {A B : Matrix} {t : ℕ} {R : Matrix} → 0 < X → IsResidue n X A B t R → R ≈⟨ n ⟩ 𝟘 → (d : ℕ) → (S : Matrix) × (IsResidue n X A B (d + t) S × (S ≈⟨ n ⟩ 𝟘))
residue_stays {n} {X} {A} {B} {t} {R} h p z zero =
    let e : zero + t ≡ t = omega arith in
    (R, (subst (λ (m : ℕ). IsResidue n X A B m R) (sym e) p, z))
residue_stays {n} {X} {A} {B} {t} {R} h p z (suc d) =
    let (S, (q, y)) = residue_stays h p z d in
    let (T, (r, x)) = zero_next h q y in
    let e : suc d + t ≡ suc (d + t) = omega arith in
    (T, (subst (λ (m : ℕ). IsResidue n X A B m T) (sym e) r, x))

next_same : (n : ℕ) (x : ℤ) (B R M : Matrix) → R ≈⟨ n ⟩ 𝟘 → M ≈⟨ n ⟩ 𝟘 → next n x B R M ≈⟨ n ⟩ B
next_same n =
    matrix n 1 3 (λ x B R M. given R is 𝟘ᵉ by x ⊙ᵉ B and 𝟙 then given M is 𝟘ᵉ by (x ⊗ x) ⊙ᵉ 𝟙 and 𝟙 then B ·ᵉ (𝟙 ⊞ᵉ x ⊙ᵉ R) ⊞ᵉ (x ⊗ x) ⊙ᵉ M ≑ B) tt

-- in an expansion: from R_i = 0 on every residue is 0, and every B is B_i
pub stays : {n X s : ℕ} {A : Matrix} {L : List ℤ} → 0 < X → Upto n X s A L → (i d : ℕ) → d + i ≤ s → block n L (2 * i + 1) ≈⟨ n ⟩ 𝟘
    → (block n L (2 * (d + i) + 1) ≈⟨ n ⟩ 𝟘) × (lifted n X L (d + i) ≈⟨ n ⟩ lifted n X L i)
unfolding lifted
stays {n} {X} {s} {A} {L} h p i zero l z = let e : zero + i ≡ i = omega arith in rw e (z, ≈-refl n (lifted n X L i))
stays {n} {X} {s} {A} {L} h p i (suc d) l z =
    let (y, same) = stays h p i d (omega arith) z in
    let e : suc d + i ≡ suc (d + i) = omega arith in
    let f : 2 * suc (d + i) + 1 ≡ 2 * (d + i) + 3 = omega arith in
    let (m, r) = zero_step h (p.step (d + i) (omega arith)) y in
    rw e (rw f (r, ≈-trans (next_same n (pos (modulus X (d + i))) (lifted n X L (d + i)) (block n L (2 * (d + i) + 1)) (block n L (2 * (d + i) + 2)) y m) same))
