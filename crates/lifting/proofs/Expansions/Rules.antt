-- One start, one digit and one step: each holds of tables that agree, is unique, and exists where A·B = I modulo X.
-- A step is a digit of R², and a start is one of I, so that the laws of a digit serve all three.
use mathlib.Core.Path.{◌≡◌, sym, ap, subst, subst₂, ◌∙◌}
use mathlib.Core.Logic.{◌≢◌}
use Prim.Native.Nat.{ℕ, ◌<◌}
use native.Mathlib.Omega.{arith}
use lib.IntN.{ℤ, pos, nat_abs, neg_ℤ, ◌*ℤ◌}
use Rattle.numbers.specs.Numbers.{IsRem}
use Rattle.numbers.specs.Remainder.{rem}
use Rattle.numbers.proofs.Remainders.Congruence.{cong_of_eq, cong_sym}
use Rattle.numbers.proofs.Remainders.Division.{shr_exact}
use Rattle.numbers.proofs.Algebra.IntRing.{*ℤ-cancelˡ}
use Rattle.numbers.proofs.Remainders.Remainder.{balanced_unique, rem_is, rem_unique}
use Rattle.numbers.proofs.Algebra.RingSolver.{ring, if◌is◌by◌then◌, #◌, ◌⊖◌, ◌⊗◌, ⊝◌, ◌≐◌}
use Rattle.numbers.proofs.Algebra.Sum.{δ}
use Rattle.tables.specs.Tables.{Matrix, Below, ◌≈⟨◌⟩◌, ◌⊟◌, ◌⊙◌, ◌·⟨◌⟩◌, CongM}
use Rattle.tables.proofs.Algebra.Matrix.{≈-refl, ·-cong, ·-idʳ, ⊟-cong}
use Rattle.tables.proofs.Algebra.MatrixSolver.{modular, given◌is◌by◌and◌then◌, 𝟙, ◌·ᵉ◌, ◌≑◌}
use Rattle.tables.proofs.Inverses.TwoSided.{inverse_unique_mod}
use Rattle.lifting.specs.Lifting.{IsStart, IsDigit, IsStep}
use Rattle.lifting.specs.Steps.{rems, divide}

-- ---- a start is a digit of I, and B_0 an inverse modulo X

pub start_digit : {n X : ℕ} {A B R : Matrix} → IsStart n X A B R → IsDigit n X A B δ B R
start_digit {n} {X} {A} {B} p = record {
  remainder = λ i j h k. record { balanced = p.balanced i j h k; congruent = cong_of_eq (pos X) (·-idʳ n B i j h k) };
  residue = p.residue;
}

pub digit_start : {n X : ℕ} {A B C R : Matrix} → IsDigit n X A B δ C R → IsStart n X A C R
digit_start p = record { balanced = λ i j h k. (p.remainder i j h k).balanced; residue = p.residue }

pub start_right : {n X : ℕ} {A B R : Matrix} → IsStart n X A B R → CongM n (pos X) (A ·⟨ n ⟩ B) δ
start_right {n} {X} {A} {B} {R} s i j h k = record {
  quot = neg_ℤ (R i j);
  eqn = ring 4 (λ d p x r. if d ⊖ p is x ⊗ r by ⊝ # 1 then p ⊖ d ≐ x ⊗ ⊝ r) tt (δ i j) ((A ·⟨ n ⟩ B) i j) (pos X) (R i j) (s.residue i j h k);
}

-- ---- of tables that agree

pub digit_resp : {n X : ℕ} {A B C R S D E T U : Matrix} → IsDigit n X A B R D T → B ≈⟨ n ⟩ C → R ≈⟨ n ⟩ S → D ≈⟨ n ⟩ E → T ≈⟨ n ⟩ U → IsDigit n X A C S E U
digit_resp {n} {X} {A} p b r d t = record {
  remainder = λ i j h k. subst₂ (IsRem X) (·-cong n b r i j h k) (d i j h k) (p.remainder i j h k);
  residue = λ i j h k.
      sym (⊟-cong n r (·-cong n (≈-refl n A) d) i j h k) ∙ p.residue i j h k ∙ ap (λ z. pos X *ℤ z) (t i j h k);
}

pub start_resp : {n X : ℕ} {A B C R S : Matrix} → IsStart n X A B R → B ≈⟨ n ⟩ C → R ≈⟨ n ⟩ S → IsStart n X A C S
start_resp {n} p b r = digit_start (digit_resp (start_digit p) b (≈-refl n δ) b r)

pub step_resp : {n X : ℕ} {A B C R S M N U W : Matrix} → IsStep n X A B R M U → B ≈⟨ n ⟩ C → R ≈⟨ n ⟩ S → M ≈⟨ n ⟩ N → U ≈⟨ n ⟩ W → IsStep n X A C S N W
step_resp {n} p b r m u = record { digit = digit_resp p.digit b (·-cong n r r) m u }

-- ---- there is one

module _ (n X : ℕ) (h : 0 < X) (A : Matrix) where
  not_zero : pos X ≢ pos 0
  not_zero e = let p : X ≡ 0 = ap nat_abs e in omega arith

  pub digit_unique : {B C R S D E T U : Matrix} → B ≈⟨ n ⟩ C → R ≈⟨ n ⟩ S → IsDigit n X A B R D T → IsDigit n X A C S E U → (D ≈⟨ n ⟩ E) × (T ≈⟨ n ⟩ U)
  digit_unique {B} {C} {R} {S} {D} {E} {T} {U} b r p q = (
    same,
    λ i j a c.
        *ℤ-cancelˡ (pos X) (T i j) (U i j) not_zero
        (sym (p.residue i j a c) ∙ ⊟-cong n r (·-cong n (≈-refl n A) same) i j a c ∙ q.residue i j a c),
  )
    where
      same : D ≈⟨ n ⟩ E
      same i j a c =
          rem_unique (p.remainder i j a c) (subst (λ (v : ℤ). IsRem X v (E i j)) (sym (·-cong n b r i j a c)) (q.remainder i j a c))

  pub start_unique : {B C R S : Matrix} → IsStart n X A B R → IsStart n X A C S → (B ≈⟨ n ⟩ C) × (R ≈⟨ n ⟩ S)
  start_unique {B} {C} p q = (same, (digit_unique same (≈-refl n δ) (start_digit p) (start_digit q)).1)
    where
      same : B ≈⟨ n ⟩ C
      same i j a c =
          balanced_unique (p.balanced i j a c) (q.balanced i j a c)
          (inverse_unique_mod X n A B C (start_right p) (start_right q) i j a c)

  pub step_unique : {B C R S M N U W : Matrix} → B ≈⟨ n ⟩ C → R ≈⟨ n ⟩ S → IsStep n X A B R M U → IsStep n X A C S N W → (M ≈⟨ n ⟩ N) × (U ≈⟨ n ⟩ W)
  step_unique b r p q = digit_unique b (·-cong n r r) p.digit q.digit

-- ---- there are some

pub divided : (n X : ℕ) (P Q : Matrix) → CongM n (pos X) Q P → P ⊟ Q ≈⟨ n ⟩ pos X ⊙ divide X (P ⊟ Q)
divided n X P Q c i j h k = shr_exact X (cong_sym (c i j h k))

-- A·D = R modulo X where D = B·R, so that the division is exact
pub digit_exists : {n X : ℕ} {A B : Matrix} → CongM n (pos X) (A ·⟨ n ⟩ B) δ → (R D : Matrix) → Below n (λ i j. IsRem X ((B ·⟨ n ⟩ R) i j) (D i j))
    → IsDigit n X A B R D (divide X (R ⊟ A ·⟨ n ⟩ D))
digit_exists {n} {X} {A} {B} right R D rem = record {
  remainder = rem;
  residue = divided n X R (A ·⟨ n ⟩ D)
      (modular n (pos X) 0 4 (λ A B D R. given A ·ᵉ B is 𝟙 by 𝟙 and R then given D is B ·ᵉ R by A and 𝟙 then A ·ᵉ D ≑ R) tt A B D R right (λ i j h k. cong_sym (rem i j h k).congruent));
}

pub start_exists : (n X : ℕ) → 0 < X → (A C : Matrix) → CongM n (pos X) (A ·⟨ n ⟩ C) δ → IsStart n X A (rems X C) (divide X (δ ⊟ A ·⟨ n ⟩ rems X C))
start_exists n X h A C right =
    digit_start (digit_exists {B = C} right δ (rems X C) (λ i j a b. subst (λ (z : ℤ). IsRem X z (rem X (C i j))) (sym (·-idʳ n C i j a b)) (rem_is X h (C i j))))

pub step_exists : {n X : ℕ} {A B : Matrix} → 0 < X → CongM n (pos X) (A ·⟨ n ⟩ B) δ → (R : Matrix)
    → let M = rems X (B ·⟨ n ⟩ (R ·⟨ n ⟩ R)) in IsStep n X A B R M (divide X (R ·⟨ n ⟩ R ⊟ A ·⟨ n ⟩ M))
step_exists {n} {X} {A} {B} h right R = record { digit = digit_exists right (R ·⟨ n ⟩ R) _ (λ i j a b. rem_is X h ((B ·⟨ n ⟩ (R ·⟨ n ⟩ R)) i j)) }
