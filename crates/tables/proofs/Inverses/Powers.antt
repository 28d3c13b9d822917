-- An inverse modulo p gives one modulo every power of p, and the other way round. So for p from 2 up A kills nothing but 0: where A·Z = 0, every power
-- of p divides Z.
use mathlib.Core.Path.{◌≡◌, sym, ap, subst, ◌∙◌}
use Prim.Native.Nat.{ℕ, zero, suc, ◌+◌, ◌-◌, ◌*◌, ◌^◌, ◌≤◌}
use native.Mathlib.Omega.{arith}
use native.Mathlib.Nat.{two-pow-succ, pow-suc, mul_comm, pow-le-pow_left}
use lib.IntN.{pos, nat_abs, negsuc, ◌*ℤ◌, ◌-ℤ◌}
use lib.Pow.{pow-add}
use lib.Signed.{shr_z}
use Rattle.numbers.proofs.Algebra.RingSolver.{ring, #◌, ⊝◌, ◌⊖◌, ◌⊗◌, ◌≐◌}
use Rattle.numbers.proofs.Algebra.Sum.{δ}
use Rattle.numbers.proofs.Counting.Search.{below_pow}
use Rattle.numbers.proofs.Remainders.Congruence.{cong_sym, cong_near}
use Rattle.numbers.proofs.Remainders.Division.{shr_exact}
use Rattle.numbers.proofs.Remainders.Powers.{power_one}
use Rattle.tables.specs.Tables.{Matrix, ◌⊞◌, ◌⊙◌, ◌·⟨◌⟩◌, Zero, HasInverseMod}
use Rattle.tables.proofs.Algebra.Matrix.{cong_m_eq}
use Rattle.tables.proofs.Algebra.MatrixSolver.{matrix, modular, given◌is◌by◌and◌then◌, 𝟘ᵉ, 𝟙, ◌⊞ᵉ◌, ◌⊟ᵉ◌, ◌·ᵉ◌, ◌⊙ᵉ◌, ◌≑◌}
use Rattle.tables.proofs.Inverses.TwoSided.{two_sided}

-- modulo p·q, hence modulo p
pub fewer_mod : {n : ℕ} {A : Matrix} (p q : ℕ) → HasInverseMod n (p * q) A → HasInverseMod n p A
fewer_mod {n} {A} p q w = record {
  inverse = w.inverse;
  right = λ i j h k. let c = w.right i j h k in record { quot = pos q *ℤ c.quot; eqn = c.eqn ∙ ring 3 (λ p q t. p ⊗ q ⊗ t ≐ p ⊗ (q ⊗ t)) tt (pos p) (pos q) c.quot };
}

-- modulo p^e, hence modulo p
pub base_mod : (p : ℕ) {n e : ℕ} {A : Matrix} → 1 ≤ e → HasInverseMod n (p ^ e) A → HasInverseMod n p A
base_mod p {e = zero} h w = absurd (omega arith)
base_mod p {n} {e = suc e} {A} h w = fewer_mod p (p ^ e) (subst (λ (m : ℕ). HasInverseMod n m A) (pow-suc p e ∙ mul_comm (p ^ e) p) w)

-- from X to X²: A·C = I - X·Q gives A·(C·(I + X·Q)) = I - X²·Q²
squared_mod : (n X : ℕ) (A : Matrix) → HasInverseMod n X A → HasInverseMod n (X * X) A
squared_mod n X A w =
    let C : Matrix = w.inverse in
    let Q : Matrix = λ i j. shr_z (δ i j -ℤ (A ·⟨ n ⟩ C) i j) X in
    record {
      inverse = C ·⟨ n ⟩ (δ ⊞ pos X ⊙ Q);
      right = λ i j h k. record {
        quot = negsuc 0 *ℤ (Q ·⟨ n ⟩ Q) i j;
        eqn = matrix n 1 3 (λ x A C Q. given 𝟙 ⊟ᵉ A ·ᵉ C is x ⊙ᵉ Q by (⊝ # 1) ⊙ᵉ 𝟙 and 𝟙 ⊞ᵉ x ⊙ᵉ Q then A ·ᵉ (C ·ᵉ (𝟙 ⊞ᵉ x ⊙ᵉ Q)) ⊟ᵉ 𝟙 ≑ (x ⊗ x) ⊙ᵉ (⊝ # 1) ⊙ᵉ (Q ·ᵉ Q)) tt
            (pos X) A C Q (λ i j h k. shr_exact X (cong_sym (w.right i j h k))) i j h k;
      };
    }

-- from p to p^(2^e), and so to p^e
pub power_mod : (p n : ℕ) (A : Matrix) → HasInverseMod n p A → (e : ℕ) → HasInverseMod n (p ^ e) A
power_mod p n A w e = fewer_mod (p ^ e) (p ^ (2 ^ e - e)) (subst (λ (m : ℕ). HasInverseMod n m A) split (tower e))
  where
    tower : (j : ℕ) → HasInverseMod n (p ^ (2 ^ j)) A
    tower zero = subst (λ (m : ℕ). HasInverseMod n m A) (sym (power_one p)) w
    tower (suc j) =
        subst
        (λ (m : ℕ). HasInverseMod n m A)
        (sym (pow-add p (2 ^ j) (2 ^ j)) ∙ ap (λ (y : ℕ). p ^ y) (sym (two-pow-succ j)))
        (squared_mod n (p ^ (2 ^ j)) A (tower j))

    split : p ^ (2 ^ e) ≡ p ^ e * p ^ (2 ^ e - e)
    split =
        let h = below_pow e in
        let q : 2 ^ e ≡ e + (2 ^ e - e) = omega arith in
        ap (λ (y : ℕ). p ^ y) q ∙ pow-add p e (2 ^ e - e)

-- where A·Z = 0, Z is 0
pub kernel : (p n : ℕ) (A Z : Matrix) → 2 ≤ p → HasInverseMod n p A → Zero n (A ·⟨ n ⟩ Z) → Zero n Z
kernel p n A Z h w z i j a b =
    let m : ℕ = nat_abs (Z i j) in
    let X : ℕ = p ^ m in
    let u = power_mod p n A w m in
    cong_near
    (modular n (pos X) 0 3 (λ U A Z. given U ·ᵉ A is 𝟙 by (⊝ # 1) ⊙ᵉ 𝟙 and Z then given A ·ᵉ Z is 𝟘ᵉ by U and 𝟙 then Z ≑ 𝟘ᵉ) tt
    u.inverse A Z (two_sided X n A u.inverse u.right) (cong_m_eq n (pos X) z) i j a b)
    (omega (arith, ap nat_abs (ring 1 (λ z. z ⊖ # 0 ≐ z) tt (Z i j)), below_pow m, pow-le-pow_left {n = 2} {m = p} h m))
