-- The bits of a word as a column modulo 2: exclusive or is the sum; and the machine's test of parity.
use mathlib.Core.Path.{◌≡◌, refl, ap, ◌∙◌}
use mathlib.Core.Logic.{◌≢◌}
use mathlib.Core.Bool.{not}
use mathlib.Core.List.{List}
use Prim.Native.Nat.{ℕ, zero, suc, ◌+◌, ◌-◌, ◌*◌, ◌/◌, ◌%◌, ◌^◌, ◌<◌}
use native.Mathlib.Nat.{mod-lt, zero-div, div_self, div-eq_of_lt, mul-mod_left, pow-suc, one-mul}
use native.Mathlib.Decide.{dec_lt}
use native.Mathlib.Omega.{arith}
use lib.Bits.{bit_xor, xor_shr, xor_mod}
use lib.Dec.{eqb}
use lib.IntN.{ℤ, pos, negsuc, neg_ℤ}
use lib.ListN.{length, get_or}
use lib.Pow.{pow-add, pow_pos, pow-lt, shl-shr, shl_exact}
use lib.Seq.{get_or-set_same, get_or-set_other}
use lib.Signed.{rem_z}
use mir.Syntax.{w64}
use mir.Val.{to_z, of_z}
use Rattle.numbers.specs.Says.{Says}
use Rattle.numbers.proofs.Answers.Says.{say_yes, say_no}
use Rattle.numbers.proofs.Algebra.RingSolver.{ring, #◌, ⊝◌, ◌⊕◌, ◌⊖◌, ◌⊗◌, ◌≐◌}
use Rattle.numbers.proofs.Remainders.Congruence.{Cong, cong_of_eq, cong_sym, cong_trans}
use Rattle.numbers.proofs.Remainders.Division.{residue_cong}
use Rattle.eliminations.specs.Parity.{bits, xored}
use Rattle.eliminations.specs.Elimination.{ColumnStep, Some, One}

-- ---- one bit

pub bit_lt : (w i : ℕ) → w / 2 ^ i % 2 < 2
bit_lt w i = mod-lt (w / 2 ^ i) (omega arith)

pub bit_zero : (i : ℕ) → 0 / 2 ^ i % 2 ≡ 0
bit_zero i = ap (λ (x : ℕ). x % 2) (zero-div (2 ^ i))

small_xor : (x y : ℕ) → x < 2 → y < 2 → bit_xor x y ≡ (x + y) % 2
small_xor zero zero h k = refl
small_xor zero (suc zero) h k = refl
small_xor (suc zero) zero h k = refl
small_xor (suc zero) (suc zero) h k = refl
small_xor (suc (suc x)) y h k = absurd (omega arith)
small_xor zero (suc (suc y)) h k = absurd (omega arith)
small_xor (suc zero) (suc (suc y)) h k = absurd (omega arith)

pub bit_of_xor : (a b i : ℕ) → bit_xor a b / 2 ^ i % 2 ≡ (a / 2 ^ i % 2 + b / 2 ^ i % 2) % 2
bit_of_xor a b i =
    ap (λ (x : ℕ). x % 2) (xor_shr a b i) ∙ xor_mod (a / 2 ^ i) (b / 2 ^ i) 1
    ∙ small_xor (a / 2 ^ i % 2) (b / 2 ^ i % 2) (bit_lt a i) (bit_lt b i)

-- a power of two has the one bit
pub bit_same : (j : ℕ) → 2 ^ j / 2 ^ j % 2 ≡ 1
bit_same j = ap (λ (q : ℕ). q % 2) (div_self (pow_pos j))

pub bit_other : (j i : ℕ) → i ≢ j → 2 ^ j / 2 ^ i % 2 ≡ 0
bit_other j i e = go (dec_lt i j)
  where
    go : Dec (i < j) → 2 ^ j / 2 ^ i % 2 ≡ 0
    go (yes l) =
        let t : j ≡ suc (j - suc i) + i = omega arith in
        ap (λ (q : ℕ). q % 2)
        (ap (λ (q : ℕ). 2 ^ q / 2 ^ i) t ∙ ap (λ (q : ℕ). q / 2 ^ i) (pow-add 2 (suc (j - suc i)) i)
        ∙ shl-shr (2 ^ suc (j - suc i)) i ∙ pow-suc 2 (j - suc i))
        ∙ mul-mod_left (2 ^ (j - suc i)) 2
    go (no l) = ap (λ (q : ℕ). q % 2) (div-eq_of_lt (pow-lt {i = j} {j = i} (omega arith)))

-- as the machine shifts it
pub one_shl : (i : ℕ) → i < 32 → (1 * 2 ^ i) % 2 ^ 32 ≡ 2 ^ i
one_shl i h = shl_exact {a = 1} 1 i 32 (omega arith) (omega arith) ∙ one-mul (2 ^ i)

-- ---- parity

mod2_cong : (k : ℕ) → Cong (pos 2) (pos (k % 2)) (pos k)
mod2_cong k = residue_cong 2 (omega arith) (pos k)

-- what 2 does not divide is 1 modulo 2
pub odd_one : {k : ℕ} → Some 2 (pos k) → One 2 (pos k)
odd_one {k} f = go (k % 2) (mod-lt k (omega arith)) (cong_sym (mod2_cong k))
  where
    go : (r : ℕ) → r < 2 → Cong (pos 2) (pos k) (pos r) → One 2 (pos k)
    go zero h c = absurd (f c)
    go (suc zero) h c = c
    go (suc (suc r)) h c = absurd (omega arith)

odd_pos : (z : ℤ) (m : ℕ) → m < 2 → Cong (pos 2) (pos m) z → Says (Cong (pos 2) z (pos 1)) (Cong (pos 2) z (pos 0)) (not (eqb m 0))
odd_pos z zero h e = say_no (cong_sym e)
odd_pos z (suc zero) h e = say_yes (cong_sym e)
odd_pos z (suc (suc m)) h e = absurd (omega arith)

odd_neg : (m : ℕ) → m < 2 → not (eqb (of_z w64 (neg_ℤ (pos m))) 0) ≡ not (eqb m 0)
odd_neg zero h = refl
odd_neg (suc zero) h = refl
odd_neg (suc (suc m)) h = absurd (omega arith)

pub odd_test : (z : ℤ) → Says (Cong (pos 2) z (pos 1)) (Cong (pos 2) z (pos 0)) (not (eqb (of_z w64 (rem_z z (to_z w64 2))) 0))
odd_test (pos n) = odd_pos (pos n) (n % 2) (mod-lt n (omega arith)) (mod2_cong n)
odd_test (negsuc n) =
    rw (odd_neg (suc n % 2) (mod-lt (suc n) (omega arith)))
    (odd_pos (negsuc n) (suc n % 2) (mod-lt (suc n) (omega arith))
    (cong_trans (mod2_cong (suc n)) (record { quot = pos (suc n); eqn = ring 1 (λ k. k ⊖ (⊝ k) ≐ # 2 ⊗ k) tt (pos (suc n)) })))

-- ---- words

-- word s joins word d: column s is added to column d
pub xor_step : {n : ℕ} (l : List ℕ) (d s : ℕ) → d < length l
    → ColumnStep (pos 2) n d s (pos 1) (pos 1) (bits l) (bits (xored l d s))
xor_step l d s h = record {
  rest = λ i j hi hj e. cong_of_eq (pos 2) (ap (λ (w : ℕ). pos (w / 2 ^ i % 2)) (get_or-set_other l d j r 0 e));
  here = λ i hi.
      cong_trans (cong_of_eq (pos 2) (ap (λ (w : ℕ). pos (w / 2 ^ i % 2)) (get_or-set_same l d r 0 h) ∙ ap pos (bit_of_xor (get_or l d 0) (get_or l s 0) i)))
      (cong_trans (mod2_cong (bit d i + bit s i)) (cong_of_eq (pos 2) (ring 2 (λ a b. a ⊕ b ≐ # 1 ⊗ a ⊕ # 1 ⊗ b) tt (pos (bit d i)) (pos (bit s i)))));
}
  where
    r : ℕ
    r = bit_xor (get_or l d 0) (get_or l s 0)

    bit : ℕ → ℕ → ℕ
    bit j i = get_or l j 0 / 2 ^ i % 2
