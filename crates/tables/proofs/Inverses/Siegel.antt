-- Siegel's lemma: m equations in n unknowns, in each of which the coefficients' magnitudes add up to at most s, have a solution in whole numbers that
-- is not all 0 and has magnitudes at most H, where (s * H + 1) ^ m < (H + 1) ^ n. For there are more ways to choose the unknowns from
-- 0 to H than there are values of the equations' left sides. So two choices give the same values, and their difference solves.
-- For m + 1 unknowns, H = s ^ m will do.
use mathlib.Core.Path.{◌≡◌, refl, ap}
use Prim.Native.Nat.{ℕ, zero, suc, ◌≤◌, ◌<◌, ◌+◌, ◌*◌, ◌-◌, ◌^◌, zero-le, suc-le-suc}
use native.Mathlib.Nat.{lt_trans, le_trans, lt_of_le_of_lt, le_refl, le_step, le_of_eq, ne_of_lt, le_of_suc-le-suc, mul_comm, mul-add, mul-suc, suc-mul, mul-le-mul, mul-le-mul_left, pow-succ', pow-le-pow_left, one-le-pow}
use native.Mathlib.Omega.{arith}
use lib.IntN.{ℤ, pos, negsuc, nat_abs, ◌+ℤ◌, ◌-ℤ◌, ◌*ℤ◌}
use Rattle.std.proofs.lemmas.Int.{ints}
use Rattle.std.proofs.lemmas.Nat.{mul-pow}
use Rattle.numbers.proofs.Algebra.RingSolver.{ring, if◌is◌by◌then◌, ⊝◌, ◌⊕◌, ◌⊖◌, ◌⊗◌, ◌≐◌}
use Rattle.numbers.proofs.Algebra.Sum.{sum, sum_cong, sum-+}
use Rattle.numbers.proofs.Counting.Pigeonhole.{pigeonhole}
use Rattle.numbers.proofs.Counting.Digits.{number, number_below, number_inj, digit, digit_below, digit_inj}

-- ---- one term of a left side, as a natural number

-- d * c, and H * |c| more where c is negative
weigh : ℕ → ℤ → ℕ → ℕ
weigh H (pos p) d = d * p
weigh H (negsuc q) d = (H - d) * suc q

weigh_le : (H : ℕ) (c : ℤ) (d : ℕ) → d ≤ H → weigh H c d ≤ H * nat_abs c
unfolding weigh
weigh_le H c d hd = grind (arith, mul-le-mul)

weigh_sub : (H : ℕ) (c : ℤ) (a b : ℕ) → a ≤ H → b ≤ H → pos (weigh H c a) ≡ (pos a -ℤ pos b) *ℤ c +ℤ pos (weigh H c b)
unfolding weigh
weigh_sub H (pos p) a b ha hb = ring 3 (λ a b p. a ⊗ p ≐ (a ⊖ b) ⊗ p ⊕ b ⊗ p) tt (pos a) (pos b) (pos p)
weigh_sub H (negsuc q) a b ha hb =
    let e : a + (H - a) ≡ b + (H - b) = omega arith in
    ring 5 (λ a b k l q. if a ⊕ k is b ⊕ l by q then k ⊗ q ≐ (a ⊖ b) ⊗ (⊝ q) ⊕ l ⊗ q) tt (pos a) (pos b) (pos (H - a)) (pos (H - b)) (pos (suc q)) (ap pos e)

nat_abs_diff : (H a b : ℕ) → a ≤ H → b ≤ H → nat_abs (pos a -ℤ pos b) ≤ H
nat_abs_diff H a b ha hb = omega (arith, ints)

-- ---- a left side, as a natural number

unfoldable pub total : ℕ → (ℕ → ℕ) → ℕ
total zero f = 0
total (suc n) f = total n f + f n

pub total_le : (n b : ℕ) (f : ℕ → ℕ) → ((i : ℕ) → i < n → f i ≤ b) → total n f ≤ n * b
unfolding total
total_le zero b f h = zero-le
total_le (suc n) b f h = omega (arith, suc-mul n b, h n (le_refl (suc n)), total_le n b f (λ i k. h i (le_step k)))

total_scale : (n b : ℕ) (f g : ℕ → ℕ) → ((i : ℕ) → i < n → f i ≤ b * g i) → total n f ≤ b * total n g
unfolding total
total_scale zero b f g h = zero-le
total_scale (suc n) b f g h = omega (arith, mul-add b (total n g) (g n), h n (le_refl (suc n)), total_scale n b f g (λ i k. h i (le_step k)))

pos_total : (n : ℕ) (f : ℕ → ℕ) → pos (total n f) ≡ sum n (λ i. pos (f i))
unfolding total sum
pos_total zero f = refl
pos_total (suc n) f = omega (arith, ints, pos_total n f)

-- ---- the lemma

pub record Solution (n m H : ℕ) (C : ℕ → ℕ → ℤ) : Type 0 where
  pub unknown : ℕ → ℤ
  pub small : (i : ℕ) → i < n → nat_abs (unknown i) ≤ H
  pub solves : (c : ℕ) → c < m → sum n (λ i. unknown i *ℤ C i c) ≡ pos 0
  pub nonzero : ¬ ((i : ℕ) → i < n → unknown i ≡ pos 0)

module _ (n m s H : ℕ) (C : ℕ → ℕ → ℤ) (C-le : (c : ℕ) → c < m → total n (λ i. nat_abs (C i c)) ≤ s) where
  -- unknown i at the choice x, and the left side c
  at : ℕ → ℕ → ℕ
  at x i = digit (suc H) x i

  side : ℕ → ℕ → ℕ
  side x c = total n (λ i. weigh H (C i c) (at x i))

  at_le : (x i : ℕ) → at x i ≤ H
  unfolding at
  at_le x i = le_of_suc-le-suc (digit_below (suc H) x i (omega arith))

  side_below : (x c : ℕ) → c < m → side x c < suc (s * H)
  unfolding side
  side_below x c k =
      rw (mul_comm s H)
      (suc-le-suc (le_trans (total_scale n H _ (λ i. nat_abs (C i c)) (λ i l. weigh_le H (C i c) _ (at_le x i))) (mul-le-mul_left H (C-le c k))))

  diff_solves : (x y c : ℕ) → side x c ≡ side y c → sum n (λ i. (pos (at x i) -ℤ pos (at y i)) *ℤ C i c) ≡ pos 0
  unfolding side
  diff_solves x y c e =
      let weight : ℕ → ℕ → ℕ = λ x i. weigh H (C i c) (at x i) in
      let diff : ℕ → ℤ = λ i. (pos (at x i) -ℤ pos (at y i)) *ℤ C i c in
      let split : sum n (λ i. pos (weight x i)) ≡ sum n (λ i. diff i +ℤ pos (weight y i)) = sum_cong n (λ i l. weigh_sub H (C i c) (at x i) (at y i) (at_le x i) (at_le y i)) in
      omega (arith, ints, pos_total n (weight x), pos_total n (weight y), split, sum-+ n diff (λ i. pos (weight y i)), e)

  pub siegel : suc (s * H) ^ m < suc H ^ n → Solution n m H C
  unfolding at
  siegel few =
      let (x, y, l, k, e) = pigeonhole (suc H ^ n) _ (λ x. number _ (side x) m) few (λ x l. number_below _ (side x) m (side_below x)) in
      record {
        unknown = λ i. pos (at x i) -ℤ pos (at y i);
        small = λ i l. nat_abs_diff H (at x i) (at y i) (at_le x i) (at_le y i);
        solves = λ c l. diff_solves x y c (number_inj _ (side x) (side y) m (side_below x) (side_below y) e c l);
        nonzero = λ z.
            ne_of_lt l
            (digit_inj (suc H) n x y (omega arith) (lt_trans l k) k
            (λ i l. omega (arith, ints, z i l)));
      }

-- ---- one equation fewer than unknowns

pub few_values : (s m : ℕ) → 0 < s → suc (s * s ^ m) ^ m < suc (s ^ m) ^ suc m
few_values s m h =
    lt_of_le_of_lt
    (le_trans (pow-le-pow_left {m = s * suc (s ^ m)} (omega (arith, mul-suc s (s ^ m))) m) (le_of_eq (mul-pow s (suc (s ^ m)) m)))
    (omega (arith, pow-succ' (suc (s ^ m)) m, suc-mul (s ^ m) (suc (s ^ m) ^ m), one-le-pow m (suc (s ^ m)) (omega arith)))
