-- How many bytes figures take: a figure below 10^(k+1) at most k + 2, and with the byte after it k + 3.
--   Below k zs   every figure is below 10^(k+1)
use mathlib.Core.Path.{◌≡◌, refl, sym, ap, ◌∙◌}
use mathlib.Core.Bool.{Bool, true, false}
use mathlib.Core.List.{List, [], ◌∷◌}
use Prim.Native.Nat.{ℕ, zero, suc, ◌+◌, ◌*◌, ◌/◌, ◌%◌, ◌^◌, ◌≤◌, ◌<◌}
use native.Mathlib.Nat.{pow-suc, div-lt_iff_lt-mul, mul-suc, mul-add}
use native.Mathlib.Omega.{arith}
use lib.Dec.{ltb}
use lib.IntN.{ℤ, pos, negsuc, nat_abs}
use lib.ListN.{length, take, drop, length-append, take-append-drop}
use borrow.Author.Tests.{ltb-true, ltb-false}
use Rattle.sheets.specs.Sheet.{decimal, figure, line, rows}
use Rattle.sheets.proofs.Text.Decimal.{decimal_digit, decimal_split}

digits_at : (k m : ℕ) (t : Bool) → ltb m 10 ≡ t → m < 10 ^ suc k → ((j : ℕ) → j < 10 ^ k → 1 ≤ k → length (decimal j) ≤ k) → length (decimal m) ≤ suc k
digits_at k m true e h next = omega (arith, ap length (decimal_digit m (ltb-true _ _ e)))
digits_at zero m false e h next = absurd (omega (arith, ltb-false m 10 e))
digits_at (suc k) m false e h next =
    let q : 10 ≤ m = ltb-false m 10 e in
    let p : m < 10 ^ suc k * 10 = rw (pow-suc 10 (suc k)) at h in
    let l : length (decimal m) ≡ length (decimal (m / 10)) + 1 = ap length (decimal_split m q) ∙ length-append (decimal (m / 10)) ((48 + m % 10) ∷ []) in
    let j : m / 10 < 10 ^ suc k = (div-lt_iff_lt-mul {k = 10} {x = m} {y = 10 ^ suc k} (omega arith)).1 p in
    omega (arith, next (m / 10) j (omega arith))

-- a number below 10^(k+1) has at most k + 1 digits
pub digits_most : (k m : ℕ) → m < 10 ^ suc k → length (decimal m) ≤ suc k
digits_most zero m h = digits_at zero m (ltb m 10) refl h (λ j a b. absurd (omega arith))
digits_most (suc k) m h = digits_at (suc k) m (ltb m 10) refl h (λ j a b. digits_most k j a)

abbrev pub Below : ℕ → List ℤ → Type 0
Below k [] = Unit {0}
Below k (z ∷ zs) = (nat_abs z < 10 ^ suc k) × Below k zs

figure_most : (k : ℕ) (z : ℤ) → nat_abs z < 10 ^ suc k → length (figure z) ≤ k + 2
figure_most k (pos m) h = omega (arith, digits_most k m h)
figure_most k (negsuc m) h = omega (arith, digits_most k (suc m) h)

below_take : (k n : ℕ) (zs : List ℤ) → Below k zs → Below k (take n zs)
below_take k zero zs b = tt
below_take k (suc n) [] b = tt
below_take k (suc n) (z ∷ zs) b = (b.0, below_take k n zs b.1)

below_drop : (k n : ℕ) (zs : List ℤ) → Below k zs → Below k (drop n zs)
below_drop k zero zs b = b
below_drop k (suc n) [] b = tt
below_drop k (suc n) (z ∷ zs) b = below_drop k n zs b.1

pub line_most : (k : ℕ) (zs : List ℤ) → Below k zs → length (line zs) ≤ (k + 3) * length zs
line_most k [] b = omega arith
line_most k (z ∷ []) b = omega (arith, mul-suc (k + 3) 0, length-append (figure z) (10 ∷ []), figure_most k z b.0)
line_most k (z ∷ y ∷ zs) b =
    omega (arith, mul-suc (k + 3) (length (y ∷ zs)), length-append (figure z) (32 ∷ line (y ∷ zs)), figure_most k z b.0, line_most k (y ∷ zs) b.1)

pub rows_most : (k n j : ℕ) (zs : List ℤ) → Below k zs → length (rows n j zs) ≤ (k + 3) * length zs
rows_most k n zero zs b = omega arith
rows_most k n (suc j) zs b =
    let a = take n zs in
    let c = drop n zs in
    let e : length zs ≡ length a + length c = ap length (sym (take-append-drop n zs)) ∙ length-append a c in
    let d : (k + 3) * length zs ≡ (k + 3) * length a + (k + 3) * length c = ap (λ (x : ℕ). (k + 3) * x) e ∙ mul-add (k + 3) (length a) (length c) in
    omega (arith, d, length-append (line a) (rows n j c), line_most k a (below_take k n zs b), rows_most k n j c (below_drop k n zs b))
