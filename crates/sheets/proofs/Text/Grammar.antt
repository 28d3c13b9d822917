-- `decimal` is the decimal form of document 01: digits with no leading zero, one such list for each number.
--   value_from v l   the value of the digits l that follow the value v
--   Digits l        every byte of l is a digit
--   Lead l          at least one digit, and the first of several is not zero
use mathlib.Core.Path.{◌≡◌, sym, ap, ◌∙◌}
use mathlib.Core.List.{List, [], ◌∷◌, ◌++◌, append_assoc, append-nil}
use Prim.Native.Nat.{ℕ, ◌+◌, ◌*◌, ◌-◌, ◌≤◌, ◌<◌}
use native.Mathlib.Omega.{arith}
use Rattle.sheets.specs.Sheet.{decimal}
use Rattle.sheets.proofs.Text.Decimal.{decimal_digit, decimal_more}

abbrev pub value_from : ℕ → List ℕ → ℕ
value_from v [] = v
value_from v (b ∷ l) = value_from (v * 10 + (b - 48)) l

abbrev pub Digits : List ℕ → Type 0
Digits [] = Unit {0}
Digits (b ∷ l) = (48 ≤ b) × (b ≤ 57) × Digits l

abbrev pub Lead : List ℕ → Type 0
Lead [] = ⊥
Lead (b ∷ []) = Unit {0}
Lead (b ∷ c ∷ l) = b ≡ 48 → ⊥

value_text : (v : ℕ) (l : List ℕ) → 1 ≤ v → Digits l → decimal (value_from v l) ≡ decimal v ++ l
value_text v [] p d = sym (append-nil (decimal v))
value_text v (b ∷ l) p d =
    let h : b - 48 < 10 = omega (arith, d.0, d.1) in
    let e : 48 + (b - 48) ≡ b = omega (arith, d.0) in
    value_text (v * 10 + (b - 48)) l (omega arith) d.2
    ∙ ap (λ (x : List ℕ). x ++ l) (decimal_more v (b - 48) p h)
    ∙ append_assoc (decimal v) ((48 + (b - 48)) ∷ []) l
    ∙ ap (λ (x : ℕ). decimal v ++ x ∷ l) e

first_text : (b : ℕ) → 48 ≤ b → b ≤ 57 → decimal (0 * 10 + (b - 48)) ≡ b ∷ []
first_text b p q =
    let h : 0 * 10 + (b - 48) < 10 = omega arith in
    let e : 48 + (0 * 10 + (b - 48)) ≡ b = omega arith in
    decimal_digit (0 * 10 + (b - 48)) h ∙ ap (λ (x : ℕ). x ∷ []) e

-- digits with no leading zero are the decimal form of their value
pub decimal_only : (l : List ℕ) → Digits l → Lead l → decimal (value_from 0 l) ≡ l
decimal_only [] d p = absurd p
decimal_only (b ∷ []) d p = first_text b d.0 d.1
decimal_only (b ∷ c ∷ l) d p =
    let x : ¬ (b ≡ 48) = p in
    value_text (0 * 10 + (b - 48)) (c ∷ l) (omega (arith, d.0)) d.2 ∙ ap (λ (y : List ℕ). y ++ c ∷ l) (first_text b d.0 d.1)
