-- The vocabulary of the contracts of `number`'s module: what one more byte makes of a number; none where it makes no number.
--   grown limit m b    the magnitude m with the digit b after it, where b is a digit and the limit is kept
--   if_signed s        zero and the minus sign stand only where the form has a sign
--   first_digit, after_nothing, go_digits, after_digits   the state after one more byte, by what has been seen; a 0 is a first digit only where it may
--                      stand alone
--   after_byte f s b   the state of a number of the form f after s has been seen, and then the byte b
--   Allowed f s        what may have been seen of a number of the form f
use Rattle.std.specs.Prelude.{◌≡◌, Bool, true, false, cond, Option, Some, None, ℕ, ◌+◌, ◌*◌, ◌-◌, ◌≤◌, ltb, eqb, pos, neg_ℤ}
use Rattle.sheets.specs.declared.number.Form.{Form}
use Rattle.sheets.specs.declared.number.Seen.{Seen}
use Rattle.sheets.specs.declared.number.Seen.TheVariants.{Nothing, Minus, Digits}
use Rattle.sheets.specs.declared.number.Next.{Next}
use Rattle.sheets.specs.declared.number.Next.TheVariants.{Go, Value}

abbrev pub grown : ℕ → ℕ → ℕ → Option ℕ
grown limit m b = cond (ltb b 48) None (cond (ltb 57 b) None (cond (ltb limit (m * 10 + (b - 48))) None (Some (m * 10 + (b - 48)))))

abbrev pub if_signed : Bool → Seen → Option Next
if_signed true s = Some (Go s)
if_signed false s = None

abbrev pub first_digit : Bool → Bool → Option ℕ → Option Next
first_digit alone negative None = None
first_digit alone negative (Some v) = cond (eqb v 0) (if_signed alone (Digits negative v)) (Some (Go (Digits negative v)))

abbrev pub after_nothing : Bool → Bool → Option ℕ → Option Next
after_nothing signed true g = if_signed signed Minus
after_nothing signed false g = first_digit signed false g

abbrev pub go_digits : Bool → Option ℕ → Option Next
go_digits negative None = None
go_digits negative (Some v) = Some (Go (Digits negative v))

abbrev pub after_digits : Bool → ℕ → Bool → Option ℕ → Option Next
after_digits negative m true g = Some (Value (cond negative (neg_ℤ (pos m)) (pos m)))
after_digits negative m false g = cond (eqb m 0) None (go_digits negative g)

abbrev pub after_byte : Form → Seen → ℕ → Option Next
after_byte f Nothing b = after_nothing f.signed (eqb b 45) (grown f.limit 0 b)
after_byte f Minus b = first_digit false true (grown f.limit 0 b)
after_byte f (Digits negative m) b = after_digits negative m (eqb b f.closing) (grown f.limit m b)

abbrev pub Allowed : Form → Seen → Type 0
Allowed f Nothing = Unit {0}
Allowed f Minus = f.signed ≡ true
Allowed f (Digits false m) = (m ≤ f.limit) × (m ≡ 0 → f.signed ≡ true)
Allowed f (Digits true m) = (f.signed ≡ true) × (1 ≤ m) × (m ≤ f.limit)
