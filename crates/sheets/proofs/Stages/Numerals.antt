-- A number's states: what one more digit makes of a magnitude, the text that each state stands for, and that a byte taken is that text's next.
use mathlib.Core.Path.{◌≡◌, refl, sym, ap, ◌∙◌}
use mathlib.Core.Bool.{Bool, true, false, cond}
use mathlib.Core.List.{List, [], ◌∷◌, ◌++◌}
use Rattle.std.specs.Prelude.{Option, Some, None}
use Prim.Native.Nat.{ℕ, zero, suc, ◌+◌, ◌*◌, ◌-◌, ◌≤◌, ◌<◌}
use native.Mathlib.Omega.{arith}
use lib.Dec.{ltb, eqb}
use lib.IntN.{ℤ, pos, neg_ℤ, nat_abs}
use borrow.Author.Tests.{ltb-false, le-ltb, eqb-true, eqb-false}
use Rattle.sheets.specs.declared.number.Form.{Form}
use Rattle.sheets.specs.declared.number.Seen.{Seen}
use Rattle.sheets.specs.declared.number.Seen.TheVariants.{Nothing, Minus, Digits}
use Rattle.sheets.specs.declared.number.Next.{Next}
use Rattle.sheets.specs.declared.number.Next.TheVariants.{Go, Value}
use Rattle.sheets.specs.Sheet.{decimal, figure}
use Rattle.sheets.specs.Digits.{grown, after_byte, after_nothing, first_digit, go_digits, after_digits, if_signed, Allowed}
use Rattle.sheets.proofs.Text.Decimal.{decimal_digit, decimal_more}

pub record Digit (limit m b v : ℕ) : Type 0 where
  pub low : 48 ≤ b
  pub high : b ≤ 57
  pub value : v ≡ m * 10 + (b - 48)
  pub kept : v ≤ limit

digit_when : (limit m b v : ℕ) (t₁ t₂ t₃ : Bool) → ltb b 48 ≡ t₁ → ltb 57 b ≡ t₂ → ltb limit (m * 10 + (b - 48)) ≡ t₃
    → cond t₁ None (cond t₂ None (cond t₃ None (Some (m * 10 + (b - 48))))) ≡ Some v → Digit limit m b v
digit_when limit m b v true t₂ t₃ e₁ e₂ e₃ e = cc
digit_when limit m b v false true t₃ e₁ e₂ e₃ e = cc
digit_when limit m b v false false true e₁ e₂ e₃ e = cc
digit_when limit m b v false false false e₁ e₂ e₃ e =
    let w : v ≡ m * 10 + (b - 48) = cc in
    let h : m * 10 + (b - 48) ≤ limit = ltb-false _ _ e₃ in
    record { low = ltb-false _ _ e₁; high = ltb-false _ _ e₂; value = w; kept = rw w h }

-- a magnitude that grew took a digit
pub digit : (limit m b v : ℕ) → grown limit m b ≡ Some v → Digit limit m b v
digit limit m b v e = digit_when limit m b v (ltb b 48) (ltb 57 b) (ltb limit (m * 10 + (b - 48))) refl refl refl e

-- a digit that keeps the limit is taken
pub grown_digit : (limit m d : ℕ) → d < 10 → m * 10 + d ≤ limit → grown limit m (48 + d) ≡ Some (m * 10 + d)
grown_digit limit m d h k =
    let e : 48 + d - 48 ≡ d = omega arith in
    let p : 48 ≤ 48 + d = omega arith in
    let q : 48 + d ≤ 57 = omega arith in
    simp (le-ltb (48 + d) 48 p, le-ltb 57 (48 + d) q, e, le-ltb limit (m * 10 + d) k)

abbrev pub seen_text : Seen → List ℕ
seen_text Nothing = []
seen_text Minus = 45 ∷ []
seen_text (Digits false m) = decimal m
seen_text (Digits true m) = 45 ∷ decimal m

-- a number of the form
pub record Numeral (f : Form) (z : ℤ) : Type 0 where
  pub size : nat_abs z ≤ f.limit
  pub plain : f.signed ≡ false → (z ≡ pos (nat_abs z)) × (1 ≤ nat_abs z)

abbrev pub Fine : Form → Seen → ℕ → Option Next → Type 0
Fine f s b (Some (Go s')) = Allowed f s' × (seen_text s' ≡ seen_text s ++ (b ∷ []))
Fine f s b (Some (Value z)) = (b ≡ f.closing) × (seen_text s ≡ figure z) × Numeral f z
Fine f s b None = Unit {0}

fine_signed : (f : Form) (s : Seen) (b : ℕ) (t : Bool) (s' : Seen) → (t ≡ true → Allowed f s' × (seen_text s' ≡ seen_text s ++ (b ∷ [])))
    → Fine f s b (if_signed t s')
fine_signed f s b true s' k = k refl
fine_signed f s b false s' k = tt

fine_cond : (f : Form) (s : Seen) (b : ℕ) (t t' : Bool) (x y : Option Next) → t' ≡ t → (t' ≡ true → Fine f s b x) → (t' ≡ false → Fine f s b y)
    → Fine f s b (cond t x y)
fine_cond f s b true t' x y e p q = p e
fine_cond f s b false t' x y e p q = q e

-- the first digit, and a later one
first_text : (limit b v : ℕ) → Digit limit 0 b v → decimal v ≡ b ∷ []
first_text limit b v d =
    let h : v < 10 = omega (arith, d.low, d.high, d.value) in
    let e : 48 + v ≡ b = omega (arith, d.low, d.high, d.value) in
    decimal_digit v h ∙ ap (λ (x : ℕ). x ∷ []) e

next_text : (limit m b v : ℕ) → 1 ≤ m → Digit limit m b v → decimal v ≡ decimal m ++ (b ∷ [])
next_text limit m b v p d =
    let h : b - 48 < 10 = omega (arith, d.low, d.high) in
    let e : 48 + (b - 48) ≡ b = omega (arith, d.low) in
    ap decimal d.value ∙ decimal_more m (b - 48) p h ∙ ap (λ (x : ℕ). decimal m ++ (x ∷ [])) e

fine_first : (f : Form) (s : Seen) (alone negative : Bool) (b : ℕ) (g : Option ℕ) → grown f.limit 0 b ≡ g
    → ((v : ℕ) → Digit f.limit 0 b v → (v ≡ 0 → alone ≡ true) → Allowed f (Digits negative v) × (seen_text (Digits negative v) ≡ seen_text s ++ (b ∷ [])))
    → Fine f s b (first_digit alone negative g)
fine_first f s alone negative b None h k = tt
fine_first f s alone negative b (Some v) h k =
    let d = digit f.limit 0 b v h in
    fine_cond f s b (eqb v 0) (eqb v 0) _ _ refl
    (λ z. fine_signed f s b alone (Digits negative v) (λ t. k v d (λ n. t)))
    (λ z. k v d (λ n. absurd (eqb-false _ _ z n)))

fine_nothing : (f : Form) (b : ℕ) (t : Bool) (g : Option ℕ) → eqb b 45 ≡ t → grown f.limit 0 b ≡ g
    → Fine f Nothing b (after_nothing f.signed t g)
fine_nothing f b true g e h =
    fine_signed f Nothing b f.signed Minus (λ s. (s, ap (λ (x : ℕ). x ∷ []) (sym (eqb-true _ _ e))))
fine_nothing f b false g e h =
    fine_first f Nothing f.signed false b g h (λ v d z. ((d.kept, z), first_text f.limit b v d))

not_zero : (v : ℕ) → (v ≡ 0 → false ≡ true) → 1 ≤ v
not_zero zero z = let e : false ≡ true = z refl in cc
not_zero (suc v) z = omega arith

fine_minus : (f : Form) (b : ℕ) (g : Option ℕ) → f.signed ≡ true → grown f.limit 0 b ≡ g → Fine f Minus b (first_digit false true g)
fine_minus f b g l h =
    fine_first f Minus false true b g h
    (λ v d z. ((l, not_zero v z, d.kept), ap (λ (x : List ℕ). 45 ∷ x) (first_text f.limit b v d)))

fine_go : (f : Form) (negative : Bool) (m b : ℕ) (g : Option ℕ) → 1 ≤ m → Allowed f (Digits negative m) → grown f.limit m b ≡ g
    → Fine f (Digits negative m) b (go_digits negative g)
fine_go f negative m b None p l h = tt
fine_go f false m b (Some v) p l h =
    let d = digit f.limit m b v h in
    ((d.kept, (λ z. absurd (omega (arith, d.value)))), next_text f.limit m b v p d)
fine_go f true m b (Some v) p l h =
    let d = digit f.limit m b v h in
    ((l.0, omega (arith, d.value, p), d.kept), ap (λ (x : List ℕ). 45 ∷ x) (next_text f.limit m b v p d))

positive : (f : Form) (m : ℕ) → m ≤ f.limit → (m ≡ 0 → f.signed ≡ true) → Numeral f (pos m)
positive f m k z = record { size = k; plain = λ s. (refl, not_zero m (λ e. sym s ∙ z e)) }

negative_text : (m : ℕ) → 1 ≤ m → 45 ∷ decimal m ≡ figure (neg_ℤ (pos m))
negative_text zero p = absurd (omega arith)
negative_text (suc m) p = refl

negative_numeral : (f : Form) (m : ℕ) → f.signed ≡ true → 1 ≤ m → m ≤ f.limit → Numeral f (neg_ℤ (pos m))
negative_numeral f zero s p k = absurd (omega arith)
negative_numeral f (suc m) s p k = record { size = k; plain = λ n. let e : true ≡ false = sym s ∙ n in cc }

-- the number that is closed after the digits
closed : (f : Form) (negative : Bool) (m : ℕ) → Allowed f (Digits negative m)
    → (seen_text (Digits negative m) ≡ figure (cond negative (neg_ℤ (pos m)) (pos m))) × Numeral f (cond negative (neg_ℤ (pos m)) (pos m))
closed f false m l = (refl, positive f m l.0 l.1)
closed f true m l = (negative_text m l.1, negative_numeral f m l.0 l.1 l.2)

fine_digits : (f : Form) (negative : Bool) (m b : ℕ) (t : Bool) (g : Option ℕ) → Allowed f (Digits negative m) → eqb b f.closing ≡ t
    → grown f.limit m b ≡ g → Fine f (Digits negative m) b (after_digits negative m t g)
fine_digits f negative m b true g l e h = let v = closed f negative m l in (eqb-true _ _ e, v.0, v.1)
fine_digits f negative m b false g l e h =
    fine_cond f (Digits negative m) b (eqb m 0) (eqb m 0) _ _ refl (λ z. tt) (λ z. fine_go f negative m b g (omega (arith, eqb-false m 0 z)) l h)

-- every byte of a number is fine
pub fine : (f : Form) (s : Seen) (b : ℕ) → Allowed f s → Fine f s b (after_byte f s b)
fine f Nothing b l = fine_nothing f b (eqb b 45) (grown f.limit 0 b) refl refl
fine f Minus b l = fine_minus f b (grown f.limit 0 b) l refl
fine f (Digits negative m) b l = fine_digits f negative m b (eqb b f.closing) (grown f.limit m b) l refl refl
