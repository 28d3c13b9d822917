-- Every sheet leads to the state that holds its order and its entries.
use mathlib.Core.Path.{◌≡◌, refl, sym, ap, ap₂, ◌∙◌}
use mathlib.Core.Bool.{Bool, true, false, cond}
use mathlib.Core.List.{List, [], ◌∷◌, ◌++◌, append_assoc, append-nil}
use Rattle.std.specs.Prelude.{Option, Some, None}
use Prim.Native.Nat.{ℕ, suc, ◌+◌, ◌*◌, ◌%◌, ◌≤◌, ◌<◌}
use native.Mathlib.Nat.{zero-add}
use native.Mathlib.Omega.{arith}
use lib.Dec.{eqb}
use lib.IntN.{ℤ, pos, negsuc, neg_ℤ, nat_abs}
use lib.ListN.{length, length-append}
use borrow.Author.Tests.{lt-ltb, eqb-true, eq-eqb, ne_eqb}
use Rattle.sheets.specs.declared.number.Form.{Form}
use Rattle.sheets.specs.declared.number.Seen.{Seen}
use Rattle.sheets.specs.declared.number.Seen.TheVariants.{Nothing, Minus, Digits}
use Rattle.sheets.specs.declared.number.Next.{Next}
use Rattle.sheets.specs.declared.number.Next.TheVariants.{Go, Value}
use Rattle.sheets.specs.Sheet.{decimal, figure, IsSheet}
use Rattle.sheets.specs.Digits.{grown, after_byte, after_nothing, first_digit, after_digits, if_signed}
use Rattle.sheets.specs.Model.{closing, order_form, entry_form, State, Head, Body, Dead, in_head, in_body, step, run}
use Rattle.sheets.proofs.Text.Decimal.{decimal_digit, decimal_more, by_digits}
use Rattle.sheets.proofs.Stages.Numerals.{grown_digit}
use Rattle.sheets.proofs.Text.Lines.{lines, sheet_lines}
use Rattle.sheets.proofs.Stages.States.{run_append}
use Rattle.numbers.specs.Limits.{Legal}

first_of : (alone negative : Bool) (d : ℕ) (t : Bool) → eqb d 0 ≡ t → (d ≡ 0 → alone ≡ true)
    → cond t (if_signed alone (Digits negative d)) (Some (Go (Digits negative d))) ≡ Some (Go (Digits negative d))
first_of alone negative d true e z = ap (λ (x : Bool). if_signed x (Digits negative d)) (z (eqb-true _ _ e))
first_of alone negative d false e z = refl

module _ (f : Form) (d : ℕ) (h : d < 10) (k : d ≤ f.limit) where
  grown_first : grown f.limit 0 (48 + d) ≡ Some d
  grown_first = grown_digit f.limit 0 d h (omega arith) ∙ ap Some (zero-add d)

  first_digit_go : (d ≡ 0 → f.signed ≡ true) → after_byte f Nothing (48 + d) ≡ Some (Go (Digits false d))
  first_digit_go z =
      let e : eqb (48 + d) 45 ≡ false = ne_eqb _ _ (λ (q : 48 + d ≡ 45). omega arith) in
      ap₂ (after_nothing f.signed) e grown_first ∙ first_of f.signed false d (eqb d 0) refl z

  less_digit_go : 1 ≤ d → after_byte f Minus (48 + d) ≡ Some (Go (Digits true d))
  less_digit_go p =
      ap (first_digit false true) grown_first ∙ first_of false true d (eqb d 0) refl (λ (q : d ≡ 0). absurd (omega arith))

next_digit : (f : Form) (low : f.closing < 48) (negative : Bool) (m d : ℕ) → 1 ≤ m → d < 10 → m * 10 + d ≤ f.limit
    → after_byte f (Digits negative m) (48 + d) ≡ Some (Go (Digits negative (m * 10 + d)))
next_digit f low negative m d p h k =
    let c : eqb (48 + d) f.closing ≡ false = ne_eqb _ _ (λ (q : 48 + d ≡ f.closing). omega arith) in
    let e : eqb m 0 ≡ false = ne_eqb _ _ (λ (q : m ≡ 0). omega arith) in
    ap₂ (after_digits negative m) c (grown_digit f.limit m d h k) ∙ ap (λ (t : Bool). cond t None (Some (Go (Digits negative (m * 10 + d))))) e

-- a place in a sheet where a number of the form f is read: E its states, out what follows a byte
pub record Slot (E : Seen → State) (f : Form) (out : Option Next → State) : Type 0 where
  pub low : f.closing < 48
  pub go : (s : Seen) → out (Some (Go s)) ≡ E s
  pub stop : out None ≡ Dead
  pub steps : (s : Seen) (b : ℕ) → step (E s) b ≡ out (after_byte f s b)

module _ {E : Seen → State} {f : Form} {out : Option Next → State} (slot : Slot E f out) where
  taken : (s s' : Seen) (b : ℕ) → after_byte f s b ≡ Some (Go s') → step (E s) b ≡ E s'
  taken s s' b e = slot.steps s b ∙ ap out e ∙ slot.go s'

  plain_run : (m : ℕ) → m ≤ f.limit → (m ≡ 0 → f.signed ≡ true) → run (E Nothing) (decimal m) ≡ E (Digits false m)
  plain_run = by_digits (λ (m : ℕ). m ≤ f.limit → (m ≡ 0 → f.signed ≡ true) → run (E Nothing) (decimal m) ≡ E (Digits false m))
      (λ d h k z. ap (run (E Nothing)) (decimal_digit d h) ∙ taken Nothing (Digits false d) (48 + d) (first_digit_go f d h k z))
      (λ m d p h next k z. ap (run (E Nothing)) (decimal_more m d p h) ∙ run_append (E Nothing) (decimal m) ((48 + d) ∷ [])
      ∙ ap (λ (s : State). step s (48 + d)) (next (omega arith) (λ (q : m ≡ 0). absurd (omega arith)))
      ∙ taken (Digits false m) (Digits false (m * 10 + d)) (48 + d) (next_digit f slot.low false m d p h k))

  less_run : (m : ℕ) → 1 ≤ m → m ≤ f.limit → run (E Minus) (decimal m) ≡ E (Digits true m)
  less_run = by_digits (λ (m : ℕ). 1 ≤ m → m ≤ f.limit → run (E Minus) (decimal m) ≡ E (Digits true m))
      (λ d h p k. ap (run (E Minus)) (decimal_digit d h) ∙ taken Minus (Digits true d) (48 + d) (less_digit_go f d h k p))
      (λ m d p h next q k. ap (run (E Minus)) (decimal_more m d p h) ∙ run_append (E Minus) (decimal m) ((48 + d) ∷ [])
      ∙ ap (λ (s : State). step s (48 + d)) (next p (omega arith))
      ∙ taken (Digits true m) (Digits true (m * 10 + d)) (48 + d) (next_digit f slot.low true m d p h k))

  closed_digits : (negative : Bool) (m : ℕ) → step (E (Digits negative m)) f.closing ≡ out (Some (Value (cond negative (neg_ℤ (pos m)) (pos m))))
  closed_digits negative m =
      slot.steps (Digits negative m) f.closing
      ∙ ap (λ (t : Bool). out (after_digits negative m t (grown f.limit m f.closing))) (eq-eqb f.closing f.closing refl)

  pub plain_read : (m : ℕ) → m ≤ f.limit → (m ≡ 0 → f.signed ≡ true) → run (E Nothing) (decimal m ++ (f.closing ∷ [])) ≡ out (Some (Value (pos m)))
  plain_read m k z =
      run_append (E Nothing) (decimal m) (f.closing ∷ []) ∙ ap (λ (s : State). step s f.closing) (plain_run m k z) ∙ closed_digits false m

  pub figure_read : (z : ℤ) → nat_abs z ≤ f.limit → f.signed ≡ true → run (E Nothing) (figure z ++ (f.closing ∷ [])) ≡ out (Some (Value z))
  figure_read (pos m) k s = plain_read m k (λ q. s)
  figure_read (negsuc m) k s =
      let e : after_byte f Nothing 45 ≡ Some (Go Minus) = ap (λ (x : Bool). if_signed x Minus) s in
      ap (λ (x : State). run x (decimal (suc m) ++ (f.closing ∷ []))) (taken Nothing Minus 45 e)
      ∙ run_append (E Minus) (decimal (suc m)) (f.closing ∷ [])
      ∙ ap (λ (x : State). step x f.closing) (less_run (suc m) (omega arith) k)
      ∙ closed_digits true (suc m)

pub head_slot : Slot Head order_form in_head
head_slot = record { low = omega arith; go = λ s. refl; stop = refl; steps = λ s b. refl }

closing_low : (n i : ℕ) (t : Bool) → cond t 10 32 < 48
closing_low n i true = omega arith
closing_low n i false = omega arith

pub body_slot : (n : ℕ) (es : List ℤ) → length es < n * n → Slot (Body n es) (entry_form n (length es)) (in_body n es true)
body_slot n es k = record {
  low = closing_low n (length es) (eqb ((length es + 1) % n) 0);
  go = λ s. refl;
  stop = refl;
  steps = λ s b. ap (λ (t : Bool). in_body n es t (after_byte (entry_form n (length es)) s b)) (lt-ltb (length es) (n * n) k);
}

cons_append : (x : ℕ) (a b : List ℕ) → a ++ x ∷ b ≡ (a ++ (x ∷ [])) ++ b
cons_append x a b = sym (append_assoc a (x ∷ []) b)

lines_run : (n : ℕ) (es zs : List ℤ) → length es + length zs ≡ n * n → Legal zs → run (Body n es Nothing) (lines n (length es) zs) ≡ Body n (es ++ zs) Nothing
lines_run n es [] k w = ap (λ (x : List ℤ). Body n x Nothing) (sym (append-nil es))
lines_run n es (z ∷ zs) k w =
    let h : length es < n * n = omega arith in
    let j : length (es ++ (z ∷ [])) ≡ suc (length es) = length-append es (z ∷ []) ∙ (omega arith) in
    let l : length (es ++ (z ∷ [])) + length zs ≡ n * n = omega arith in
    ap (run (Body n es Nothing)) (cons_append (closing n (length es)) (figure z) (lines n (suc (length es)) zs))
    ∙ run_append (Body n es Nothing) (figure z ++ (closing n (length es) ∷ [])) (lines n (suc (length es)) zs)
    ∙ ap (λ (s : State). run s (lines n (suc (length es)) zs)) (figure_read (body_slot n es h) z w.0 refl)
    ∙ ap (λ (i : ℕ). run (Body n (es ++ (z ∷ [])) Nothing) (lines n i zs)) (sym j)
    ∙ lines_run n (es ++ (z ∷ [])) zs l w.1
    ∙ ap (λ (x : List ℤ). Body n x Nothing) (append_assoc es (z ∷ []) zs)

-- a sheet leads to its order and its entries
pub complete : (t : List ℕ) (n : ℕ) (es : List ℤ) → IsSheet t n es → run (Head Nothing) t ≡ Body n es Nothing
complete t n es h =
    ap (run (Head Nothing)) (h.text ∙ sheet_lines n es h.count ∙ cons_append 10 (decimal n) (lines n 0 es))
    ∙ run_append (Head Nothing) (decimal n ++ (10 ∷ [])) (lines n 0 es)
    ∙ ap (λ (s : State). run s (lines n 0 es)) (plain_read head_slot n h.order.upto (λ (q : n ≡ 0). absurd (omega (arith, h.order.from))))
    ∙ lines_run n [] es (zero-add (length es) ∙ h.count) h.legal
