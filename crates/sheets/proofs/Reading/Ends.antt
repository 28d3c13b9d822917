-- The reader's answers: after the order, and after the entries.
use mathlib.Core.Path.{◌≡◌, refl, sym, ap, ◌∙◌, subst}
use mathlib.Core.List.{List, [], ◌∷◌, ◌++◌}
use Prim.Native.Nat.{ℕ, ◌*◌, ◌≤◌, ◌<◌}
use native.Mathlib.Omega.{arith}
use lib.Dec.{T}
use lib.IntN.{ℤ, pos, nat_abs}
use lib.Signed.{non_neg}
use lib.ListN.{length, drop}
use mir.Syntax.{w64}
use mir.Val.{Fits}
use Rattle.sheets.specs.declared.Reason.TheVariants.{Byte}
use Rattle.sheets.specs.declared.Place.{Place}
use Rattle.sheets.specs.declared.cursor.Cursor.{Cursor}
use Rattle.sheets.specs.declared.number.Form.{Form}
use Rattle.sheets.specs.declared.number.Seen.{Seen}
use Rattle.sheets.specs.declared.number.Seen.TheVariants.{Nothing}
use Rattle.sheets.specs.declared.number.Next.{Next}
use Rattle.sheets.specs.declared.number.Next.TheVariants.{Go, Value}
use Rattle.sheets.specs.declared.Refusal.{Refusal}
use Rattle.sheets.specs.declared.Refusal.TheVariants.{Text}
use Rattle.std.specs.Prelude.{Option, Some, None, Result, Ok, Err, IsErrAnd}
use Rattle.sheets.specs.Answer.{ReadSays, read, refused, place_of, figures_of}
use Rattle.sheets.specs.Digits.{after_byte, Allowed}
use Rattle.sheets.specs.Model.{Found, refusal, moved, ahead, scan, order_form, Body, Arrived, Filled, Entered}
use Rattle.numbers.proofs.Machine.{rd, rd_ok}
use Rattle.sheets.proofs.Reading.Scan.{small}
use Rattle.sheets.proofs.Reading.Entries.{body_cells}
use Rattle.sheets.proofs.Stages.Numerals.{Fine, fine, Numeral}
use Rattle.sheets.proofs.Reading.Turns.{start, ready_start, order_read, order_bad, full_more, full_end}

-- a number found is one of its form
numeral_at : (f : Form) (s : Seen) (c : Cursor) (b : ℕ) (l : List ℕ) (z : ℤ) (c' : Cursor) (r : Option Next) → Fine f s b r
    → ((s' : Seen) → Allowed f s' → scan f s' (moved c b) l ≡ Ok (z, c') → Numeral f z)
    → ahead c b (λ s'. scan f s' (moved c b) l) r ≡ Ok (z, c') → Numeral f z
numeral_at f s c b l z c' (Some (Go s')) h next e = next s' h.0 e
numeral_at f s c b l z c' (Some (Value z')) h next e =
    let q : (z', moved c b) ≡ (z, c') = cc in subst (Numeral f) (ap (λ (v : ℤ × Cursor). v.0) q) h.2
numeral_at f s c b l z c' None h next e = cc

numeral : (f : Form) (s : Seen) (c : Cursor) (l : List ℕ) (z : ℤ) (c' : Cursor) → Allowed f s → scan f s c l ≡ Ok (z, c') → Numeral f z
numeral f s c [] z c' h e = cc
numeral f s c (b ∷ l) z c' h e = numeral_at f s c b l z c' (after_byte f s b) (fine f s b h) (λ s' k q. numeral f s' (moved c b) l z c' k q) e

plain_sign : (z : ℤ) → z ≡ pos (nat_abs z) → T (non_neg z)
plain_sign z e = rw e tt

module _ (t : List ℕ) (r : Found) (a : r ≡ scan order_form Nothing start (drop 0 t)) where
  module _ (z : ℤ) (c : Cursor) (e : r ≡ Ok (z, c)) where
    order : Numeral order_form z
    order = numeral order_form Nothing start (drop 0 t) z c tt (sym a ∙ e)

    reads : rd z ≡ z
    reads = let h : nat_abs z ≤ 32 = order.size in rd_ok z (small z (omega arith))

    pub order_casts : T (non_neg (rd z)) × Fits w64 (nat_abs (rd z))
    order_casts =
        let h : nat_abs z ≤ 32 = order.size in
        rw reads (plain_sign z (order.plain refl).0, record { fits = omega arith })

    pub order_ready : Arrived t c (Body (nat_abs (rd z)) [] Nothing)
    order_ready = rw reads (order_read t start z c (ready_start t) (sym a ∙ e))

  -- no order: the error that the reader makes of its place
  pub order_refused : (old : List ℤ) (p : Place) (x : Result ℕ Refusal) → length old ≡ 1024 → r ≡ Err p → IsErrAnd x (λ y. y ≡ Text p)
      → ReadSays t old (figures_of x) old
  order_refused old p (Ok n) s e i = absurd i
  order_refused old p (Err y) s e i = rw i (refused (place_of p) s (order_bad t start p (ready_start t) (sym a ∙ e)))

-- no entries: the same
pub ends_short : (t : List ℕ) (old : List ℤ) (n : ℕ) (l : List ℤ) {r : Result Cursor Place} (p : Place) (x : Result ℕ Refusal) → length old ≡ 1024
    → Entered t n r l → r ≡ Err p → IsErrAnd x (λ y. y ≡ Text p) → ReadSays t old (figures_of x) old
ends_short t old n l {r} p (Ok m) s h e i = absurd i
ends_short t old n l {r} p (Err y) s h e i = rw i (refused (place_of p) s (subst (λ (q : Result Cursor Place). Entered t n q l) e h))

pub filled : (t : List ℕ) (n : ℕ) (l : List ℤ) {r : Result Cursor Place} {c : Cursor} → Entered t n r l → r ≡ Ok c → Filled t n c l
filled t n l {r} {c} h e = subst (λ (x : Result Cursor Place). Entered t n x l) e h

module _ {t : List ℕ} {n : ℕ} {c : Cursor} {l : List ℤ} (w : Filled t n c l) where
  pub ends_cells : n * n ≤ 1024
  ends_cells = body_cells w.ready

module _ {t : List ℕ} {n : ℕ} {c : Cursor} {l : List ℤ} (w : Filled t n c l) {old : List ℤ} (s : length old ≡ 1024) where
  pub ends_more : c.offset < length t → ReadSays t old (figures_of (Err (Text (refusal c Byte)))) old
  ends_more k = refused (place_of (refusal c Byte)) s (full_more t c n l w.ready w.size k)

  pub ends_whole : {new : List ℤ} → length t ≤ c.offset → new ≡ l ++ drop (n * n) old → ReadSays t old (figures_of (Ok n)) new
  ends_whole {new} k q = rw q (read n l s (full_end t c n l w.ready w.size k))
