-- What follows from where the cursor is ready: the order, one more entry, and the end of the entries.
use mathlib.Core.Path.{◌≡◌, refl, sym, ap, ◌∙◌, subst}
use mathlib.Core.Bool.{Bool}
use mathlib.Core.List.{List, [], ◌∷◌, ◌++◌, append-nil}
use Prim.Native.Nat.{ℕ, ◌*◌, ◌≤◌, ◌<◌}
use native.Mathlib.Omega.{arith}
use lib.IntN.{ℤ, nat_abs}
use lib.ListN.{length, drop, length-append}
use borrow.Author.Tests.{le-ltb}
use Rattle.std.specs.Prelude.{Ok, Err}
use Rattle.sheets.specs.declared.Reason.TheVariants.{Byte}
use Rattle.sheets.specs.declared.Place.{Place}
use Rattle.sheets.specs.declared.cursor.Cursor.{Cursor}
use Rattle.sheets.specs.declared.number.Seen.{Seen}
use Rattle.sheets.specs.declared.number.Seen.TheVariants.{Nothing}
use Rattle.sheets.specs.Sheet.{IsSheet}
use Rattle.sheets.specs.Answer.{NoSheet, place_of}
use Rattle.sheets.specs.Digits.{after_byte}
use Rattle.sheets.specs.Model.{refusal, scan, Sane, order_form, entry_form, State, Head, Body, Dead, in_body, step, run, Arrived}
use Rattle.sheets.proofs.Stages.States.{run_append, InBody}
use Rattle.sheets.proofs.Stages.Complete.{head_slot, body_slot}
use Rattle.sheets.proofs.Stages.Exact.{beginning, no_beginning, whole, run_in_body, head_open, body_open, no_sheet_byte}
use Rattle.sheets.proofs.Reading.Cursors.{sane_cursor}
use Rattle.sheets.proofs.Reading.Link.{number_found}

abbrev pub start : Cursor
start = record { line = 1; column = 1; offset = 0 }

pub ready_start : (t : List ℕ) → Arrived t start (Head Nothing)
ready_start t = record { before = []; rest = t; parts = refl; here = refl; state = refl }

module _ {t : List ℕ} {c : Cursor} {s : State} (h : Arrived t c s) where
  pub ready_sane : Sane c
  ready_sane = subst Sane (sym h.here) (sane_cursor h.before)

  pub ready_inside : c.offset ≤ length t
  ready_inside = rw (h.here, h.parts) (omega (arith, length-append h.before h.rest))

head_live : (s : Seen) → Head s ≡ Dead → ⊥
head_live s e = cc

body_live : (n : ℕ) (es : List ℤ) (s : Seen) → Body n es s ≡ Dead → ⊥
body_live n es s e = cc

module _ (t : List ℕ) (c : Cursor) where
  pub ready_body : (n : ℕ) (es : List ℤ) (s : Seen) → Arrived t c (Body n es s) → InBody n es s
  ready_body n es s h = run_in_body h.before n es s h.state

  pub order_read : (z : ℤ) (c' : Cursor) → Arrived t c (Head Nothing) → scan order_form Nothing c (drop c.offset t) ≡ Ok (z, c')
      → Arrived t c' (Body (nat_abs z) [] Nothing)
  order_read z c' h e = number_found head_slot head_live head_open t h e

  pub order_bad : (p : Place) → Arrived t c (Head Nothing) → scan order_form Nothing c (drop c.offset t) ≡ Err p → NoSheet t (place_of p)
  order_bad p h e = number_found head_slot head_live head_open t h e

  module _ (n : ℕ) (es : List ℤ) (h : Arrived t c (Body n es Nothing)) where
    pub entry_read : (z : ℤ) (c' : Cursor) → length es < n * n → scan (entry_form n (length es)) Nothing c (drop c.offset t) ≡ Ok (z, c')
        → Arrived t c' (Body n (es ++ (z ∷ [])) Nothing)
    entry_read z c' k e = number_found (body_slot n es k) (body_live n es) (λ u s r. body_open u n es s k r) t h e

    pub entry_bad : (p : Place) → length es < n * n → scan (entry_form n (length es)) Nothing c (drop c.offset t) ≡ Err p → NoSheet t (place_of p)
    entry_bad p k e = number_found (body_slot n es k) (body_live n es) (λ u s r. body_open u n es s k r) t h e

    full_dead : (b : ℕ) → length es ≡ n * n → step (Body n es Nothing) b ≡ Dead
    full_dead b k =
        ap (λ (x : Bool). in_body n es x (after_byte (entry_form n (length es)) Nothing b)) (le-ltb (length es) (n * n) (omega arith))

    more_at : (r : List ℕ) → h.rest ≡ r → length es ≡ n * n → c.offset < length t → NoSheet t (place_of (refusal c Byte))
    more_at [] e k l =
        absurd (omega (arith, ap length (h.parts ∙ ap (λ (x : List ℕ). h.before ++ x) e), length-append h.before [], ap (λ (x : Cursor). x.offset) h.here))
    more_at (b ∷ r) e k l =
        let u = h.before in
        let d : run (Head Nothing) (u ++ (b ∷ [])) ≡ Dead
        = run_append (Head Nothing) u (b ∷ []) ∙ ap (λ (s : State). step s b) h.state ∙ full_dead b k in
        let q : t ≡ u ++ b ∷ r = h.parts ∙ ap (λ (x : List ℕ). u ++ x) e in
        rw (q, h.here) (no_sheet_byte u b r (beginning u (λ (a : run (Head Nothing) u ≡ Dead). body_live n es Nothing (sym h.state ∙ a))) (no_beginning (u ++ (b ∷ [])) d))

    -- all entries read, and a byte more: no sheet
    pub full_more : length es ≡ n * n → c.offset < length t → NoSheet t (place_of (refusal c Byte))
    full_more k l = more_at h.rest refl k l

    whole_at : (r : List ℕ) → h.rest ≡ r → length es ≡ n * n → length t ≤ c.offset → IsSheet t n es
    whole_at [] e k l =
        let q : t ≡ h.before = h.parts ∙ ap (λ (x : List ℕ). h.before ++ x) e ∙ append-nil h.before in
        whole t n es (ap (run (Head Nothing)) q ∙ h.state) k
    whole_at (b ∷ r) e k l =
        absurd (omega (arith, ap length (h.parts ∙ ap (λ (x : List ℕ). h.before ++ x) e), length-append h.before (b ∷ r), ap (λ (x : Cursor). x.offset) h.here))

    -- all entries read, and the text at its end: a sheet
    pub full_end : length es ≡ n * n → length t ≤ c.offset → IsSheet t n es
    full_end k l = whole_at h.rest refl k l
