-- What one call of `number` finds: the next state of the sheet, or the place where the text stops being the beginning of one.
use mathlib.Core.Path.{◌≡◌, refl, sym, ap, ap₂, ◌∙◌, subst}
use mathlib.Core.List.{List, [], ◌∷◌, ◌++◌, append_assoc, append-nil}
use Prim.Native.Nat.{ℕ}
use lib.IntN.{ℤ}
use lib.ListN.{drop}
use lib.Seq.{drop-append_seam}
use Rattle.sheets.specs.declared.Reason.TheVariants.{End}
use Rattle.sheets.specs.declared.cursor.Cursor.{Cursor}
use Rattle.sheets.specs.declared.number.Form.{Form}
use Rattle.sheets.specs.declared.number.Seen.{Seen}
use Rattle.sheets.specs.declared.number.Seen.TheVariants.{Nothing}
use Rattle.sheets.specs.declared.number.Next.{Next}
use Rattle.sheets.specs.declared.number.Next.TheVariants.{Go, Value}
use Rattle.sheets.specs.Sheet.{IsSheet}
use Rattle.sheets.specs.Answer.{NoSheet, place_of}
use Rattle.sheets.specs.Digits.{after_byte}
use Rattle.std.specs.Prelude.{Option, Some, None, Ok, Err}
use Rattle.sheets.specs.Model.{Found, refusal, moved, ahead, scan, cursor_after, State, Head, Dead, step, run, Arrived}
use Rattle.sheets.proofs.Reading.Cursors.{cursor_moved}
use Rattle.sheets.proofs.Stages.States.{run_append}
use Rattle.sheets.proofs.Stages.Complete.{Slot}
use Rattle.sheets.proofs.Stages.Exact.{beginning, no_beginning, no_sheet_byte, no_sheet_end}

module _ {E : Seen → State} {f : Form} {out : Option Next → State} (slot : Slot E f out) (live : (s : Seen) → E s ≡ Dead → ⊥)
    (short : (t : List ℕ) (s : Seen) → run (Head Nothing) t ≡ E s → (n : ℕ) (es : List ℤ) → ¬ IsSheet t n es) (t : List ℕ) where
  abbrev Linked : Found → Type 0
  Linked (Ok v) = Arrived t v.1 (out (Some (Value v.0)))
  Linked (Err p) = NoSheet t (place_of p)

  -- after the bytes u, s has been seen of the number, and l follows
  linked : (s : Seen) (u l : List ℕ) → t ≡ u ++ l → run (Head Nothing) u ≡ E s → Linked (scan f s (cursor_after u) l)
  linked s u [] p e =
      let q : t ≡ u = p ∙ append-nil u in
      let r : run (Head Nothing) t ≡ E s = ap (run (Head Nothing)) q ∙ e in
      subst (λ (x : List ℕ). NoSheet t (place_of (refusal (cursor_after x) End))) q
      (no_sheet_end t (beginning t (λ (d : run (Head Nothing) t ≡ Dead). live s (sym r ∙ d))) (short t s r))
  linked s u (b ∷ l) p e = at (after_byte f s b) refl (λ s'. linked s' (u ++ (b ∷ [])) l more)
    where
      more : t ≡ (u ++ (b ∷ [])) ++ l
      more = p ∙ sym (append_assoc u (b ∷ []) l)

      leads : (r : Option Next) → after_byte f s b ≡ r → run (Head Nothing) (u ++ (b ∷ [])) ≡ out r
      leads r a = run_append (Head Nothing) u (b ∷ []) ∙ ap (λ (x : State). step x b) e ∙ slot.steps s b ∙ ap out a

      at : (r : Option Next) → after_byte f s b ≡ r
          → ((s' : Seen) → run (Head Nothing) (u ++ (b ∷ [])) ≡ E s' → Linked (scan f s' (cursor_after (u ++ (b ∷ []))) l))
          → Linked (ahead (cursor_after u) b (λ s'. scan f s' (moved (cursor_after u) b) l) r)
      at (Some (Go s')) a next = rw (cursor_moved u b) (next s' (leads (Some (Go s')) a ∙ slot.go s'))
      at (Some (Value z)) a next = record { before = u ++ (b ∷ []); rest = l; parts = more; here = cursor_moved u b; state = leads (Some (Value z)) a }
      at None a next =
          rw p (no_sheet_byte u b l (beginning u (λ (d : run (Head Nothing) u ≡ Dead). live s (sym e ∙ d))) (no_beginning (u ++ (b ∷ [])) (leads None a ∙ slot.stop)))

  pub number_found : {c : Cursor} {r : Found} → Arrived t c (E Nothing) → scan f Nothing c (drop c.offset t) ≡ r → Linked r
  number_found {c} {r} h e =
      let d : drop c.offset t ≡ h.rest
      = ap₂ (λ (x : Cursor) (y : List ℕ). drop x.offset y) h.here h.parts ∙ drop-append_seam h.before h.rest in
      subst Linked (ap₂ (scan f Nothing) (sym h.here) (sym d) ∙ e) (linked Nothing h.before h.rest h.parts h.state)
