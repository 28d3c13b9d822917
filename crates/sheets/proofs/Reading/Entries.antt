-- The loop that reads the entries.
use mathlib.Core.Path.{◌≡◌, sym, ap, ◌∙◌, subst}
use mathlib.Core.List.{List, [], ◌∷◌, ◌++◌}
use Prim.Native.Nat.{ℕ, ◌+◌, ◌*◌, ◌≤◌, ◌<◌}
use native.Mathlib.Numerals.{add-one}
use native.Mathlib.Omega.{arith}
use lib.IntN.{ℤ}
use lib.ListN.{length, take, drop, set, length-set}
use lib.Seq.{take-suc-set, length-take-le, take_all}
use Rattle.sheets.specs.declared.Place.{Place}
use Rattle.sheets.specs.declared.cursor.Cursor.{Cursor}
use Rattle.sheets.specs.declared.number.Form.{Form}
use Rattle.sheets.specs.declared.number.Seen.{Seen}
use Rattle.sheets.specs.declared.number.Seen.TheVariants.{Nothing}
use Rattle.numbers.specs.Limits.{IsEntry, Legal}
use Rattle.sheets.specs.Answer.{NoSheet, place_of}
use Rattle.std.specs.Prelude.{Result, Ok, Err, IsErrAnd}
use Rattle.sheets.specs.Model.{Found, scan, entry_form, Body, Arrived, Filled, Entered}
use Rattle.numbers.proofs.Machine.{rd, rd_ok}
use Rattle.tables.proofs.Buffers.Places.{square_small}
use Rattle.sheets.proofs.Reading.Scan.{small}
use Rattle.sheets.proofs.Stages.States.{InBody}
use Rattle.sheets.proofs.Reading.Turns.{ready_body, entry_read, entry_bad}

-- before the cursor c, p entries are read, and these begin the cells l
pub record Reading (t : List ℕ) (n : ℕ) (c : Cursor) (p : ℕ) (l : List ℤ) : Type 0 where
  pub ready : Arrived t c (Body n (take p l) Nothing)
  pub count : p ≤ n * n
  pub size : length l ≡ n * n

-- a table whose order is read has room
pub body_cells : {t : List ℕ} {c : Cursor} {n : ℕ} {es : List ℤ} {s : Seen} → Arrived t c (Body n es s) → n * n ≤ 1024
body_cells {t} {c} {n} {es} {s} h = square_small (ready_body t c n es s h).order.upto

legal_last : (xs : List ℤ) (z : ℤ) → Legal (xs ++ (z ∷ [])) → IsEntry z
legal_last [] z h = h.0
legal_last (x ∷ xs) z h = legal_last xs z h.1

module _ {t : List ℕ} {n : ℕ} {c : Cursor} {p : ℕ} {l : List ℤ} (h : Reading t n c p l) where
  so_far : InBody n (take p l) Nothing
  so_far = ready_body t c n (take p l) Nothing h.ready

  pub reading_order : 1 ≤ n
  reading_order = so_far.order.from

  pub reading_cells : n * n ≤ 1024
  reading_cells = body_cells h.ready

  -- all entries are read
  pub reading_done : length l ≤ p → Filled t n c l
  reading_done k =
      record { ready = subst (λ (x : List ℤ). Arrived t c (Body n x Nothing)) (take_all p l k) h.ready; size = h.size }

  module _ (k : p < length l) where
    -- so many are before it
    place : length (take p l) ≡ p
    place = length-take-le p l (omega arith)

    -- what is found at the cursor, by the form that the code made
    here : {f : Form} {r r' : Found} → f ≡ entry_form n p → r ≡ scan f Nothing c (drop c.offset t) → r ≡ r'
        → scan (entry_form n (length (take p l))) Nothing c (drop c.offset t) ≡ r'
    here a b e =
        ap (λ (i : ℕ). scan (entry_form n i) Nothing c (drop c.offset t)) place
        ∙ ap (λ (x : Form). scan x Nothing c (drop c.offset t)) (sym a) ∙ sym b ∙ e

    -- one entry more
    pub reading_next : {f : Form} {r : Found} {z : ℤ} {c' : Cursor} → f ≡ entry_form n p → r ≡ scan f Nothing c (drop c.offset t) → r ≡ Ok (z, c')
        → Reading t n c' (p + 1) (set l p (rd z))
    reading_next {f} {r} {z} {c'} a b e =
        let g = entry_read t c n (take p l) h.ready z c' (omega (arith, place, h.size)) (here a b e) in
        let w : rd z ≡ z = rd_ok z (small z (legal_last (take p l) z (ready_body t c' n (take p l ++ (z ∷ [])) Nothing g).legal)) in
        let q : take (p + 1) (set l p z) ≡ take p l ++ (z ∷ [])
        = ap (λ (i : ℕ). take i (set l p z)) (add-one p) ∙ take-suc-set l p z k in
        rw w (record {
          ready = subst (λ (x : List ℤ). Arrived t c' (Body n x Nothing)) (sym q) g;
          count = omega (arith, h.size);
          size = length-set l p z ∙ h.size;
        })

    -- none found
    reading_bad : {f : Form} {r : Found} {q : Place} → f ≡ entry_form n p → r ≡ scan f Nothing c (drop c.offset t) → r ≡ Err q → NoSheet t (place_of q)
    reading_bad {f} {r} {q} a b e = entry_bad t c n (take p l) h.ready q (omega (arith, place, h.size)) (here a b e)

    pub reading_stops : {f : Form} {r : Found} {q : Place} (l' : List ℤ) (e : Result Cursor Place) → f ≡ entry_form n p
        → r ≡ scan f Nothing c (drop c.offset t) → r ≡ Err q → IsErrAnd e (λ x. x ≡ q) → Entered t n e l'
    reading_stops l' (Ok d) a b w i = absurd i
    reading_stops l' (Err x) a b w i = rw i (reading_bad a b w)
