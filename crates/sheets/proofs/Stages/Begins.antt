-- No state is a dead end: the text of every state is the beginning of a sheet.
use mathlib.Core.Path.{◌≡◌, refl, sym, ap, ◌∙◌}
use mathlib.Core.Bool.{Bool, true, false}
use mathlib.Core.List.{List, [], ◌∷◌, ◌++◌, append_assoc, append-nil}
use Prim.Native.Nat.{ℕ, zero, suc, ◌*◌, ◌-◌, ◌≤◌, ◌<◌}
use native.Mathlib.Nat.{zero-add}
use native.Mathlib.Omega.{arith}
use lib.Dec.{ltb}
use lib.IntN.{ℤ, pos, negsuc}
use lib.ListN.{length, length-append, replicate, length-replicate}
use borrow.Author.Tests.{ltb-true, ltb-false}
use Rattle.numbers.specs.Limits.{IsOrder, IsEntry, Legal}
use Rattle.sheets.specs.declared.number.Seen.{Seen}
use Rattle.sheets.specs.declared.number.Seen.TheVariants.{Nothing, Minus, Digits}
use Rattle.sheets.specs.Sheet.{decimal, figure, IsBeginning}
use Rattle.sheets.specs.Digits.{Allowed}
use Rattle.sheets.specs.Model.{closing, order_form, entry_form, State, Head, Body, Dead}
use Rattle.sheets.proofs.Text.Lines.{lines, lines_append, is_sheet}
use Rattle.sheets.proofs.Stages.Numerals.{seen_text}
use Rattle.sheets.proofs.Stages.States.{legal_append, state_text, InBody, LegalState}

abbrev zeros : ℕ → List ℤ
zeros k = replicate k (pos 0)

legal_zeros : (k : ℕ) → Legal (zeros k)
legal_zeros zero = tt
legal_zeros (suc k) = (omega arith, legal_zeros k)

-- an entry begun can be ended
record Entry (s : Seen) : Type 0 where
  value : ℤ
  legal : IsEntry value
  rest : List ℕ
  text : seen_text s ++ rest ≡ figure value

end_less : (m : ℕ) → 1 ≤ m → m ≤ 1048576 → Entry (Digits true m)
end_less zero p k = absurd (omega arith)
end_less (suc m) p k = record { value = negsuc m; legal = k; rest = []; text = append-nil (45 ∷ decimal (suc m)) }

end_entry : (n i : ℕ) (s : Seen) → Allowed (entry_form n i) s → Entry s
end_entry n i Nothing l = record { value = pos 0; legal = omega arith; rest = decimal 0; text = refl }
end_entry n i Minus l = record { value = negsuc 0; legal = omega arith; rest = decimal 1; text = refl }
end_entry n i (Digits false m) l = record { value = pos m; legal = l.0; rest = []; text = append-nil (decimal m) }
end_entry n i (Digits true m) l = end_less m l.1 l.2

-- some entries to come: the one begun, and zeros
body_open : (n : ℕ) (es : List ℤ) (s : Seen) → InBody n es s → length es < n * n → IsBeginning (state_text (Body n es s))
body_open n es s l k =
    let c = end_entry n (length es) s l.allowed in
    let z = c.value in
    let left = n * n - length es - 1 in
    let all = es ++ (z ∷ zeros left) in
    let j : length all ≡ n * n = length-append es (z ∷ zeros left) ∙ omega (arith, length-replicate left (pos 0)) in
    let y : seen_text s ++ c.rest ≡ figure z = c.text in
    record {
      rest = c.rest ++ closing n (length es) ∷ lines n (suc (length es)) (zeros left);
      order = n;
      entries = all;
      whole = is_sheet n all j _ l.order (legal_append es (z ∷ zeros left) l.legal (c.legal, legal_zeros left)) (simp (lines_append, zero-add, append_assoc, sym y));
    }

body_begins : (n : ℕ) (es : List ℤ) (s : Seen) (t : Bool) → InBody n es s → ltb (length es) (n * n) ≡ t → IsBeginning (state_text (Body n es s))
body_begins n es s true l e = body_open n es s l (ltb-true _ _ e)
body_begins n es s false l e =
    let k : length es ≡ n * n = omega (arith, ltb-false (length es) (n * n) e, l.count) in
    record { rest = []; order = n; entries = es; whole = is_sheet n es k _ l.order l.legal (simp (l.full k, append-nil)) }

-- an order begun can be ended, and a table of zeros follows
head_with : (s : Seen) (m : ℕ) (r : List ℕ) → IsOrder m → seen_text s ++ r ≡ decimal m → IsBeginning (seen_text s)
head_with s m r o e =
    let after : List ℕ = 10 ∷ lines m 0 (zeros (m * m)) in
    record {
      rest = r ++ after;
      order = m;
      entries = zeros (m * m);
      whole = is_sheet m (zeros (m * m)) (length-replicate (m * m) (pos 0)) _ o (legal_zeros (m * m))
          (sym (append_assoc (seen_text s) r after) ∙ ap (λ (x : List ℕ). x ++ after) e);
    }

head_begins : (s : Seen) → Allowed order_form s → IsBeginning (seen_text s)
head_begins Nothing l = head_with Nothing 1 (decimal 1) (record { from = omega arith; upto = omega arith }) refl
head_begins Minus l = cc
head_begins (Digits false zero) l = let e : false ≡ true = l.1 refl in cc
head_begins (Digits false (suc m)) l = head_with (Digits false (suc m)) (suc m) [] (record { from = omega arith; upto = l.0 }) (append-nil (decimal (suc m)))
head_begins (Digits true m) l = cc

-- every legal state but the dead one is the beginning of a sheet
pub begins : (s : State) → LegalState s → (s ≡ Dead → ⊥) → IsBeginning (state_text s)
begins (Head s) l d = head_begins s l
begins (Body n es s) l d = body_begins n es s (ltb (length es) (n * n)) l refl
begins Dead l d = absurd (d refl)
