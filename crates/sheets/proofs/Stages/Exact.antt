-- The states tell sheets, beginnings and other texts apart, and so where a text stops being a beginning.
use mathlib.Core.Path.{◌≡◌, refl, sym, ap, ◌∙◌, subst}
use mathlib.Core.List.{List, [], ◌∷◌, ◌++◌, append-nil}
use Prim.Native.Nat.{ℕ, suc, ◌*◌, ◌<◌}
use native.Mathlib.Numerals.{add-one}
use native.Mathlib.Omega.{arith}
use lib.IntN.{ℤ}
use lib.ListN.{length, take, length-append}
use lib.Seq.{take-append_seam, take-append-add, take-length}
use Rattle.sheets.specs.declared.Reason.TheVariants.{Byte, End}
use Rattle.sheets.specs.declared.number.Seen.{Seen}
use Rattle.sheets.specs.declared.number.Seen.TheVariants.{Nothing}
use Rattle.sheets.specs.Sheet.{decimal, IsSheet, IsBeginning}
use Rattle.sheets.specs.Answer.{NoSheet, byte, ended, place_of}
use Rattle.sheets.specs.Model.{refusal, cursor_after, State, Head, Body, Dead, run}
use Rattle.sheets.proofs.Stages.States.{run_append, run_dead, InBody, After, run_after}
use Rattle.sheets.proofs.Stages.Begins.{begins}
use Rattle.sheets.proofs.Text.Lines.{lines, is_sheet}
use Rattle.sheets.proofs.Stages.Complete.{complete}

alive : (t : List ℕ) (s : State) → After (Head Nothing) t s → (s ≡ Dead → ⊥) → IsBeginning t
alive t (Head s) h d = subst IsBeginning h.1 (begins (Head s) h.0 d)
alive t (Body n es s) h d = subst IsBeginning h.1 (begins (Body n es s) h.0 d)
alive t Dead h d = absurd (d refl)

-- a text that does not lead to the dead state is a beginning, and one that does is none
pub beginning : (t : List ℕ) → (run (Head Nothing) t ≡ Dead → ⊥) → IsBeginning t
beginning t d = alive t (run (Head Nothing) t) (run_after (Head Nothing) t tt) d

pub no_beginning : (t : List ℕ) → run (Head Nothing) t ≡ Dead → ¬ IsBeginning t
no_beginning t e b =
    let dead : Dead ≡ Body b.order b.entries Nothing
    = sym (run_append (Head Nothing) t b.rest ∙ ap (λ (s : State). run s b.rest) e ∙ run_dead b.rest)
    ∙ complete (t ++ b.rest) b.order b.entries b.whole in
    cc

-- a text that leads to all the entries is a sheet
pub whole : (t : List ℕ) (n : ℕ) (es : List ℤ) → run (Head Nothing) t ≡ Body n es Nothing → length es ≡ n * n → IsSheet t n es
whole t n es e k =
    let h = subst (After (Head Nothing) t) e (run_after (Head Nothing) t tt) in
    is_sheet n es k t h.0.order h.0.legal (sym h.1 ∙ ap (λ (x : List ℕ). decimal n ++ 10 ∷ x) (append-nil (lines n 0 es)))

-- the order and the entries that a text leads to
pub run_in_body : (t : List ℕ) (n : ℕ) (es : List ℤ) (s : Seen) → run (Head Nothing) t ≡ Body n es s → InBody n es s
run_in_body t n es s e = (subst (After (Head Nothing) t) e (run_after (Head Nothing) t tt)).0

same_order : {n n' : ℕ} {es es' : List ℤ} {s s' : Seen} → Body n es s ≡ Body n' es' s' → n ≡ n'
same_order {n} {n'} {es} {es'} {s} {s'} e = cc

same_entries : {n n' : ℕ} {es es' : List ℤ} {s s' : Seen} → Body n es s ≡ Body n' es' s' → es ≡ es'
same_entries {n} {n'} {es} {es'} {s} {s'} e = cc

pub order_unique : (t : List ℕ) (n n' : ℕ) (es es' : List ℤ) → IsSheet t n es → IsSheet t n' es' → n ≡ n'
order_unique t n n' es es' p q = same_order (sym (complete t n es p) ∙ complete t n' es' q)

pub entries_unique : (t : List ℕ) (n n' : ℕ) (es es' : List ℤ) → IsSheet t n es → IsSheet t n' es' → es ≡ es'
entries_unique t n n' es es' p q = same_entries (sym (complete t n es p) ∙ complete t n' es' q)

pub head_open : (t : List ℕ) (s : Seen) → run (Head Nothing) t ≡ Head s → (n : ℕ) (es : List ℤ) → ¬ IsSheet t n es
head_open t s e n es h = let w : Head s ≡ Body n es Nothing = sym e ∙ complete t n es h in cc

pub body_open : (t : List ℕ) (n : ℕ) (es : List ℤ) (s : Seen) → length es < n * n → run (Head Nothing) t ≡ Body n es s → (n' : ℕ) (es' : List ℤ) → ¬ IsSheet t n' es'
body_open t n es s k e n' es' h =
    let p = sym e ∙ complete t n' es' h in
    let a : n ≡ n' = same_order p in
    let b : es ≡ es' = same_entries p in
    let l : length es ≡ n * n = ap length b ∙ h.count ∙ ap (λ (x : ℕ). x * x) (sym a) in
    omega arith

-- where a text stops being a beginning
pub no_sheet_byte : (u : List ℕ) (b : ℕ) (rest : List ℕ) → IsBeginning u → ¬ IsBeginning (u ++ (b ∷ [])) → NoSheet (u ++ b ∷ rest) (place_of (refusal (cursor_after u) Byte))
no_sheet_byte u b rest p q =
    let t = u ++ b ∷ rest in
    let a : take (length u) t ≡ u = take-append_seam u (b ∷ rest) in
    let e : take (suc (length u)) t ≡ u ++ (b ∷ []) = ap (λ (k : ℕ). take k t) (sym (add-one (length u))) ∙ take-append-add u (b ∷ rest) 1 in
    let k : length u < length t = omega (arith, length-append u (b ∷ rest)) in
    subst (NoSheet t) (ap (λ (x : List ℕ). place_of (refusal (cursor_after x) Byte)) a)
    (byte (length u) k (subst IsBeginning (sym a) p) (λ h. q (subst IsBeginning e h)))

pub no_sheet_end : (t : List ℕ) → IsBeginning t → ((n : ℕ) (es : List ℤ) → ¬ IsSheet t n es) → NoSheet t (place_of (refusal (cursor_after t) End))
no_sheet_end t p q = subst (NoSheet t) (ap (λ (x : List ℕ). place_of (refusal (cursor_after x) End)) (take-length t)) (ended p q)
