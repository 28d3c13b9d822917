-- A sheet's states: the text that each stands for is what was read.
use mathlib.Core.Path.{◌≡◌, refl, sym, ap, ap₂, ◌∙◌}
use mathlib.Core.Bool.{Bool, true, false}
use mathlib.Core.List.{List, [], ◌∷◌, ◌++◌, append_assoc, append-nil}
use Prim.Native.Nat.{ℕ, ◌+◌, ◌*◌, ◌≤◌, ◌<◌}
use native.Mathlib.Nat.{zero-add}
use native.Mathlib.Omega.{arith}
use lib.Dec.{ltb}
use lib.IntN.{ℤ}
use lib.ListN.{length, length-append}
use borrow.Author.Tests.{ltb-true}
use Rattle.numbers.specs.Limits.{IsOrder, Legal}
use Rattle.sheets.specs.declared.number.Seen.{Seen}
use Rattle.sheets.specs.declared.number.Seen.TheVariants.{Nothing}
use Rattle.std.specs.Prelude.{Option, Some, None}
use Rattle.sheets.specs.declared.number.Next.{Next}
use Rattle.sheets.specs.declared.number.Next.TheVariants.{Go, Value}
use Rattle.sheets.specs.Sheet.{decimal, figure}
use Rattle.sheets.specs.Digits.{after_byte, Allowed}
use Rattle.sheets.specs.Model.{closing, order_form, entry_form, State, Head, Body, Dead, in_head, in_body, step, run}
use Rattle.sheets.proofs.Text.Lines.{lines, lines_append}
use Rattle.sheets.proofs.Stages.Numerals.{seen_text, Fine, fine}

pub run_append : (s : State) (a b : List ℕ) → run s (a ++ b) ≡ run (run s a) b
run_append s [] b = refl
run_append s (x ∷ a) b = run_append (step s x) a b

pub run_dead : (t : List ℕ) → run Dead t ≡ Dead
run_dead [] = refl
run_dead (b ∷ t) = run_dead t

pub legal_append : (xs ys : List ℤ) → Legal xs → Legal ys → Legal (xs ++ ys)
legal_append [] ys p q = q
legal_append (x ∷ xs) ys p q = (p.0, legal_append xs ys p.1 q)

abbrev pub state_text : State → List ℕ
state_text (Head s) = seen_text s
state_text (Body n es s) = decimal n ++ 10 ∷ (lines n 0 es ++ seen_text s)
state_text Dead = []

pub record InBody (n : ℕ) (es : List ℤ) (s : Seen) : Type 0 where
  pub order : IsOrder n
  pub count : length es ≤ n * n
  pub legal : Legal es
  pub allowed : Allowed (entry_form n (length es)) s
  pub full : length es ≡ n * n → s ≡ Nothing

abbrev pub LegalState : State → Type 0
LegalState (Head s) = Allowed order_form s
LegalState (Body n es s) = InBody n es s
LegalState Dead = Unit {0}

-- s' is dead, or the bytes w lead from the text of s to that of s'
abbrev pub After : State → List ℕ → State → Type 0
After s w (Head s') = Allowed order_form s' × (state_text (Head s') ≡ state_text s ++ w)
After s w (Body n es s') = InBody n es s' × (state_text (Body n es s') ≡ state_text s ++ w)
After s w Dead = Unit {0}

step_head : (s : Seen) (b : ℕ) (r : Option Next) → Fine order_form s b r → After (Head s) (b ∷ []) (in_head r)
step_head s b (Some (Go s')) h = h
step_head s b (Some (Value z)) h =
    let w = h.2 in
    let p = w.plain refl in (
      record { order = record { from = p.1; upto = w.size }; count = omega arith; legal = tt; allowed = tt; full = λ e. refl },
      ap₂ (λ (x : List ℕ) (y : ℕ). x ++ (y ∷ [])) (sym (h.1 ∙ ap figure p.0)) (sym h.0),
    )
step_head s b None h = tt

step_body : (n : ℕ) (es : List ℤ) (s : Seen) (b : ℕ) (t : Bool) (r : Option Next) → InBody n es s → ltb (length es) (n * n) ≡ t
    → Fine (entry_form n (length es)) s b r → After (Body n es s) (b ∷ []) (in_body n es t r)
step_body n es s b false r l e h = tt
step_body n es s b true (Some (Go s')) l e h =
    let k : length es < n * n = ltb-true _ _ e in (
      record { order = l.order; count = l.count; legal = l.legal; allowed = h.0; full = λ q. absurd (omega arith) },
      simp (h.1, append_assoc),
    )
step_body n es s b true (Some (Value z)) l e h =
    let k : length es < n * n = ltb-true _ _ e in
    let j : length (es ++ (z ∷ [])) ≡ length es + 1 = length-append es (z ∷ []) in
    let q : b ≡ closing n (length es) = h.0 in
    let x : seen_text s ≡ figure z = h.1 in (
      record {
        order = l.order;
        count = omega arith;
        legal = legal_append es (z ∷ []) l.legal (h.2.size, tt);
        allowed = tt;
        full = λ y. refl;
      },
      simp (lines_append, zero-add, append-nil, append_assoc, x, q),
    )
step_body n es s b true None l e h = tt

step_after : (s : State) (b : ℕ) → LegalState s → After s (b ∷ []) (step s b)
step_after (Head s) b l = step_head s b (after_byte order_form s b) (fine order_form s b l)
step_after (Body n es s) b l =
    step_body n es s b (ltb (length es) (n * n)) (after_byte (entry_form n (length es)) s b) l refl
    (fine (entry_form n (length es)) s b l.allowed)
step_after Dead b l = tt

after_text : (s s₁ : State) (w t : List ℕ) (r : State) → state_text s₁ ≡ state_text s ++ w → After s₁ t r → After s (w ++ t) r
after_text s s₁ w t (Head s') e h = (h.0, h.1 ∙ ap (λ (x : List ℕ). x ++ t) e ∙ append_assoc (state_text s) w t)
after_text s s₁ w t (Body n es s') e h = (h.0, h.1 ∙ ap (λ (x : List ℕ). x ++ t) e ∙ append_assoc (state_text s) w t)
after_text s s₁ w t Dead e h = tt

run_on : (s : State) (w t : List ℕ) (s₁ : State) → After s w s₁ → (LegalState s₁ → After s₁ t (run s₁ t)) → After s (w ++ t) (run s₁ t)
run_on s w t (Head s') h k = after_text s (Head s') w t (run (Head s') t) h.1 (k h.0)
run_on s w t (Body n es s') h k = after_text s (Body n es s') w t (run (Body n es s') t) h.1 (k h.0)
run_on s w t Dead h k = rw (run_dead t) tt

-- the text of a state that is reached is what was read
pub run_after : (s : State) (t : List ℕ) → LegalState s → After s t (run s t)
run_after (Head s) [] l = (l, sym (append-nil (seen_text s)))
run_after (Body n es s) [] l = (l, sym (append-nil (state_text (Body n es s))))
run_after Dead [] l = tt
run_after s (b ∷ t) l = run_on s (b ∷ []) t (step s b) (step_after s b l) (run_after (step s b) t)
