-- One report of each text, whatever the lent numbers were; and so one content of the buffer and one count.
use mathlib.Core.Path.{◌≡◌, refl, sym, ap, ap₂, ◌∙◌, subst}
use mathlib.Core.Logic.{◌≢◌}
use mathlib.Core.List.{List, ◌++◌}
use Prim.Native.Nat.{ℕ}
use native.Mathlib.Decide.{ℕ_discrete}
use native.Mathlib.Omega.{arith}
use lib.IntN.{ℤ}
use lib.ListN.{length, drop}
use Rattle.numbers.specs.Refusals.{Gives}
use Rattle.verdict.specs.Verdict.{inverse_refusals, InverseGives}
use Rattle.verdict.specs.declared.Outcome.{Outcome}
use Rattle.verdict.proofs.Unique.{inverse_call_unique}
use Rattle.sheets.specs.Sheet.{rows}
use Rattle.sheets.specs.declared.Refusal.{Refusal}
use Rattle.sheets.specs.declared.Refusal.TheVariants.{Length, Text}
use Rattle.std.specs.Prelude.{Result, Ok, Err}
use Rattle.sheets.proofs.Unique.{read_unique}
use Rattle.reports.specs.Report.{answer_line, certificate, IsCertificate, IsReport, ReportGives, no_room, room}
use Rattle.reports.proofs.Writing.{after_other}
use Rattle.reports.proofs.Reading.{blank, Shows, reading}

-- the inverse call's number depends on the lent numbers by their count alone
module _ {n : ℕ} {es L E : List ℤ} {o : Outcome} (K : List ℤ) (same : length L ≡ length K) (g : InverseGives n es L o E) where
  number_same : Gives (inverse_refusals n es K) o.number
  number_same = rw same at g.number

  lent_done : o.number ≡ 0 → InverseGives n es K o E
  lent_done z = record { number = number_same; values = g.values; kept = λ f. absurd (f z); written = g.written }

  lent_kept : o.number ≢ 0 → InverseGives n es K o K
  lent_kept f = record { number = number_same; values = g.values; kept = λ h. refl; written = λ z. absurd (f z) }

-- no rows after another number
certificate_other : (n : ℕ) (o : Outcome) (E F : List ℤ) → o.number ≢ 0 → certificate n o E ≡ certificate n o F
certificate_other n o E F f =
    ap (λ (w : List ℕ). answer_line n o ++ w) (after_other o.number (rows n n E) f ∙ sym (after_other o.number (rows n n F) f))

pub certificate_unique : {n : ℕ} {es : List ℤ} {R R' : List ℕ} → IsCertificate n es R → IsCertificate n es R' → R ≡ R'
certificate_unique {n} {es} c d = c.text ∙ go (ℕ_discrete d.outcome.number 0) ∙ sym d.text
  where
    same : length d.lent ≡ length c.lent
    same = d.size ∙ sym c.size

    go : Dec (d.outcome.number ≡ 0) → certificate n c.outcome c.left ≡ certificate n d.outcome d.left
    go (yes z) = let u = inverse_call_unique c.gives (lent_done c.lent same d.gives z) in ap₂ (certificate n) u.0 u.1
    go (no f) =
        let u = inverse_call_unique c.gives (lent_kept c.lent same d.gives f) in
        ap₂ (certificate n) u.0 refl ∙ certificate_other n d.outcome c.left d.left f

shows_unique : (a : Result ℕ Refusal) (E : List ℤ) (R R' : List ℕ) → Shows a E R → Shows a E R' → R ≡ R'
shows_unique (Ok n) E R R' r s = certificate_unique r s
shows_unique (Err Length) E R R' r s = absurd r
shows_unique (Err (Text p)) E R R' r s = r ∙ sym s

pub report_unique : {t R R' : List ℕ} → IsReport t R → IsReport t R' → R ≡ R'
report_unique {t} {R} {R'} h k =
    let r = reading t R h in
    let s = reading t R' k in
    let u = read_unique t blank s.left r.left s.answer r.answer s.says r.says in
    shows_unique r.answer r.left R R' r.shows
    (subst (λ (a : Result ℕ Refusal). Shows a r.left R') u.0 (subst (λ (E : List ℤ). Shows s.answer E R') u.1 s.shows))

pub report_call_unique : {t old new new' : List ℕ} {r r' : ℕ} → ReportGives t old r new → ReportGives t old r' new' → (r ≡ r') × (new ≡ new')
report_call_unique (no_room l) (no_room m) = (refl, refl)
report_call_unique (no_room l) (room R m h) = absurd (omega arith)
report_call_unique (room R l h) (no_room m) = absurd (omega arith)
report_call_unique {t} {old} (room R l h) (room R' m k) =
    let e = report_unique h k in (ap length e, ap (λ (w : List ℕ). w ++ drop (length w) old) e)
