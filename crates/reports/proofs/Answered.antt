-- The cases of the reader's answer: what a caller may count on, and the report that is put.
use mathlib.Core.Path.{◌≡◌, subst}
use mathlib.Core.List.{List, ◌∷◌}
use Prim.Native.Nat.{ℕ, ◌*◌, ◌≤◌}
use lib.IntN.{ℤ}
use lib.ListN.{length, take}
use Rattle.numbers.specs.Limits.{IsOrder}
use Rattle.sheets.specs.Sheet.{line}
use Rattle.sheets.specs.Answer.{ReadSays, figures_of, place_of}
use Rattle.sheets.specs.Writing.{Put}
use Rattle.sheets.specs.declared.Place.{Place}
use Rattle.sheets.specs.declared.Refusal.{Refusal}
use Rattle.sheets.specs.declared.Refusal.TheVariants.{Text}
use Rattle.std.specs.Prelude.{Result, Ok, Err}
use Rattle.sheets.proofs.Uses.{Means, read_means}
use Rattle.reports.specs.Report.{figures, IsCertificate, IsReport, no_sheet, of_sheet}
use Rattle.reports.specs.Parts.{Puts}
use Rattle.reports.proofs.Places.{place_near}

module _ {t : List ℕ} {old new : List ℤ} (a : Result ℕ Refusal) (size : length old ≡ 1024) (says : ReadSays t old (figures_of a) new) where
  means : {b : Result ℕ Refusal} → a ≡ b → Means t b new
  means e = subst (λ (x : Result ℕ Refusal). Means t x new) e (read_means t old new a size says)

  pub sheet_order : {n : ℕ} → a ≡ Ok n → IsOrder n
  sheet_order e = (means e).order

  pub refused_near : {p : Place} → a ≡ Err (Text p) → (p.line ≤ 9220) × (p.column ≤ 9220)
  refused_near {p} e = place_near p (means e)

  module _ {before after : List ℕ} {r : ℕ} where
    pub sheet_puts : {n : ℕ} → a ≡ Ok n → Puts (IsCertificate n (take (n * n) new)) before r after → Puts (IsReport t) before r after
    sheet_puts {n} e h = record { text = h.text; right = of_sheet n (take (n * n) new) h.text (means e) h.right; put = h.put }

    pub refused_puts : {p : Place} → a ≡ Err (Text p) → Put before 0 (line (figures (9 ∷ place_of p))) r after → Puts (IsReport t) before r after
    refused_puts {p} e h = record { text = line (figures (9 ∷ place_of p)); right = no_sheet (place_of p) (means e); put = h }
