-- Document 01's 3 by 3 table: the report of its sheet, computed from the definitions.
use mathlib.Core.Path.{◌≡◌, refl, ap₂, subst, ◌∙◌}
use mathlib.Core.List.{List, [], ◌∷◌}
use Prim.Native.Nat.{ℕ, ◌*◌}
use Prim.Native.Char.{code}
use Prim.Native.String.{String, [] as none, ◌∷◌ as ◌then◌}
use lib.IntN.{ℤ, pos}
use lib.ListN.{drop}
use lib.Seq.{take_at}
use Rattle.numbers.specs.Limits.{Lawful}
use Rattle.tables.proofs.Checking.Lawful.{lawful_sound}
use Rattle.verdict.specs.Verdict.{answer}
use Rattle.verdict.specs.Starred.{minus, thin}
use Rattle.verdict.proofs.Tight.{inverse_of_thin}
use Rattle.sheets.specs.Sheet.{decimal, sheet}
use Rattle.sheets.specs.declared.Refusal.{Refusal}
use Rattle.std.specs.Prelude.{Result, Ok}
use Rattle.sheets.proofs.RoundTrip.{read_back}
use Rattle.reports.specs.Report.{certificate, IsCertificate, IsReport}
use Rattle.reports.proofs.Reading.{blank, blank_size, Shows, reading}

-- the report of a lawful table's sheet is its certificate
pub sheet_certified : (n : ℕ) (es : List ℤ) (R : List ℕ) → Lawful n es → IsReport (sheet n es) R → IsCertificate n es R
sheet_certified n es R law h =
    let r = reading (sheet n es) R h in
    let u = read_back n es blank r.left r.answer law.order law.size law.legal blank_size r.says in
    subst (λ (x : List ℤ). IsCertificate n x R) (take_at es (drop (n * n) blank) (n * n) law.size)
    (subst (λ (E : List ℤ). Shows (Ok n) E R) u.1 (subst (λ (a : Result ℕ Refusal). Shows a r.left R) u.0 r.shows))

abbrev bytes : String → List ℕ
bytes none = []
bytes (c then s) = code c ∷ bytes s

thin_text : bytes "3\n1 262144 0\n0 1 524288\n0 0 1\n" ≡ sheet 3 thin
unfolding decimal
thin_text = refl

thin_lines : certificate 3 (answer 0 25 1) (pos 1 ∷ minus 262144 ∷ pos 137438953472 ∷ pos 0 ∷ pos 1 ∷ minus 524288 ∷ pos 0 ∷ pos 0 ∷ pos 1 ∷ [])
    ≡ bytes "0 3 25 1\n1 -262144 137438953472\n0 1 -524288\n0 0 1\n"
unfolding decimal
thin_lines = refl

pub report_of_thin : (R : List ℕ) → IsReport (bytes "3\n1 262144 0\n0 1 524288\n0 0 1\n") R → R ≡ bytes "0 3 25 1\n1 -262144 137438953472\n0 1 -524288\n0 0 1\n"
report_of_thin R h =
    let c = sheet_certified 3 thin R (lawful_sound 3 thin tt) (subst (λ (t : List ℕ). IsReport t R) thin_text h) in
    let u = inverse_of_thin c.size c.gives in
    c.text ∙ ap₂ (certificate 3) u.0 u.1 ∙ thin_lines
