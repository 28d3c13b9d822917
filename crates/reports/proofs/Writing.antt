-- The lines of a report, written one after the other.
use mathlib.Core.Path.{◌≡◌, refl, sym, subst}
use mathlib.Core.Logic.{◌≢◌}
use mathlib.Core.List.{List, [], ◌++◌}
use Prim.Native.Nat.{ℕ, zero, suc, ◌*◌}
use native.Mathlib.Omega.{arith}
use lib.IntN.{ℤ}
use lib.ListN.{length}
use Rattle.verdict.specs.Verdict.{InverseGives}
use Rattle.verdict.specs.declared.Outcome.{Outcome}
use Rattle.sheets.specs.Sheet.{rows}
use Rattle.sheets.specs.Writing.{Put}
use Rattle.sheets.proofs.Bytes.Puts.{put_join}
use Rattle.reports.specs.Report.{after0, answer_line, certificate, IsCertificate}
use Rattle.reports.specs.Parts.{Puts}

pub after_other : (k : ℕ) (w : List ℕ) → k ≢ 0 → after0 k w ≡ []
after_other zero w f = absurd (f refl)
after_other (suc k) w f = refl

pub after_zero : (k : ℕ) (w : List ℕ) → k ≡ 0 → after0 k w ≡ w
after_zero zero w e = refl
after_zero (suc k) w e = absurd (omega arith)

-- the line and the rows
module _ {n : ℕ} {es L E : List ℤ} {o : Outcome} (size : length L ≡ n * n) (gives : InverseGives n es L o E) {old mid : List ℕ} {r : ℕ}
    (first : Put old 0 (answer_line n o) r mid) where
  puts : {new : List ℕ} {q : ℕ} → Put old 0 (certificate n o E) q new → Puts (IsCertificate n es) old q new
  puts h = record { text = certificate n o E; right = record { outcome = o; lent = L; left = E; size = size; gives = gives; text = refl }; put = h }

  pub line_and_rows : {new : List ℕ} {q : ℕ} → o.number ≡ 0 → Put mid r (rows n n E) q new → Puts (IsCertificate n es) old q new
  line_and_rows {new} {q} z h =
      puts (subst (λ (w : List ℕ). Put old 0 (answer_line n o ++ w) q new) (sym (after_zero o.number (rows n n E) z)) (put_join (answer_line n o) (rows n n E) first h))
