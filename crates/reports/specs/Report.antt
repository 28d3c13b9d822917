-- What the program prints for a text, line by line, and what the call `report` gives and leaves.
--   figures ks             the numbers ks as figures of a line
--   after0 k w             the text w where the number k is 0, and nothing after any other number
--   answer_line n o         the line of number, n, need and k, where the inverse call answers o
--   certificate n o E      this line, and after 0 the inverse E, n lines of n figures
--   IsCertificate n es R   R is the certificate of what the inverse call gives for the entries es, lent n² numbers
--   IsReport t R           R is the report of the text t: the line of 9, line, column and reason, or the certificate of a sheet
--   report_room             so many bytes have room for every report
--   ReportGives t old r new    what report gives and leaves of the lent output old: where it is shorter than that, 0 and the output as it was; else the report of
--                          t first in it, with its length, and the bytes after it as they were
use Rattle.std.specs.Prelude.{◌≡◌, List, [], ◌∷◌, ◌++◌, ℕ, zero, suc, ◌*◌, ◌≤◌, ◌<◌, ℤ, pos, length, drop}
use Rattle.verdict.specs.Verdict.{InverseGives}
use Rattle.verdict.specs.declared.Outcome.{Outcome}
use Rattle.sheets.specs.Sheet.{line, rows, IsSheet}
use Rattle.sheets.specs.Answer.{NoSheet}

abbrev pub figures : List ℕ → List ℤ
figures [] = []
figures (k ∷ ks) = pos k ∷ figures ks

abbrev pub after0 : ℕ → List ℕ → List ℕ
after0 zero w = w
after0 (suc k) w = []

abbrev pub answer_line : ℕ → Outcome → List ℕ
answer_line n o = line (figures (o.number ∷ n ∷ o.exponent ∷ o.lifts ∷ []))

abbrev pub certificate : ℕ → Outcome → List ℤ → List ℕ
certificate n o E = answer_line n o ++ after0 o.number (rows n n E)

pub record IsCertificate (n : ℕ) (es : List ℤ) (R : List ℕ) : Type 0 where
  pub outcome : Outcome
  pub lent : List ℤ
  pub left : List ℤ
  pub size : length lent ≡ n * n
  pub gives : InverseGives n es lent outcome left
  pub text : R ≡ certificate n outcome left

pub data IsReport (t : List ℕ) : List ℕ → Type 0 where
  no_sheet : (fs : List ℕ) → NoSheet t fs → IsReport t (line (figures (9 ∷ fs)))
  of_sheet : (n : ℕ) (es : List ℤ) (R : List ℕ) → IsSheet t n es → IsCertificate n es R → IsReport t R

abbrev pub report_room : ℕ
report_room = 14352

pub data ReportGives (t old : List ℕ) : ℕ → List ℕ → Type 0 where
  no_room : length old < report_room → ReportGives t old 0 old
  room : (R : List ℕ) → report_room ≤ length old → IsReport t R → ReportGives t old (length R) (R ++ drop (length R) old)
