-- A report by what the reader answers to the text, lent a table of 1,024 zeros.
--   blank           these zeros
--   Shows a E R     R is the report where the reader answers a and leaves E in the table
--   Reading t R     the reader's answer to t shows the report R
use mathlib.Core.Path.{◌≡◌, refl, sym, subst}
use mathlib.Core.List.{List, ◌∷◌, ◌++◌}
use Prim.Native.Nat.{ℕ, ◌*◌}
use lib.IntN.{ℤ, pos}
use lib.ListN.{length, take, drop, replicate, length-replicate}
use lib.Seq.{take_at}
use Rattle.sheets.specs.Sheet.{line}
use Rattle.sheets.specs.Place.{line_at, column_at}
use Rattle.sheets.specs.Answer.{NoSheet, byte, ended, ReadSays, read, refused, figures_of, place_of}
use Rattle.sheets.specs.declared.Place.{Place}
use Rattle.sheets.specs.declared.Reason.TheVariants.{Byte, End}
use Rattle.sheets.specs.declared.Refusal.{Refusal}
use Rattle.sheets.specs.declared.Refusal.TheVariants.{Length, Text}
use Rattle.std.specs.Prelude.{Result, Ok, Err}
use Rattle.sheets.proofs.Uses.{Means, read_means}
use Rattle.reports.specs.Report.{figures, IsCertificate, IsReport, no_sheet, of_sheet}

pub blank : List ℤ
blank = replicate 1024 (pos 0)

pub blank_size : length blank ≡ 1024
unfolding blank
blank_size = length-replicate 1024 (pos 0)

abbrev pub Shows : Result ℕ Refusal → List ℤ → List ℕ → Type 0
Shows (Ok n) E R = IsCertificate n (take (n * n) E) R
Shows (Err Length) E R = ⊥
Shows (Err (Text p)) E R = R ≡ line (figures (9 ∷ place_of p))

pub record Reading (t R : List ℕ) : Type 0 where
  pub answer : Result ℕ Refusal
  pub left : List ℤ
  pub says : ReadSays t blank (figures_of answer) left
  pub shows : Shows answer left R

-- a refusal's figures are a place's
at_place : (t R : List ℕ) (p : Place) → NoSheet t (place_of p) → R ≡ line (figures (9 ∷ place_of p)) → Reading t R
at_place t R p h e = record { answer = Err (Text p); left = blank; says = refused (place_of p) blank_size h; shows = e }

read_refused : (t fs : List ℕ) → NoSheet t fs → Reading t (line (figures (9 ∷ fs)))
read_refused t fs (byte k l b d) = at_place t _ (record { line = line_at t k; column = column_at t k; reason = Byte }) (byte k l b d) refl
read_refused t fs (ended b d) = at_place t _ (record { line = line_at t (length t); column = column_at t (length t); reason = End }) (ended b d) refl

pub reading : (t R : List ℕ) → IsReport t R → Reading t R
reading t R (no_sheet fs h) = read_refused t fs h
reading t R (of_sheet n es R' h c) = record {
  answer = Ok n;
  left = es ++ drop (n * n) blank;
  says = read n es blank_size h;
  shows = subst (λ (x : List ℤ). IsCertificate n x R) (sym (take_at es (drop (n * n) blank) (n * n) h.count)) c;
}

pub reported : (t R : List ℕ) → Reading t R → IsReport t R
reported t R r = go r.answer (read_means t blank r.left r.answer blank_size r.says) r.shows
  where
    go : (a : Result ℕ Refusal) → Means t a r.left → Shows a r.left R → IsReport t R
    go (Ok n) m s = of_sheet n (take (n * n) r.left) R m s
    go (Err Length) m s = absurd s
    go (Err (Text p)) m s = subst (IsReport t) (sym s) (no_sheet (place_of p) m)
