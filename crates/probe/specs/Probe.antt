-- What the exports for tests show of the public calls.
--   Figures a b c d old new      a lent buffer of four numbers holds the figures a, b, c, d; any other is as it was
--   Shows view old r new         r is the count of the view's numbers, and they stand at the front of the buffer where they have room
--   ShowsVerdict, ShowsInverse   the figures of the answer: its number, exponent and lifts, and 0
--   ShowsRow, ShowsBlock         the numbers of the view
--   ShowsRead                    the figures of the answer, and zeros after them (padded)
use Rattle.std.specs.Prelude.{◌≡◌, ◌≢◌, List, [], ◌∷◌, ◌++◌, ℕ, ◌≤◌, ◌<◌, ℤ, length, take}
use Rattle.std.specs.Borrow.{Bor}
use Rattle.tables.specs.Buffer.{Copied}
use Rattle.tables.specs.Views.{RowGives}
use Rattle.lifting.specs.Views.{BlockGives}
use Rattle.sheets.specs.Answer.{ReadSays}
use Rattle.verdict.specs.Verdict.{VerdictGives, InverseGives}
use Rattle.verdict.specs.declared.Outcome.{Outcome}

pub record Figures (a b c d : ℕ) (old new : List ℕ) : Type 0 where
  pub shown : length old ≡ 4 → new ≡ a ∷ b ∷ c ∷ d ∷ []
  pub kept : length old ≢ 4 → new ≡ old

pub record Shows (view old : List ℤ) (r : ℕ) (new : List ℤ) : Type 0 where
  pub count : r ≡ length view
  pub copied : r ≤ length old → Copied r view old new
  pub kept : length old < r → new ≡ old

pub record ShowsVerdict (n : ℕ) (A : List ℤ) (old new : List ℕ) : Type 0 where
  pub outcome : Outcome
  pub gives : VerdictGives n A outcome
  pub figures : Figures outcome.number outcome.exponent outcome.lifts 0 old new

pub record ShowsInverse (n : ℕ) (A L E : List ℤ) (old new : List ℕ) : Type 0 where
  pub outcome : Outcome
  pub gives : InverseGives n A L outcome E
  pub figures : Figures outcome.number outcome.exponent outcome.lifts 0 old new

pub record ShowsRow (n : ℕ) (t : Bor (List ℤ)) (i : ℕ) (old : List ℤ) (r : ℕ) (new : List ℤ) : Type 0 where
  pub view : Bor (List ℤ)
  pub gives : RowGives n t i view
  pub shows : Shows view.now old r new

pub record ShowsBlock (n s : ℕ) (t : Bor (List ℤ)) (j : ℕ) (old : List ℤ) (r : ℕ) (new : List ℤ) : Type 0 where
  pub view : Bor (List ℤ)
  pub gives : BlockGives n s t j view
  pub shows : Shows view.now old r new

abbrev pub padded : List ℕ → List ℕ
padded fs = take 4 (fs ++ 0 ∷ 0 ∷ 0 ∷ [])

pub record ShowsRead (t : List ℕ) (L E : List ℤ) (old new : List ℕ) : Type 0 where
  pub figures : List ℕ
  pub says : ReadSays t L figures E
  pub shown : length old ≡ 4 → new ≡ padded figures
  pub kept : length old ≢ 4 → new ≡ old
