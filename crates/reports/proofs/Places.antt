-- A refusal lies within the first 9,220 bytes, for a beginning has at most 9,219: so line and column are at most 9,220.
use mathlib.Core.Path.{◌≡◌, refl}
use mathlib.Core.List.{List, [], ◌∷◌}
use Prim.Native.Nat.{ℕ, ◌≤◌}
use native.Mathlib.Omega.{arith}
use lib.ListN.{length, take}
use lib.Seq.{length-take-le}
use Rattle.sheets.specs.Place.{line_at, column_at}
use Rattle.sheets.specs.Answer.{NoSheet, byte, ended, place_of}
use Rattle.sheets.specs.declared.Place.{Place}
use Rattle.sheets.proofs.Cut.{beginning_most}
use Rattle.sheets.proofs.Reading.Cursors.{sane_cursor}

pub data Near : List ℕ → Type 0 where
  near : (l c r : ℕ) → l ≤ 9220 → c ≤ 9220 → r ≤ 2 → Near (l ∷ c ∷ r ∷ [])

near_at : (t : List ℕ) (k r : ℕ) → length (take k t) ≤ 9219 → r ≤ 2 → Near (line_at t k ∷ column_at t k ∷ r ∷ [])
near_at t k r h l =
    let s = sane_cursor (take k t) in
    near (line_at t k) (column_at t k) r (omega (arith, s.line)) (omega (arith, s.column)) l

pub refusal_near : {t fs : List ℕ} → NoSheet t fs → Near fs
refusal_near {t} (byte k l b d) = near_at t k 1 (beginning_most (take k t) b) (omega arith)
refusal_near {t} (ended b d) =
    near_at t (length t) 2 (omega (arith, length-take-le (length t) t (omega arith), beginning_most t b)) (omega arith)

pub place_near : {t : List ℕ} (p : Place) → NoSheet t (place_of p) → (p.line ≤ 9220) × (p.column ≤ 9220)
place_near p h = go p (refusal_near h) refl
  where
    go : {fs : List ℕ} (p : Place) → Near fs → fs ≡ place_of p → (p.line ≤ 9220) × (p.column ≤ 9220)
    go p (near l c r a b d) e =
        let x : l ≡ p.line = cc in
        let y : c ≡ p.column = cc in
        (omega arith, omega arith)
