-- The cursor after some bytes: one byte more, and its size.
use mathlib.Core.Path.{◌≡◌, refl, sym}
use mathlib.Core.Bool.{Bool, true, false, cond}
use mathlib.Core.List.{List, [], ◌∷◌, ◌++◌}
use Prim.Native.Nat.{ℕ, ◌+◌, ◌≤◌}
use native.Mathlib.Omega.{arith}
use lib.Dec.{eqb}
use lib.ListN.{length, length-append}
use Rattle.sheets.specs.declared.cursor.Cursor.{Cursor}
use Rattle.sheets.specs.Place.{line_after, column_after}
use Rattle.sheets.specs.Model.{moved, cursor_after, Sane}

line_snoc : (l : ℕ) (u : List ℕ) (b : ℕ) → line_after l (u ++ (b ∷ [])) ≡ cond (eqb b 10) (line_after l u + 1) (line_after l u)
line_snoc l [] b = refl
line_snoc l (x ∷ u) b = line_snoc (cond (eqb x 10) (l + 1) l) u b

column_snoc : (c : ℕ) (u : List ℕ) (b : ℕ) → column_after c (u ++ (b ∷ [])) ≡ cond (eqb b 10) 1 (column_after c u + 1)
column_snoc c [] b = refl
column_snoc c (x ∷ u) b = column_snoc (cond (eqb x 10) 1 (c + 1)) u b

pub cursor_moved : (u : List ℕ) (b : ℕ) → moved (cursor_after u) b ≡ cursor_after (u ++ (b ∷ []))
cursor_moved u b = λ i. record {
  line = sym (line_snoc 1 u b) i;
  column = sym (column_snoc 1 u b) i;
  offset = sym (length-append u (b ∷ [])) i;
}

-- one more at most, whatever the byte
line_one : (l : ℕ) (t : Bool) → cond t (l + 1) l ≤ l + 1
line_one l true = omega arith
line_one l false = omega arith

column_one : (c : ℕ) (t : Bool) → cond t 1 (c + 1) ≤ c + 1
column_one c true = omega arith
column_one c false = omega arith

line_most : (l : ℕ) (t : List ℕ) → line_after l t ≤ length t + l
line_most l [] = omega arith
line_most l (b ∷ t) = omega (arith, line_one l (eqb b 10), line_most (cond (eqb b 10) (l + 1) l) t)

column_most : (c : ℕ) (t : List ℕ) → column_after c t ≤ length t + c
column_most c [] = omega arith
column_most c (b ∷ t) = omega (arith, column_one c (eqb b 10), column_most (cond (eqb b 10) 1 (c + 1)) t)

pub sane_cursor : (t : List ℕ) → Sane (cursor_after t)
sane_cursor t = record { line = line_most 1 t; column = column_most 1 t }

pub sane_moved : (c : Cursor) (b : ℕ) → Sane c → Sane (moved c b)
sane_moved c b h = record {
  line = omega (arith, line_one c.line (eqb b 10), h.line);
  column = omega (arith, column_one c.column (eqb b 10), h.column);
}
