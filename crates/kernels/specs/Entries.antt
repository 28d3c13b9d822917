-- The entries of the first columns of a block, filled or tested by a closure, row by row.
--   Reached n o i j old new    new is old, but for entries of block o other than (i, j)
--   ToFill g f n w o old       the first w columns of block o are to be filled: f may be called for each entry of them, at a buffer that has reached it
--   Gave g f n o old i j v     v is what f gives for entry (i, j) at such a buffer
--   Filled n w R o old new     each entry of the first w columns of block o has R, and every other block is as it was
--   ToTest n w o L             the first w columns of block o are to be tested
--   Passed g f n w o L         f says true of each entry of them
--   Failed g f n w o L         f says false of one of them
use Rattle.std.specs.Prelude.{◌≡◌, ◌≢◌, Bool, true, false, List, ℕ, ◌≤◌, ◌<◌, ℤ, length}
use Rattle.std.specs.Borrow.{Bor}
use Rattle.std.specs.Fn.{Shared}
use Rattle.numbers.specs.Limits.{IsOrder}
use Rattle.tables.specs.Tables.{◌≈⟨◌⟩◌, block}
use Rattle.tables.specs.Buffer.{Has}

pub record Reached (n o i j : ℕ) (old new : List ℤ) : Type 0 where
  pub long : length new ≡ length old
  pub here : block n new o i j ≡ block n old o i j
  pub rest : (b : ℕ) → b ≢ o → block n new b ≈⟨ n ⟩ block n old b

pub record ToFill {T : Type 0} (g : Shared T (Bor (List ℤ) × (ℕ × (ℕ × Unit {0}))) ℤ) (f : T) (n w o : ℕ) (old : List ℤ) : Type 0 where
  pub order : IsOrder n
  pub target : Has n old o
  pub width : w ≤ n
  pub may : (b : Bor (List ℤ)) (i j : ℕ) → i < n → j < w → Reached n o i j old b.now → g.pre f (b, (i, (j, tt)))

pub record Gave {T : Type 0} (g : Shared T (Bor (List ℤ) × (ℕ × (ℕ × Unit {0}))) ℤ) (f : T) (n o : ℕ) (old : List ℤ) (i j : ℕ) (v : ℤ) : Type 0 where
  pub shown : Bor (List ℤ)
  pub reached : Reached n o i j old shown.now
  pub says : g.post f (shown, (i, (j, tt))) v

pub record Filled (n w : ℕ) (R : ℕ → ℕ → ℤ → Type 0) (o : ℕ) (old new : List ℤ) : Type 0 where
  pub long : length new ≡ length old
  pub there : (i j : ℕ) → i < n → j < w → R i j (block n new o i j)
  pub rest : (b : ℕ) → b ≢ o → block n new b ≈⟨ n ⟩ block n old b

pub record ToTest (n w o : ℕ) (L : List ℤ) : Type 0 where
  pub order : IsOrder n
  pub target : Has n L o
  pub width : w ≤ n

module _ {T : Type 0} (g : Shared T (ℤ × Unit {0}) Bool) (f : T) (n w o : ℕ) (L : List ℤ) where
  abbrev pub Passed : Type 0
  Passed = (i j : ℕ) → i < n → j < w → g.post f (block n L o i j, tt) true

  pub record Failed : Type 0 where
    pub row : ℕ
    pub column : ℕ
    pub inside : (row < n) × (column < w)
    pub says : g.post f (block n L o row column, tt) false
