-- The vocabulary of the kernels on the first column of a block.
--   ColumnPut n f o old new     the first column of block o holds f, and every other block is as it was
--   ColumnZero n A              the first column of A is all zero
--   ColumnLow n c A             every entry of it has magnitude at most c
-- What the kernels ask:
--   ToCopy n L p o              the first column of block p is to be copied into that of block o
--   ToRemain n X L p q o        that of block o is to be the balanced remainder by X of block p times that of block q
--   ToShrink n X A L m s        that of block s, less A times that of block m, is to be divided by X and rounded down
use Rattle.std.specs.Prelude.{◌≡◌, ◌≢◌, List, ℕ, ◌*◌, ◌^◌, ◌≤◌, ◌<◌, ℤ, pos, nat_abs, length}
use Rattle.numbers.specs.Limits.{IsOrder}
use Rattle.numbers.specs.Moduli.{IsModulus}
use Rattle.tables.specs.Tables.{Matrix, ◌≈⟨◌⟩◌, block, entries}
use Rattle.tables.specs.Buffer.{Low, Has}

pub record ColumnPut (n : ℕ) (f : ℕ → ℤ) (o : ℕ) (old new : List ℤ) : Type 0 where
  pub long : length new ≡ length old
  pub there : (i : ℕ) → i < n → block n new o i 0 ≡ f i
  pub rest : (b : ℕ) → b ≢ o → block n new b ≈⟨ n ⟩ block n old b

abbrev pub ColumnZero : ℕ → Matrix → Type 0
ColumnZero n A = (i : ℕ) → i < n → A i 0 ≡ pos 0

abbrev pub ColumnLow : ℕ → ℕ → Matrix → Type 0
ColumnLow n c A = (i : ℕ) → i < n → nat_abs (A i 0) ≤ c

pub record ToCopy (n : ℕ) (L : List ℤ) (p o : ℕ) : Type 0 where
  pub order : IsOrder n
  pub source : Has n L p
  pub target : Has n L o
  pub apart : p ≢ o

pub record ToRemain (n X : ℕ) (L : List ℤ) (p q o : ℕ) : Type 0 where
  pub order : IsOrder n
  pub modulus : IsModulus X
  pub left : Has n L p
  pub right : Has n L q
  pub target : Has n L o
  pub apart : p ≢ o
  pub apart' : q ≢ o
  pub low_left : Low n (2 ^ 31) (block n L p)
  pub low_right : ColumnLow n (2 ^ 25) (block n L q)

pub record ToShrink (n X : ℕ) (A L : List ℤ) (m s : ℕ) : Type 0 where
  pub order : IsOrder n
  pub from : 1 ≤ X
  pub upto : X ≤ 2 ^ 32
  pub size : length A ≡ n * n
  pub factor : Has n L m
  pub target : Has n L s
  pub apart : m ≢ s
  pub low_left : Low n (2 ^ 20) (entries n A)
  pub low_right : ColumnLow n (2 ^ 31) (block n L m)
  pub room : ColumnLow n (2 ^ 62) (block n L s)
