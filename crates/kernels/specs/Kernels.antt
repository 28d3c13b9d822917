-- What the kernels on the blocks of a buffer ask, for any X that they divide or reduce by: that it is a power of 2 is said by the code alone.
--   Exact n A B           every sum on the way to an entry of A·B stays below 2^62
--   ExactAt n A B i j     every sum on the way to its entry (i, j) stays below 2^62
--   Dot n A p B q i j     an entry of the product of the tables at places p and q
--   Product n L p q o     block o is to be the product of blocks p and q
--   Remain n X L p q o    block o is to be the balanced remainder by X of the product of blocks p and q
--   shrunk n X A L m s    block s, less A times block m, divided by X and rounded down
--   Shrink n X A L m s    block s is to be that
--   ShrinkAt n X A L m s i j   its entry (i, j) is to be given
--   Balance n X L o       block o is to be its balanced remainder by X
--   Extend n X L c d      X times block d is to be added to block c
--   residue_product X n P y   the product of a table P and a table of residues y, in residues modulo X
--   Products n y L p o    the product of block p and the table of residues y is to be put into block o
use Rattle.std.specs.Prelude.{◌≡◌, ◌≢◌, List, ℕ, ◌+◌, ◌*◌, ◌^◌, ◌≤◌, ◌<◌, ℤ, pos, nat_abs, ◌-ℤ◌, length}
use Rattle.std.specs.Int.Signed.{shr_z}
use Rattle.numbers.specs.Limits.{IsOrder}
use Rattle.numbers.specs.Moduli.{IsModulus}
use Rattle.numbers.specs.Remainder.{residue}
use Rattle.tables.specs.Tables.{Matrix, Below, ◌·⟨◌⟩◌, table_at, block, entries}
use Rattle.tables.specs.Buffer.{Low, Has}
use Rattle.tables.specs.Residues.{residues}

pub record Exact (n : ℕ) (A B : Matrix) : Type 0 where
  pub c : ℕ
  pub d : ℕ
  pub left : Low n c A
  pub right : Low n d B
  pub room : n * (c * d) < 2 ^ 62

pub record ExactAt (n : ℕ) (A B : Matrix) (i j : ℕ) : Type 0 where
  pub c : ℕ
  pub d : ℕ
  pub left : (k : ℕ) → k < n → nat_abs (A i k) ≤ c
  pub right : (k : ℕ) → k < n → nat_abs (B k j) ≤ d
  pub room : n * (c * d) < 2 ^ 62

pub record Dot (n : ℕ) (A : List ℤ) (p : ℕ) (B : List ℤ) (q i j : ℕ) : Type 0 where
  pub order : IsOrder n
  pub left : p + n * n ≤ length A
  pub right : q + n * n ≤ length B
  pub row : i < n
  pub column : j < n
  pub exact : ExactAt n (table_at n A p) (table_at n B q) i j

pub record Product (n : ℕ) (L : List ℤ) (p q o : ℕ) : Type 0 where
  pub order : IsOrder n
  pub left : Has n L p
  pub right : Has n L q
  pub target : Has n L o
  pub apart : p ≢ o
  pub apart' : q ≢ o
  pub exact : Exact n (block n L p) (block n L q)

pub record Remain (n X : ℕ) (L : List ℤ) (p q o : ℕ) : Type 0 where
  pub order : IsOrder n
  pub modulus : IsModulus X
  pub left : Has n L p
  pub right : Has n L q
  pub target : Has n L o
  pub apart : p ≢ o
  pub low_left : Low n (2 ^ 62) (block n L p)
  pub low_right : Low n (2 ^ 62) (block n L q)

abbrev pub shrunk : ℕ → ℕ → List ℤ → List ℤ → ℕ → ℕ → Matrix
shrunk n X A L m s i j = shr_z (block n L s i j -ℤ (entries n A ·⟨ n ⟩ block n L m) i j) X

pub record Shrink (n X : ℕ) (A L : List ℤ) (m s : ℕ) : Type 0 where
  pub order : IsOrder n
  pub from : 1 ≤ X
  pub upto : X ≤ 2 ^ 32
  pub size : length A ≡ n * n
  pub factor : Has n L m
  pub target : Has n L s
  pub apart : m ≢ s
  pub exact : Exact n (entries n A) (block n L m)

pub record ShrinkAt (n X : ℕ) (A L : List ℤ) (m s i j : ℕ) : Type 0 where
  pub dot : Dot n A 0 L (m * (n * n)) i j
  pub upto : X ≤ 2 ^ 32
  pub target : Has n L s
  pub room : nat_abs (block n L s i j -ℤ (entries n A ·⟨ n ⟩ block n L m) i j) < 2 ^ 63

pub record Balance (n X : ℕ) (L : List ℤ) (o : ℕ) : Type 0 where
  pub order : IsOrder n
  pub modulus : IsModulus X
  pub target : Has n L o
  pub room : Low n (2 ^ 62) (block n L o)

pub record Extend (n X : ℕ) (L : List ℤ) (c d : ℕ) : Type 0 where
  pub order : IsOrder n
  pub fits : X < 2 ^ 63
  pub target : Has n L c
  pub source : Has n L d
  pub apart : d ≢ c
  pub room : Below n (λ i j. nat_abs (block n L c i j) + X * nat_abs (block n L d i j) < 2 ^ 63)

abbrev pub residue_product : ℕ → ℕ → Matrix → List ℕ → Matrix
residue_product X n P y i j = pos (residue X ((P ·⟨ n ⟩ residues n y) i j))

pub record Products (n : ℕ) (y : List ℕ) (L : List ℤ) (p o : ℕ) : Type 0 where
  pub order : IsOrder n
  pub left : Has n L p
  pub right : n * n ≤ length y
  pub target : Has n L o
  pub apart : p ≢ o
  pub low : Low n (2 ^ 62) (block n L p)
