-- The vocabulary of the elimination's inner contracts: a reader of the public calls can skip it. Two tables C and P, which begin as I and A, undergo
-- the same column operations modulo m until P is I. Any machine form of a table serves: it enters only by the table that it stands for.
--   ColumnStep x n d s a f C C'   modulo x, column d becomes a times itself and f times column s
--   Linked n m A C P              what such an operation keeps: P = A·C, and a table that kills P kills A
--   Going n m r A C P             the same, and the first r rows of P are those of I
--   Reaches n m r A P             the same, for some C
--   Keeps n m r C P C' P'         whatever A is, r rows stay so
--   Advances n m r C P C' P'      whatever A is, from r rows the work went on to r + 1
--   None m k r P                  modulo m, row r of P is 0 from column r up to column k
--   Some b z                      b does not divide z
--   One x z                       z is 1 modulo x
--   Pivot b n r P s               s is the first column from r on that b does not divide in row r, or n
use Rattle.std.specs.Prelude.{◌≢◌, ℕ, ◌+◌, ◌≤◌, ◌<◌, ℤ, pos, ◌+ℤ◌, ◌*ℤ◌}
use Rattle.numbers.specs.Numbers.{Cong, δ}
use Rattle.tables.specs.Tables.{Matrix, ◌·⟨◌⟩◌, CongM}

pub record ColumnStep (x : ℤ) (n d s : ℕ) (a f : ℤ) (C C' : Matrix) : Type 0 where
  pub rest : (i j : ℕ) → i < n → j < n → j ≢ d → Cong x (C' i j) (C i j)
  pub here : (i : ℕ) → i < n → Cong x (C' i d) (a *ℤ C i d +ℤ f *ℤ C i s)

-- `kills` for every divisor t of m: where m is a power, a stop shows that A has no inverse modulo the base
pub record Linked (n m : ℕ) (A C P : Matrix) : Type 0 where
  pub product : CongM n (pos m) P (A ·⟨ n ⟩ C)
  pub kills : (t : ℕ) → Cong (pos t) (pos m) (pos 0) → (W : Matrix)
      → CongM n (pos t) (W ·⟨ n ⟩ P) (λ i j. pos 0) → CongM n (pos t) (W ·⟨ n ⟩ A) (λ i j. pos 0)

pub record Going (n m r : ℕ) (A C P : Matrix) : Type 0 where
  pub kept : Linked n m A C P
  pub rows : (i : ℕ) → i < r → (j : ℕ) → j < n → Cong (pos m) (P i j) (δ i j)

pub record Reaches (n m r : ℕ) (A P : Matrix) : Type 0 where
  pub C : Matrix
  pub going : Going n m r A C P

pub record Keeps (n m r : ℕ) (C P C' P' : Matrix) : Type 0 where
  pub on : (A : Matrix) → Going n m r A C P → Going n m r A C' P'

pub record Advances (n m r : ℕ) (C P C' P' : Matrix) : Type 0 where
  pub on : (A : Matrix) → Going n m r A C P → Going n m (r + 1) A C' P'

abbrev pub None : ℕ → ℕ → ℕ → Matrix → Type 0
None m k r P = (j : ℕ) → r ≤ j → j < k → Cong (pos m) (P r j) (pos 0)

abbrev pub Some : ℕ → ℤ → Type 0
Some b z = ¬ Cong (pos b) z (pos 0)

abbrev pub One : ℕ → ℤ → Type 0
One x z = Cong (pos x) z (pos 1)

pub record Pivot (b n r : ℕ) (P : Matrix) (s : ℕ) : Type 0 where
  pub from : r ≤ s
  pub upto : s ≤ n
  pub none : None b s r P
  pub some : s < n → Some b (P r s)
