-- The inverse modulo X, by the elimination on rows of residues. The first name is the answer of `inverting::inverse`; the others are the vocabulary of inner
-- contracts, which a reader of the calls can skip. One list of rows holds two tables of order n: the first n residues of a row are a row of P, and the n after
-- them that of C. The elimination's columns are the rows here: it works on both tables turned over.
--   Inverted n X A o old new   block o holds some inverse of A modulo X, of magnitude at most 2^32, and every other block is as it was
--   front t, back n t          the tables P and C of a list of rows
--   Zeros t                    the rows hold zeros only
--   Begun X n A t              modulo X, P is A and C is the identity
--   RowStep X n d s a f t t'   modulo X, row d becomes a times itself and f times row s
--   Prepared Q X n r t t'      modulo X the work is kept, and the entry of P at row r and column r has the property Q
--   Settled X n r t t'         modulo X, the work went on from r to r + 1
use Rattle.std.specs.Prelude.{◌≡◌, ◌≢◌, List, [], ℕ, ◌+◌, ◌^◌, ℤ, pos, length, get_or}
use Rattle.numbers.specs.Numbers.{δ}
use Rattle.tables.specs.Tables.{Matrix, ◌≈⟨◌⟩◌, ◌·⟨◌⟩◌, ◌ᵀ, CongM, block}
use Rattle.tables.specs.Buffer.{Low}
use Rattle.eliminations.specs.Elimination.{ColumnStep, Keeps, Advances}

pub record Inverted (n X : ℕ) (A : Matrix) (o : ℕ) (old new : List ℤ) : Type 0 where
  pub long : length new ≡ length old
  pub right : CongM n (pos X) (A ·⟨ n ⟩ block n new o) δ
  pub low : Low n (2 ^ 32) (block n new o)
  pub rest : (b : ℕ) → b ≢ o → block n new b ≈⟨ n ⟩ block n old b

abbrev pub front : List (List ℕ) → Matrix
front t i j = pos (get_or (get_or t i []) j 0)

abbrev pub back : ℕ → List (List ℕ) → Matrix
back n t i j = pos (get_or (get_or t i []) (n + j) 0)

abbrev pub Zeros : List (List ℕ) → Type 0
Zeros t = (i k : ℕ) → get_or (get_or t i []) k 0 ≡ 0

pub record Begun (X n : ℕ) (A : Matrix) (t : List (List ℕ)) : Type 0 where
  pub table : CongM n (pos X) (front t) A
  pub unit : back n t ≈⟨ n ⟩ δ

pub record RowStep (X n d s : ℕ) (a f : ℤ) (t t' : List (List ℕ)) : Type 0 where
  pub front : ColumnStep (pos X) n d s a f (front t ᵀ) (front t' ᵀ)
  pub back : ColumnStep (pos X) n d s a f (back n t ᵀ) (back n t' ᵀ)

pub record Prepared (Q : ℤ → Type 0) (X n r : ℕ) (t t' : List (List ℕ)) : Type 0 where
  pub keeps : Keeps n X r (back n t ᵀ) (front t ᵀ) (back n t' ᵀ) (front t' ᵀ)
  pub entry : Q (front t' r r)

abbrev pub Settled : ℕ → ℕ → ℕ → List (List ℕ) → List (List ℕ) → Type 0
Settled X n r t t' = Advances n X r (back n t ᵀ) (front t ᵀ) (back n t' ᵀ) (front t' ᵀ)
