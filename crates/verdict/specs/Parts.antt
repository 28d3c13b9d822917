-- The vocabulary of the parts of verdict and inverse. X is any modulus; the code works by 2^e.
--   FindingTells n X A M f   what a finding tells, with M in the buffer: after `Whole` A has a whole inverse and block 0 is an inverse of A modulo X; after
--                            `NoneWhole` it has one modulo 2 and none whole, after `NoneModulo2` none modulo 2
--   Fails n A old b new      where b is true A has no whole inverse; blocks 0 and 1 are as they were
--   Leaves n X A M o         after a yes, block 0 of the buffer M is an inverse of A modulo X
--   NoneNarrow n A           no whole inverse of A is narrow
--   Summed n A M             block 0 of the buffer M is the whole inverse of A
--   Covers X m               m digits by X are enough for a narrow inverse
--   Standing n A o M         the inverse call answers o, and after 0 the inverse stands in the first n² numbers of the buffer M
use Rattle.std.specs.Prelude.{◌≡◌, Bool, true, List, ℕ, ◌*◌, ◌^◌, ◌≤◌, ◌<◌, ℤ, length, take}
use Rattle.numbers.specs.Numbers.{δ}
use Rattle.tables.specs.Tables.{Matrix, ◌≈⟨◌⟩◌, ◌·⟨◌⟩◌, entries, block, HasInverseMod, HasWholeInverse}
use Rattle.lifting.specs.Steps.{Stage}
use Rattle.verdict.specs.declared.Finding.{Finding}
use Rattle.verdict.specs.declared.Finding.TheVariants.{NoneModulo2, NoneWhole, Whole}
use Rattle.verdict.specs.declared.Outcome.{Outcome}
use Rattle.verdict.specs.Verdict.{Narrow, InverseGives}

abbrev pub FindingTells : ℕ → ℕ → List ℤ → List ℤ → Finding → Type 0
FindingTells n X A M NoneModulo2 = ¬ HasInverseMod n 2 (entries n A)
FindingTells n X A M NoneWhole = HasInverseMod n 2 (entries n A) × (¬ HasWholeInverse n (entries n A))
FindingTells n X A M Whole = HasWholeInverse n (entries n A) × Stage n X A M

pub record Fails (n : ℕ) (A old : List ℤ) (b : Bool) (new : List ℤ) : Type 0 where
  pub long : length new ≡ length old
  pub none : b ≡ true → ¬ HasWholeInverse n (entries n A)
  pub rest : (b : ℕ) → b ≤ 1 → block n new b ≈⟨ n ⟩ block n old b

pub record Leaves (n X : ℕ) (A M : List ℤ) (o : Outcome) : Type 0 where
  pub stage : o.number ≡ 0 → Stage n X A M

pub record NoneNarrow (n : ℕ) (A : List ℤ) : Type 0 where
  pub none : (C : Matrix) → entries n A ·⟨ n ⟩ C ≈⟨ n ⟩ δ → ¬ Narrow n C

pub record Summed (n : ℕ) (A M : List ℤ) : Type 0 where
  pub right : entries n A ·⟨ n ⟩ block n M 0 ≈⟨ n ⟩ δ

abbrev pub Covers : ℕ → ℕ → Type 0
Covers X m = 5 * 2 ^ 37 < 2 * X ^ m

pub record Standing (n : ℕ) (A : List ℤ) (o : Outcome) (M : List ℤ) : Type 0 where
  -- (as if these numbers were the output: on an output the number depends by its length alone)
  pub gives : InverseGives n A (take (n * n) M) o (take (n * n) M)
