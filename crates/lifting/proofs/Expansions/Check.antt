-- A test that computes whether a list is the expansion, by ranges and products alone, and that it says so.
use mathlib.Core.Bool.{Bool, ◌&&◌}
use mathlib.Core.List.{List}
use Prim.Native.Nat.{ℕ, ◌+◌, ◌*◌}
use lib.Dec.{T, eqb, eqb→eq}
use lib.IntN.{ℤ, pos}
use lib.ListN.{length}
use Rattle.numbers.proofs.Algebra.Sum.{δ}
use Rattle.numbers.proofs.Testing.Tests.{both, all, all_at}
use Rattle.numbers.proofs.Testing.RuleTests.{is_rem, is_rem_sound}
use Rattle.tables.specs.Tables.{Matrix, ◌⊟◌, ◌⊙◌, ◌·⟨◌⟩◌, block}
use Rattle.tables.proofs.Checking.TableTests.{below, below_at, same, same_sound}
use Rattle.lifting.specs.Lifting.{IsDigit, IsExpansion}
use Rattle.lifting.proofs.Expansions.Rules.{digit_start}

module _ (n X : ℕ) (A B R D S : Matrix) where
  abbrev rems? : ℕ → ℕ → Bool
  rems? i j = is_rem X ((B ·⟨ n ⟩ R) i j) (D i j)

  unfoldable pub is_digit : Bool
  is_digit = below n rems? && same n (R ⊟ A ·⟨ n ⟩ D) (pos X ⊙ S)

  pub is_digit_sound : T is_digit → IsDigit n X A B R D S
  unfolding is_digit
  is_digit_sound t =
      let p = both (below n rems?) (same n (R ⊟ A ·⟨ n ⟩ D) (pos X ⊙ S)) t in
      record {
        remainder = λ i j h k. is_rem_sound X ((B ·⟨ n ⟩ R) i j) (D i j) (below_at n rems? p.0 i j h k);
        residue = same_sound n (R ⊟ A ·⟨ n ⟩ D) (pos X ⊙ S) p.1;
      }

module _ (n X s : ℕ) (A : Matrix) (L : List ℤ) where
  abbrev B : Matrix
  B = block n L 0

  -- a start is a digit of I
  abbrev start_at : Bool
  start_at = is_digit n X A B δ B (block n L 1)

  abbrev square : ℕ → Matrix
  square t = block n L (2 * t + 1) ·⟨ n ⟩ block n L (2 * t + 1)

  abbrev step_at : ℕ → Bool
  step_at t = is_digit n X A B (square t) (block n L (2 * t + 2)) (block n L (2 * t + 3))

  unfoldable pub is_expansion : Bool
  is_expansion = eqb (length L) ((2 * s + 2) * (n * n)) && (start_at && all s step_at)

  pub is_expansion_sound : T is_expansion → IsExpansion n X s A L
  unfolding is_expansion
  is_expansion_sound t =
      let p = both (eqb (length L) ((2 * s + 2) * (n * n))) (start_at && all s step_at) t in
      let q = both start_at (all s step_at) p.1 in
      record {
        size = eqb→eq (length L) ((2 * s + 2) * (n * n)) p.0;
        blocks = record {
          start = digit_start (is_digit_sound n X A B δ B (block n L 1) q.0);
          step = λ t h. record { digit = is_digit_sound n X A B (square t) (block n L (2 * t + 2)) (block n L (2 * t + 3)) (all_at s step_at q.1 t h) };
        };
      }
