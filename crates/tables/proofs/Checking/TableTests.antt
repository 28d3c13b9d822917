-- Tests of tables that compute, and what a passed test says.
use mathlib.Core.Bool.{Bool}
use Prim.Native.Nat.{ℕ}
use native.Mathlib.Omega.{arith}
use lib.Dec.{T, eqb, eqb→eq}
use lib.IntN.{nat_abs, ◌-ℤ◌}
use Rattle.std.proofs.lemmas.Int.{ints}
use Rattle.numbers.proofs.Testing.Tests.{all, all_at, all_of}
use Rattle.tables.specs.Tables.{Matrix, Below, ◌≈⟨◌⟩◌}

abbrev pub below : ℕ → (ℕ → ℕ → Bool) → Bool
below n f = all n (λ i. all n (λ j. f i j))

pub below_at : (n : ℕ) (f : ℕ → ℕ → Bool) → T (below n f) → Below n (λ i j. T (f i j))
below_at n f t i j h k = all_at n (λ j. f i j) (all_at n (λ i. all n (λ j. f i j)) t i h) j k

abbrev pub same : ℕ → Matrix → Matrix → Bool
same n A B = below n (λ i j. eqb (nat_abs (A i j -ℤ B i j)) 0)

pub same_sound : (n : ℕ) (A B : Matrix) → T (same n A B) → A ≈⟨ n ⟩ B
same_sound n A B t i j h k =
    let e = eqb→eq (nat_abs (A i j -ℤ B i j)) 0 (below_at n (λ i j. eqb (nat_abs (A i j -ℤ B i j)) 0) t i j h k) in
    omega (arith, ints)

pub below_of : (n : ℕ) (f : ℕ → ℕ → Bool) → Below n (λ i j. T (f i j)) → T (below n f)
below_of n f p = all_of n (λ i. all n (λ j. f i j)) (λ i h. all_of n (λ j. f i j) (λ j k. p i j h k))
