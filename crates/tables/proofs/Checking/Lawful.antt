-- A test that a table is lawful.
use mathlib.Core.Bool.{Bool, true, ◌&&◌}
use mathlib.Core.List.{List, [], ◌∷◌}
use Prim.Native.Nat.{ℕ, ◌*◌, ◌^◌}
use Rattle.std.proofs.Common.{rules}
use lib.Dec.{T, leb, eqb}
use lib.IntN.{ℤ, nat_abs}
use lib.ListN.{length}
use Rattle.numbers.specs.Limits.{Legal, Lawful}

abbrev pub legal : List ℤ → Bool
legal [] = true
legal (v ∷ L) = leb (nat_abs v) (2 ^ 20) && legal L

pub legal_sound : (L : List ℤ) → T (legal L) → Legal L
legal_sound [] t = tt
legal_sound (v ∷ L) t = (search rules, legal_sound L (search rules))

abbrev pub lawful : ℕ → List ℤ → Bool
lawful n A = (leb 1 n && leb n 32) && (eqb (length A) (n * n) && legal A)

pub lawful_sound : (n : ℕ) (A : List ℤ) → T (lawful n A) → Lawful n A
lawful_sound n A t =
    record { order = record { from = search rules; upto = search rules }; size = search rules; legal = legal_sound A (search rules) }
