-- The head of the lists that begin with order, length and entries (`table_refusals`): a lawful table passes it, and what passes it is lawful.
use mathlib.Core.Path.{◌≡◌, refl}
use mathlib.Core.Logic.{◌≢◌, ◌⊎◌, ◌↔◌}
use mathlib.Core.List.{List}
use Prim.Native.Nat.{ℕ, ◌*◌}
use native.Mathlib.Omega.{arith}
use lib.IntN.{ℤ}
use lib.ListN.{length}
use Rattle.numbers.specs.Limits.{Lawful, table_refusals}
use Rattle.numbers.specs.Refusals.{Refusals, ◌thereafter◌, Gives}
use Rattle.numbers.proofs.Answers.Refusals.{Passes, gives_same, matching_itself}
use Rattle.numbers.proofs.Answers.Decisions.{stable, order?, legal?}

pub lawful_passes : {n : ℕ} {A : List ℤ} (P : Type 0) → Lawful n A → ¬ P → Passes (table_refusals n P A)
lawful_passes P law f = grind arith

pub passes_lawful : (n : ℕ) (P : Type 0) (A : List ℤ) → (¬ P → length A ≡ n * n) → Passes (table_refusals n P A) → Lawful n A
passes_lawful n P A size p = record { order = stable (order? n) p.0; size = size p.1.0; legal = stable (legal? A) p.1.1.0 }

-- both buffers have the required length
pub fit : {a b c d : ℕ} → a ≡ c → b ≡ d → ¬ ((a ≢ c) ⊎ (b ≢ d))
fit p q = grind arith

-- it does not count how a wrong length is said
pub same_head : (n : ℕ) (P Q : Type 0) (A : List ℤ) (rest : Refusals) (k : ℕ) → P ↔ Q → Gives (table_refusals n P A thereafter rest) k → Gives (table_refusals n Q A thereafter rest) k
same_head n P Q A rest k e =
    gives_same (table_refusals n P A thereafter rest) (table_refusals n Q A thereafter rest) k
    (refl, ((λ p. p, λ p. p), (refl, (e, (refl, ((λ p. p, λ p. p), matching_itself rest))))))
