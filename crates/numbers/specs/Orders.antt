-- The vocabulary of inner contracts: an order that is asked.
--   Sized n a   a is the size n² of a table of order n; or the refusal, where n is no order
use Rattle.std.specs.Prelude.{◌≡◌, ℕ, ◌*◌, Result, MatchResult}
use Rattle.numbers.specs.Limits.{IsOrder}
use Rattle.numbers.specs.declared.refusals.Refusal.{Refusal}
use Rattle.numbers.specs.declared.refusals.Refusal.TheVariants.{Order}

abbrev pub Sized : ℕ → Result ℕ Refusal → Type 0
Sized n a = MatchResult a (λ m. IsOrder n × (m ≡ n * n)) (λ r. (¬ IsOrder n) × (r ≡ Order))
