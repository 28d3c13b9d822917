-- A reason is determined by its number, and so is an answer.
use mathlib.Core.Path.{◌≡◌}
use mathlib.Core.Logic.{◌≢◌}
use native.Mathlib.Omega.{arith}
use Rattle.std.specs.Prelude.{Result}
use Rattle.numbers.specs.Reasons.{refusal_number, number_of}
use Rattle.numbers.specs.declared.refusals.Refusal.{Refusal}

pub refusal_some : (r : Refusal) → refusal_number r ≢ 0
refusal_some r = grind arith

pub refusal_unique : (r s : Refusal) → refusal_number r ≡ refusal_number s → r ≡ s
refusal_unique r s e = grind arith

pub answer_unique : (a b : Result (Unit {0}) Refusal) → number_of a ≡ number_of b → a ≡ b
answer_unique a b e = grind arith
