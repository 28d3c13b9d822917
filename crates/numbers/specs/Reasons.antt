-- The reasons for which a call refuses, and their numbers.
--   refusal_number r   the number of the reason r
--   number_of a        the number of an answer: 0 where the job is done, else the reason's
use Rattle.std.specs.Prelude.{ℕ, Result, Ok, Err}
use Rattle.numbers.specs.declared.refusals.Refusal.{Refusal}
use Rattle.numbers.specs.declared.refusals.Refusal.TheVariants.{Order, Lifts, Length, Entry, Exponent, NoInverseModulo2}

abbrev pub refusal_number : Refusal → ℕ
refusal_number Order = 1
refusal_number Lifts = 2
refusal_number Length = 3
refusal_number Entry = 4
refusal_number Exponent = 5
refusal_number NoInverseModulo2 = 6

abbrev pub number_of : Result (Unit {0}) Refusal → ℕ
number_of (Ok _) = 0
number_of (Err r) = refusal_number r
