-- Answers by a bool.
use mathlib.Core.Bool.{Bool, true, false, true≢false, false≢true}
use Rattle.numbers.specs.Says.{Says}

pub say_yes : {P Q : Type 0} → P → Says P Q true
say_yes p = record { yes = λ z. p; no = λ z. absurd (true≢false z) }

pub say_no : {P Q : Type 0} → Q → Says P Q false
say_no q = record { yes = λ z. absurd (false≢true z); no = λ z. q }

pub say_map : {P Q R S : Type 0} {b : Bool} → (P → R) → (Q → S) → Says P Q b → Says R S b
say_map f g a = record { yes = λ z. f (a.yes z); no = λ z. g (a.no z) }
