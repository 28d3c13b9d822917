use mathlib.Core.Path.{refl}
use Rattle.std.proofs.lemmas.List.{length-take-le}
use native.Mathlib.Omega.{arith}
use lib.IntN.{pos}
use Rattle.numbers.proofs.Answers.Says.{say_yes, say_no}
use Rattle.eliminations.proofs.Reduction.Stages.{found, stuck}
use Rattle.eliminations.proofs.Reduction.Words.{words_first}
use Rattle.eliminations.proofs.parity.has_inverse.Goals as goal

pub loop-r-init : goal.loop-r-init
loop-r-init c = words_first _ _ (length-take-le c.args.n _ c.requires.0.upto) c.load.auto.p c.load.ensures

pub returns-then-not-settle : goal.returns-then-not-settle
returns-then-not-settle c =
    say_no (stuck 2 (record { quot = pos 1; eqn = refl }) (omega arith) (omega arith) c.loop-r.invariant.1.going
    (λ j l h. c.settle.ensures.no c.if-not-settle.true j l (omega arith)))

pub returns : goal.returns
returns c = let g = c.loop-r.invariant.1 in say_yes (record { inverse = g.C; right = found (omega arith) g.going })
