use Rattle.verdict.proofs.Width.{digit_asks, two_wide, high_wide, summed}
use mathlib.Core.Path.{◌∙◌}
use Rattle.numbers.proofs.Answers.Says.{say_yes, say_no}
use Rattle.verdict.proofs.digits.Goals as goal

pub digit-requires : goal.digit-requires
digit-requires c =
    digit_asks c.args.lifter.setting c.base.ensures.start (c.base.ensures.long ∙ c.told-buf)

pub returns-then-not-vanishes : goal.returns-then-not-vanishes
returns-then-not-vanishes c =
    say_no (two_wide c.args.lifter.setting c.base.ensures.start c.digit.ensures.step c.requires.covers (c.vanishes-2.ensures.no c.if-not-vanishes.true))

pub returns-then-not-within : goal.returns-then-not-within
returns-then-not-within c =
    say_no (high_wide c.args.lifter.setting c.base.ensures.start c.digit.ensures.step (c.vanishes-2.ensures.yes c.if-not-vanishes.false) (c.within.ensures.no c.if-not-within.true))

pub returns : goal.returns
returns c =
    say_yes (summed c.args.lifter.setting c.base.ensures.start c.digit.ensures (c.vanishes-2.ensures.yes c.if-not-vanishes.false) c.extend.ensures)
