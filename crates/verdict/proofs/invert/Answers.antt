use Rattle.numbers.proofs.Answers.Says.{say_map}
use Rattle.verdict.proofs.Width.{not_narrow}
use Rattle.verdict.proofs.Standing.{standing}
use Rattle.verdict.proofs.invert.Goals as goal

pub returns-then-digits : goal.returns-then-digits
returns-then-digits c =
    let sum = c.digits.ensures.yes c.if-digits.true in
    say_map (standing c.args.lifter.setting.lawful.order c.digits.array_long sum) (not_narrow sum) c.narrow.ensures
