use Rattle.std.proofs.Common.{rules}
use Rattle.numbers.proofs.Answers.Says.{say_map}
use Rattle.kernels.proofs.blocks.within.Goals as goal

pub returns : goal.returns
returns c =
    say_map
    (λ p. record { low = λ i j h k. let e = p i j h k in search rules })
    (λ f z. let y = z.low _ _ f.inside.0 f.inside.1 in search rules)
    c.all.ensures
