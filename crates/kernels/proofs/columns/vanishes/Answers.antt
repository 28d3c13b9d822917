use Rattle.std.proofs.Common.{rules}
use Rattle.numbers.proofs.Answers.Says.{say_map}
use Rattle.kernels.proofs.columns.vanishes.Goals as goal

pub returns : goal.returns
returns c =
    say_map
    (λ p i h. let e = p i 0 h (search rules) in search rules)
    (λ f z. let y = z _ f.inside.0 in search rules)
    c.all.ensures
