use native.Mathlib.Omega.{arith}
use mathlib.Core.Path.{refl, ap, ◌∙◌}
use Prim.Native.Nat.{ℕ, ◌*◌}
use Rattle.std.proofs.lemmas.List.{length-take-le}
use Rattle.tables.proofs.Buffers.Wrote.{wrote_part}
use Rattle.eliminations.proofs.Reduction.Ends.{zeros, inverted}
use Rattle.eliminations.proofs.inverting.inverse.Goals as goal

pub solve-requires-clause-zeros : goal.solve-requires-clause-zeros
solve-requires-clause-zeros c = zeros 32 c.args.n

pub returns : goal.returns
returns c =
    let g = c.args in
    let q = c.solve in
    let e = length-take-le g.n _ c.requires.0.order.upto in
    inverted g.a.now q.new.t e (q.auto.t ∙ e) q.ensures (wrote_part (g.n * g.n) (omega arith) (ap (λ (z : ℕ). z * z) (q.auto.t ∙ e)) (omega (arith, c.requires.1.1)) c.unload.ensures.wrote (λ j h. refl)) c.unload.ensures.low
