use Rattle.eliminations.proofs.Reduction.Rows.{lead_gain}
use mathlib.Core.Path.{refl}
use Prim.Native.Nat.{◌^◌}
use lib.IntN.{pos}
use Rattle.eliminations.proofs.inverting.lead.Goals as goal

pub returns-then-s-r : goal.returns-then-s-r
returns-then-s-r c =
    let v = c.pivot-s.ensures in
    lead_gain v.1 c.requires.inside.0 v.0 (record { quot = pos (2 ^ 31); eqn = refl }) c.if-s-r.true c.gain.ensures
