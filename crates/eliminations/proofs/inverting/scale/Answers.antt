use native.Mathlib.Omega.{arith}
use Rattle.eliminations.proofs.Reduction.Rows.{row_scales, scale_ready}
use Rattle.eliminations.proofs.inverting.scale.Goals as goal

pub returns : goal.returns
returns c = scale_ready c.requires.inside.0 c.unit-u.ensures (row_scales (omega arith) c.requires.inside.0 c.scale_front.ensures)
