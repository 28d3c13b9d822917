use native.Mathlib.Omega.{arith}
use Rattle.eliminations.proofs.Reduction.Rows.{row_gains, held_here}
use Rattle.eliminations.proofs.inverting.gain.Goals as goal

pub returns : goal.returns
returns c = row_gains (omega arith) c.requires.1.0 (held_here c.args.t.now) c.fold_front.ensures
