use lib.ListN.{length}
use Rattle.tables.specs.Tables.{◌ᵀ}
use Rattle.eliminations.specs.Inverting.{front}
use Rattle.eliminations.proofs.Reduction.Stages.{none_inside, none_more}
use Rattle.eliminations.proofs.Reduction.Units.{is_multiple}
use native.Mathlib.Omega.{arith}
use Rattle.eliminations.proofs.inverting.pivot.Goals as goal

-- the row has an odd entry, so s is below n
pub loop-s-preserved : goal.loop-s-preserved
loop-s-preserved c =
    let g = c.args in
    let inside = none_inside 2 (length g.t.now) c.loop-s.s g.r (front g.t.now ᵀ) c.requires.odd_below c.loop-s.invariant.1.0 c.loop-s.invariant.1.1 in
    (omega arith, (omega (arith, inside), none_more 2 _ _ (front g.t.now ᵀ) c.loop-s.invariant.1.1 (is_multiple (omega arith) c.loop-s-test.true)))
