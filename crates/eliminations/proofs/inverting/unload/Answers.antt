use native.Mathlib.Omega.{arith}
use Rattle.eliminations.proofs.Reduction.Ends.{low_more, unload_more}
use Rattle.eliminations.proofs.inverting.unload.Goals as goal

pub loop-i-preserved : goal.loop-i-preserved
loop-i-preserved c =
    let q = c.loop-i.invariant in (
      low_more c.args.t.now (omega arith) (omega (arith, c.told-t)) c.widen.ensures.low q.0,
      unload_more c.args.t.now (omega arith) c.requires.1 (omega (arith, c.told-t)) (omega arith) (omega arith) q.1 c.widen.ensures.wrote,
    )
