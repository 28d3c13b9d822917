use lib.IntN.{pos}
use lib.ListN.{length}
use Prim.Native.Nat.{ℕ, ◌^◌}
use mathlib.Core.Path.{◌≡◌, refl, subst}
use native.Mathlib.Omega.{arith}
use Rattle.tables.specs.Tables.{◌ᵀ, entries}
use Rattle.eliminations.specs.Inverting.{back, Settled}
use Rattle.tables.proofs.Inverses.Turned.{inverse_turned, has_turned}
use Rattle.eliminations.proofs.Reduction.Stages.{found, stuck}
use Rattle.eliminations.proofs.Reduction.Ends.{begun}
use Rattle.eliminations.proofs.inverting.solve.Goals as goal

pub loop-r-init : goal.loop-r-init
loop-r-init c = begun c.load.ensures

pub settle-requires-clause-odd_below : goal.settle-requires-clause-odd_below
settle-requires-clause-odd_below c =
    let n = length c.args.t.now in
    λ none. stuck 2 (record { quot = pos (2 ^ 31); eqn = refl }) (omega arith) (omega arith) c.loop-r.invariant (λ j l h. none j l (omega arith)) (has_turned 2 n (entries n c.args.a.now) c.requires.lawful.1)

pub loop-r-preserved : goal.loop-r-preserved
loop-r-preserved c =
    let e : length c.loop-r.t ≡ length c.args.t.now = omega arith in
    let s = subst (λ (m : ℕ). Settled (2 ^ 32) m c.loop-r.r c.loop-r.t c.settle.new.t) e c.settle.ensures in s.on _ c.loop-r.invariant

pub returns : goal.returns
returns c =
    let n = length c.args.t.now in
    let l = c.loop-r in
    inverse_turned (2 ^ 32) n (entries n c.args.a.now ᵀ) (back n l.t ᵀ) (found (omega arith) l.invariant)
