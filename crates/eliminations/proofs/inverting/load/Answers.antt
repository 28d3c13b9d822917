use lib.ListN.{length, set}
use Prim.Native.Nat.{ℕ, ◌+◌, ◌^◌}
use mathlib.Core.List.{List}
use borrow.Author.Rules.{rules}
use native.Mathlib.Omega.{arith}
use Rattle.tables.specs.Tables.{entries}
use Rattle.tables.proofs.Buffers.Places.{row_end}
use Rattle.eliminations.proofs.Reduction.Ends.{Loading, loading_more, set_twice}
use Rattle.eliminations.proofs.inverting.load.Goals as goal

pub loop-i-preserved : goal.loop-i-preserved
loop-i-preserved c =
    let a = c.args.a.now in
    let l = c.loop-i in
    let n = length c.args.t.now in
    set_twice (λ (t : List (List ℕ)). Loading (2 ^ 32) n (l.i + 1) (entries n a) t) l.t l.i c.take.new.t (λ (row : List ℕ). set row (n + l.i) 1) (omega arith)
    (loading_more (omega arith) (omega arith) (omega arith) (search rules) a (omega (arith, row_end {n = n} {i = l.i} (omega arith), c.requires.lawful.size)) (omega arith) c.take.ensures l.invariant)
