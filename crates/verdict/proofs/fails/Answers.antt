use mathlib.Core.Path.{◌∙◌}
use Prim.Native.Nat.{◌^◌}
use Rattle.lifting.proofs.Calls.Following.{follows_asks, follows_more}
use Rattle.verdict.proofs.Column.{copied_start, copied_column, copied_fails, follows_start, fails_told}
use Rattle.verdict.proofs.fails.Goals as goal

pub loop-init : goal.loop-init
loop-init c =
    let p = c.copy.ensures in
    follows_start c.args.lifter.setting (p.long ∙ c.told-buf) (copied_start p (2 ^ c.args.lifter.exponent) c.args.lifter.table.now c.requires) (copied_column p c.args.lifter.setting.lawful.order.from)

pub column_digit-requires : goal.column_digit-requires
column_digit-requires c = follows_asks c.loop.invariant

pub loop-preserved : goal.loop-preserved
loop-preserved c = follows_more c.loop.invariant c.column_digit.ensures

pub returns : goal.returns
returns c = copied_fails c.copy.ensures (fails_told c.loop.invariant c.loop-test.false c.vanishes-2.result c.vanishes-2.ensures)
