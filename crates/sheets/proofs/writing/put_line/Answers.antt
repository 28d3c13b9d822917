use Rattle.std.proofs.Common.{rules}
use Rattle.sheets.proofs.Bytes.Written.{line_turn}
use Rattle.sheets.proofs.writing.put_line.Goals as goal

pub loop-i-preserved : goal.loop-i-preserved
loop-i-preserved c =
    line_turn c.args.figures.now c.loop-i.i c.loop-i-test.true (search rules) c.loop-i.invariant c.put_figure-next.ensures c.after_figure.ensures c.put_byte-next.ensures
