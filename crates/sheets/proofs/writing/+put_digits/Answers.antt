use Rattle.std.proofs.Common.{[], ◌∷◌, ◌+◌, ◌/◌, ◌%◌}
use Rattle.sheets.specs.Sheet.{decimal}
use Rattle.sheets.proofs.Text.Decimal.{decimal_digit, decimal_split}
use Rattle.sheets.proofs.Bytes.Puts.{put_join}
use Rattle.sheets.proofs.writing.+put_digits.Goals as goal

pub returns-then-m-lt10 : goal.returns-then-m-lt10
returns-then-m-lt10 t c = rw (decimal_digit _ c.if-m-lt10.true) (rw c.digit.ensures at c.put_byte.ensures)

pub returns : goal.returns
returns t c =
    let m = c.args.m in
    rw (decimal_split m c.if-m-lt10.false)
    (put_join (decimal (m / 10)) ((48 + m % 10) ∷ []) c.put_digits-next.ensures (rw c.digit-2.ensures at c.put_byte-2.ensures))
