use Rattle.sheets.proofs.Bytes.Written.{put_signed}
use Rattle.sheets.proofs.writing.put_figure.Goals as goal

pub returns : goal.returns
returns c =
    put_signed c.args.z c.ranges.z c.unsigned_abs.ensures.value c.put_sign-next.ensures c.put_digits.ensures
