use Rattle.sheets.proofs.Bytes.Puts.{put_byte}
use Rattle.sheets.proofs.writing.put_byte.Goals as goal

pub returns-then-at-out : goal.returns-then-at-out
returns-then-at-out c = put_byte _ _ _ c.if-at-out.true
