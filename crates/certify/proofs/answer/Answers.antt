use Rattle.certify.proofs.Printed.{prints}
use Rattle.certify.proofs.answer.Goals as goal

pub returns : goal.returns
returns c = prints c.requires c.report.ensures
