use Rattle.sheets.proofs.Reading.Ends.{order_casts, order_ready, order_refused}
use native.Mathlib.Omega.{arith}
use Rattle.sheets.proofs.read.Goals as goal

pub overflow_cast-order : goal.overflow_cast-order
overflow_cast-order c = order_casts c.args.text.now _ c.number.ensures _ _ c.in_ok-order.was

pub body-requires : goal.body-requires
body-requires c = (order_ready _ _ c.number.ensures _ _ c.in_ok-order.was, omega arith)

pub returns-in_err-order : goal.returns-in_err-order
returns-in_err-order c =
    order_refused _ _ c.number.ensures _ _ c.from_residual.result (omega arith) c.in_err-order.was c.from_residual.ensures.1
