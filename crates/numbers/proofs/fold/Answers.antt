use native.Mathlib.Omega.{arith}
use Rattle.numbers.proofs.Machine.{product_room}
use Rattle.numbers.proofs.fold.Goals as goal

pub overflow_mul-result : goal.overflow_mul-result
overflow_mul-result c = omega (arith, product_room c.from-2.result c.from-3.result (omega arith) (omega arith))

pub overflow_add-result : goal.overflow_add-result
overflow_add-result c = omega (arith, product_room c.from-2.result c.from-3.result (omega arith) (omega arith))
