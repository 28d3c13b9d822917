-- What `block` hands back is one.
use mathlib.Core.List.{List}
use Prim.Native.Nat.{ℕ, ◌+◌, ◌*◌, ◌≤◌}
use native.Mathlib.Nat.{mul-le-mul, mul-le-mul_right}
use mathlib.Core.Logic.Dec as dec
use native.Mathlib.Decide.{ℕ_discrete, dec_le, map_dec}
use native.Mathlib.Omega.{arith}
use lib.IntN.{ℤ}
use lib.ListN.{length}
use denote.Ref.{Bor}
use Rattle.tables.specs.Views.{Same}
use Rattle.tables.proofs.Buffers.Places.{next_row, square_small}
use Rattle.tables.proofs.Checking.Views.{view_unique}
use Rattle.numbers.proofs.Answers.Decisions.{order?}
use Rattle.lifting.specs.Views.{HasBlock, BlockGives}

pub size_small : {n s : ℕ} → n ≤ 32 → s ≤ 4 → (n * n ≤ 1024) × ((2 * s + 2) * (n * n) ≤ 10240)
size_small {n} {s} h l = let b : 2 * s + 2 ≤ 10 = omega arith in (square_small h, mul-le-mul b (square_small h))

-- the block ends in the buffer
pub block_fits : {n s size j : ℕ} → HasBlock n s size j → (j * (n * n) + n * n ≤ size) × (size ≤ 10240)
block_fits {n} {s} {size} {j} h =
    let i = h.inside in
    let a : j + 1 ≤ 2 * s + 2 = omega arith in
    let b = mul-le-mul_right (n * n) a in
    omega (arith, next_row j (n * n), size_small h.order.upto h.lifts, h.whole)

block? : (n s size j : ℕ) → Dec (HasBlock n s size j)
block? n s size j =
    map_dec (λ h. record { order = h.0; lifts = h.1.0; whole = h.1.1.0; inside = h.1.1.1 }) (λ b. (b.order, (b.lifts, (b.whole, b.inside))))
    (dec.and (order? n) (dec.and (dec_le s 4) (dec.and (ℕ_discrete size ((2 * s + 2) * (n * n))) (dec_le j (2 * s + 1)))))

pub block_unique : {n s j : ℕ} {t r u : Bor (List ℤ)} → BlockGives n s t j r → BlockGives n s t j u → Same r u
block_unique {n} {s} {j} {t} = view_unique (block? n s (length t.now) j)
