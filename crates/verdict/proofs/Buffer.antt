-- The buffer of 4,096 numbers that verdict and inverse work in: it holds four blocks of any order.
use mathlib.Core.Path.{◌≡◌}
use Prim.Native.Nat.{ℕ, ◌+◌, ◌*◌, ◌≤◌}
use native.Mathlib.Nat.{mul-le-mul_right}
use native.Mathlib.Omega.{arith}
use Rattle.tables.proofs.Buffers.Places.{square_small}

pub in_buffer : {n N : ℕ} (b : ℕ) → n ≤ 32 → b ≤ 3 → N ≡ 4096 → b * (n * n) + n * n ≤ N
in_buffer {n} b h k e = omega (arith, square_small h, mul-le-mul_right (n * n) k)
