-- The vocabulary of inner contracts: moduli.
--   IsModulus X     X is from 2 to 2^32
--   Suits n h X     X suits a table of order n and height h: it is at least 2^14 and 4·n²·h, and at most 2^32
use Rattle.std.specs.Prelude.{ℕ, ◌*◌, ◌^◌, ◌≤◌}

pub record IsModulus (X : ℕ) : Type 0 where
  pub from : 2 ≤ X
  pub upto : X ≤ 2 ^ 32

pub record Suits (n h X : ℕ) : Type 0 where
  pub from : 2 ^ 14 ≤ X
  pub reaches : 4 * (n * n) * h ≤ X
  pub upto : X ≤ 2 ^ 32
