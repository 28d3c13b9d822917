-- Bytes put into a buffer.
--   fitting old at w     the bytes of w that find room in the buffer old from the place at on
--   Put old at w r new   these stand in new from the place at on, all else is as in old, and r is the place after them
use Rattle.std.specs.Prelude.{◌≡◌, List, ◌++◌, ℕ, ◌+◌, ◌-◌, length, take, drop}

abbrev pub fitting : List ℕ → ℕ → List ℕ → List ℕ
fitting old at w = take (length old - at) w

pub record Put (old : List ℕ) (at : ℕ) (w : List ℕ) (r : ℕ) (new : List ℕ) : Type 0 where
  pub next : r ≡ at + length (fitting old at w)
  pub text : new ≡ take at old ++ fitting old at w ++ drop r old
