-- What is read of an input into a buffer.
--   IsPrefixLen n xs   xs has n elements, at least: so its first n are n (this follows, and spares every caller of `&xs[..n]` a proof)
use Rattle.std.specs.Prelude.{◌≡◌, List, ℕ, ◌≤◌, length, take}

abbrev pub IsPrefixLen : ℕ → List ℕ → Type 0
IsPrefixLen n xs = (n ≤ length xs) × (n ≡ length (take n xs))
