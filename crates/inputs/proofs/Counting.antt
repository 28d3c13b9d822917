-- So many bytes are a beginning as soon as there are so many.
use Rattle.std.proofs.Common.{ℕ, ◌≤◌, List, length, sym, length-take-le}
use Rattle.inputs.specs.Inputs.{IsPrefixLen}

pub prefix_len_of_le : (n : ℕ) (xs : List ℕ) → n ≤ length xs → IsPrefixLen n xs
prefix_len_of_le n xs h = (h, sym (length-take-le n xs h))
