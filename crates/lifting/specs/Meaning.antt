-- Document 01's words for what an expansion stands for. No contract names them, only theorems (proofs/Expansion.antt).
--   modulus X i      X_i: X_0 = X and X_{i+1} = X_i²·X
--   next n x B R M   B·(I + x·R) + x²·M: where B is B_i and x is X_i, B_{i+1}
--   lifted n X L i   B_i of the expansion L
use Rattle.std.specs.Prelude.{List, ℕ, zero, suc, ◌+◌, ◌*◌, ℤ, pos, ◌*ℤ◌}
use Rattle.numbers.specs.Numbers.{δ}
use Rattle.tables.specs.Tables.{Matrix, ◌⊞◌, ◌⊙◌, ◌·⟨◌⟩◌, block}

unfoldable pub modulus : ℕ → ℕ → ℕ
modulus X zero = X
modulus X (suc i) = modulus X i * modulus X i * X

abbrev pub next : ℕ → ℤ → Matrix → Matrix → Matrix → Matrix
next n x B R M = B ·⟨ n ⟩ (δ ⊞ x ⊙ R) ⊞ (x *ℤ x) ⊙ M

unfoldable pub lifted : ℕ → ℕ → List ℤ → ℕ → Matrix
lifted n X L zero = block n L 0
lifted n X L (suc i) = next n (pos (modulus X i)) (lifted n X L i) (block n L (2 * i + 1)) (block n L (2 * i + 2))
