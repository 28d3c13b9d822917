-- Linear lifting, a rule of its own beside `IsResidue`: a table F is lifted digit by digit, and X is used once for each digit. lift writes no such residues, and
-- no contract names them: the verdict follows their first column, and theorems say what that tells.
--   IsLinear n X A B F m R   R is the residue after X was used m times: at first it is F, and from R to the next the digit is Rem(B·R). B is meant to be B_0
--                            (IsStart says so); for F = I the first digit is then B_0 itself, and the residue after it R_0
use Rattle.std.specs.Prelude.{ℕ, suc}
use Rattle.tables.specs.Tables.{Matrix, ◌≈⟨◌⟩◌}
use Rattle.lifting.specs.Lifting.{IsDigit}

pub data IsLinear (n X : ℕ) (A B F : Matrix) : ℕ → Matrix → Type 0 where
  unused : {R : Matrix} → R ≈⟨ n ⟩ F → IsLinear n X A B F 0 R
  used : {m : ℕ} {R D T : Matrix} → IsLinear n X A B F m R → IsDigit n X A B R D T → IsLinear n X A B F (suc m) T
