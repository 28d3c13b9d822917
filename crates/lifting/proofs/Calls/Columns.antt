-- The first column of a digit, kernel by kernel: it needs no other column of the residue.
use mathlib.Core.Path.{sym, ap, ap₂, ◌∙◌}
use mathlib.Core.List.{List}
use Prim.Native.Nat.{ℕ, ◌^◌, ◌≤◌}
use native.Mathlib.Omega.{arith}
use lib.IntN.{ℤ, nat_abs, ◌-ℤ◌, ◌*ℤ◌}
use lib.Signed.{shr_z}
use Rattle.numbers.specs.Remainder.{rem}
use Rattle.numbers.proofs.Algebra.Sum.{sum_cong}
use Rattle.numbers.proofs.Remainders.Remainder.{rem_is, balanced_size}
use Rattle.tables.specs.Tables.{Matrix, ◌·⟨◌⟩◌, block, entries}
use Rattle.kernels.specs.Kernels.{shrunk}
use Rattle.kernels.specs.Columns.{ColumnPut, ToShrink}
use Rattle.tables.proofs.Algebra.Matrix.{≈-trans}
use Rattle.lifting.specs.Steps.{Setting, SameColumn, digit_of, ToColumnDigit, ColumnDigited}
use Rattle.lifting.proofs.Calls.Sizes.{low_entries, setting_some}

-- the first column of a product needs that of the second factor alone
column-· : (n : ℕ) (A P Q : Matrix) → SameColumn n P Q → SameColumn n (A ·⟨ n ⟩ P) (A ·⟨ n ⟩ Q)
column-· n A P Q e i h = sum_cong n (λ k l. ap (λ z. A i k *ℤ z) (e k l))

module _ {n X : ℕ} {A L : List ℤ} {r d : ℕ} (q : ToColumnDigit n X A L r d) where
  setting : Setting n X A
  setting = q.stage.setting

  module _ {L₁ : List ℤ} (p₁ : ColumnPut n (λ i. rem X ((block n L 0 ·⟨ n ⟩ block n L r) i 0)) d L L₁) where
    r₁ : SameColumn n (block n L₁ r) (block n L r)
    r₁ i h = p₁.rest r q.r_d i 0 h setting.lawful.order.from

    pub column_2 : ToShrink n X A L₁ d r
    column_2 = record {
      order = setting.lawful.order;
      from = setting_some setting;
      upto = setting.suits.upto;
      size = setting.lawful.size;
      factor = omega (arith, q.digit, p₁.long);
      target = omega (arith, q.here, p₁.long);
      apart = λ z. q.r_d (sym z);
      low_left = low_entries setting.lawful;
      low_right = λ i h. rw (p₁.there i h) (small ((block n L 0 ·⟨ n ⟩ block n L r) i 0));
      room = λ i h. rw (r₁ i h) (let l = q.low i h in omega arith);
    }
      where
        small : (z : ℤ) → nat_abs (rem X z) ≤ 2 ^ 31
        small z = omega (arith, balanced_size (rem X z) (rem_is X (setting_some setting) z).balanced, setting.suits.upto)

    -- the digit of any table with that column
    d₁ : (R : Matrix) → SameColumn n (block n L r) R → SameColumn n (block n L₁ d) (digit_of n X (block n L 0) R)
    d₁ R same k l = p₁.there k l ∙ ap (rem X) (column-· n (block n L 0) (block n L r) R same k l)

    pub column_done : {L₂ : List ℤ} → ColumnPut n (λ i. shrunk n X A L₁ d r i 0) r L₁ L₂ → ColumnDigited n X A L L₂ r d
    column_done p₂ = record {
      long = p₂.long ∙ p₁.long;
      digit = λ R same i h. p₂.rest d (λ z. q.r_d (sym z)) i 0 h setting.lawful.order.from ∙ d₁ R same i h;
      step = λ R same i h. p₂.there i h
          ∙ ap₂ (λ x y. shr_z (x -ℤ y) X) (r₁ i h ∙ same i h) (column-· n (entries n A) (block n L₁ d) (digit_of n X (block n L 0) R) (d₁ R same) i h);
      rest = λ b bd br. ≈-trans (p₂.rest b br) (p₁.rest b bd);
    }
