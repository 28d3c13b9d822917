-- A digit, a step and the start, kernel by kernel: what each kernel is asked, and what they leave together.
use mathlib.Core.Path.{sym, ap, ◌∙◌}
use mathlib.Core.Logic.{◌≢◌}
use mathlib.Core.List.{List}
use Prim.Native.Nat.{ℕ, ◌^◌, ◌<◌}
use native.Mathlib.Omega.{arith}
use lib.IntN.{ℤ, pos}
use lib.Signed.{shr_z}
use Rattle.numbers.specs.Limits.{IsOrder}
use Rattle.numbers.specs.Numbers.{Cong}
use Rattle.numbers.specs.Remainder.{rem}
use Rattle.numbers.proofs.Remainders.Congruence.{cong_down}
use Rattle.numbers.proofs.Remainders.Remainder.{rem_is}
use Rattle.numbers.proofs.Algebra.Sum.{δ}
use Rattle.tables.specs.Tables.{Matrix, ◌≈⟨◌⟩◌, ◌·⟨◌⟩◌, CongM, block, entries}
use Rattle.tables.specs.Buffer.{Low, Has, BlockPut}
use Rattle.kernels.specs.Kernels.{Shrink, shrunk}
use Rattle.eliminations.specs.Inverting.{Inverted}
use Rattle.tables.proofs.Buffers.Bounds.{low-≈}
use Rattle.tables.proofs.Algebra.Matrix.{≈-refl, ≈-sym, ≈-trans, ·-cong, ·-idʳ, ⊟-cong, cong_m_eq, cong_m_trans}
use Rattle.lifting.specs.Lifting.{IsDigit}
use Rattle.lifting.specs.Steps.{Setting, Stage, ToStep, Stepped, ToDigit, Digited, ToBase, ToStart, Started, rems}
use Rattle.lifting.proofs.Calls.Sizes.{setting_some, low_more, low_rems, low_entries, product_room}
use Rattle.lifting.proofs.Expansions.Bound.{δ_size}
use Rattle.lifting.proofs.Expansions.Rules.{digit_resp, digit_exists, digit_start}

-- an inverse that is kept in block 0
pub stage_resp : {n X : ℕ} {A L K : List ℤ} → block n K 0 ≈⟨ n ⟩ block n L 0 → Stage n X A L → Stage n X A K
stage_resp {n} {X} {A} same s = record {
  setting = s.setting;
  right = cong_m_trans n (pos X) (cong_m_eq n (pos X) (·-cong n (≈-refl n (entries n A)) same)) s.right;
  small = low-≈ (≈-sym same) s.small;
}

-- ---- the division by X

shrink_asks : {n X : ℕ} {A K : List ℤ} {d r : ℕ} → Setting n X A → Has n K d → Has n K r → d ≢ r → Low n (2 ^ 31) (block n K d) → Shrink n X A K d r
shrink_asks s factor target apart low = record {
  order = s.lawful.order;
  from = setting_some s;
  upto = s.suits.upto;
  size = s.lawful.size;
  factor = factor;
  target = target;
  apart = apart;
  exact = record { c = 2 ^ 20; d = 2 ^ 31; left = low_entries s.lawful; right = low; room = omega (arith, s.lawful.order.upto) };
}

-- where D = Rem(B·R) stands in block d and R in block r, the division leaves the next residue in block r
digit_found : (X : ℕ) (A K : List ℤ) (B R : Matrix) {n d r : ℕ} {M : List ℤ} → 0 < X → CongM n (pos X) (entries n A ·⟨ n ⟩ B) δ → r ≢ d
    → block n K d ≈⟨ n ⟩ rems X (B ·⟨ n ⟩ R) → block n K r ≈⟨ n ⟩ R → BlockPut n (shrunk n X A K d r) r K M → IsDigit n X (entries n A) B R (block n M d) (block n M r)
digit_found X A K B R {n} {d} some right apart there same p =
    digit_resp (digit_exists right R (rems X (B ·⟨ n ⟩ R)) (λ i j a b. rem_is X some ((B ·⟨ n ⟩ R) i j)))
    (≈-refl n B) (≈-refl n R) (≈-sym (≈-trans (p.rest d (λ z. apart (sym z))) there))
    (≈-sym (≈-trans p.there (λ i j a b. ap (λ z. shr_z z X) (⊟-cong n same (·-cong n (≈-refl n (entries n A)) there) i j a b))))

-- ---- a digit

module _ {n X : ℕ} {A L : List ℤ} {r d : ℕ} (q : ToDigit n X A L r d) where
  setting : Setting n X A
  setting = q.stage.setting

  module _ {L₁ : List ℤ} (p₁ : BlockPut n (rems X (block n L 0 ·⟨ n ⟩ block n L r)) d L L₁) where
    r₁ : block n L₁ r ≈⟨ n ⟩ block n L r
    r₁ = p₁.rest r q.r_d

    pub digit_2 : Shrink n X A L₁ d r × Low n (2 ^ 62) (block n L₁ r)
    digit_2 = (
      shrink_asks setting (omega (arith, q.digit, p₁.long)) (omega (arith, q.here, p₁.long)) (λ z. q.r_d (sym z)) (low-≈ (≈-sym p₁.there) (low_rems (block n L 0 ·⟨ n ⟩ block n L r) (setting_some setting) setting.suits.upto)),
      low-≈ (≈-sym r₁) q.low,
    )

    pub digit_done : {L₂ : List ℤ} → BlockPut n (shrunk n X A L₁ d r) r L₁ L₂ → Digited n X (entries n A) L L₂ r d
    digit_done p₂ = record {
      long = p₂.long ∙ p₁.long;
      step = digit_found X A L₁ (block n L 0) (block n L r) (setting_some setting) q.stage.right q.r_d p₁.there r₁ p₂;
      rest = λ b bd br. ≈-trans (p₂.rest b br) (p₁.rest b bd);
    }

-- ---- a step: the digit of R²

module _ {n X : ℕ} {A L : List ℤ} {r m s : ℕ} (q : ToStep n X A L r m s) where
  order : IsOrder n
  order = q.stage.setting.lawful.order

  R_low : Low n (2 ^ 31) (block n L r)
  R_low = low_more (omega arith) q.low

  module _ {L₁ : List ℤ} (p₁ : BlockPut n (block n L r ·⟨ n ⟩ block n L r) s L L₁) where
    base₁ : block n L₁ 0 ≈⟨ n ⟩ block n L 0
    base₁ = p₁.rest 0 q.base_s

    pub step_2 : ToDigit n X A L₁ s m
    step_2 = record {
      stage = stage_resp base₁ q.stage;
      here = omega (arith, q.next, p₁.long);
      low = low-≈ (≈-sym p₁.there) (product_room order R_low q.low);
      digit = omega (arith, q.digit, p₁.long);
      r_d = λ z. q.m_s (sym z);
      base_d = q.base_m;
      base_r = q.base_s;
    }

    pub step_done : {L₂ : List ℤ} → Digited n X (entries n A) L₁ L₂ s m → Stepped n X (entries n A) L L₂ r m s
    step_done {L₂} p₂ = record {
      long = p₂.long ∙ p₁.long;
      step = record { digit = digit_resp p₂.step base₁ p₁.there (≈-refl n (block n L₂ m)) (≈-refl n (block n L₂ s)) };
      rest = λ b bm bs. ≈-trans (p₂.rest b bm bs) (p₁.rest b bs);
    }

-- ---- B_0 and R_0, from an inverse modulo X: a digit of I

module _ {n X : ℕ} {A L : List ℤ} (setting : Setting n X A) (q : ToBase n X A L) {L₁ : List ℤ} (p₁ : BlockPut n δ 1 L L₁) where
  c₁ : block n L₁ 0 ≈⟨ n ⟩ block n L 0
  c₁ = p₁.rest 0 (λ z. omega arith)

  module _ {L₂ : List ℤ} (p₂ : BlockPut n (rems X (block n L₁ 0)) 0 L₁ L₂) where
    one₂ : block n L₂ 1 ≈⟨ n ⟩ δ
    one₂ = ≈-trans (p₂.rest 1 (λ z. omega arith)) p₁.there

    pub base_3 : Shrink n X A L₂ 0 1 × Low n (2 ^ 62) (block n L₂ 1)
    base_3 = (
      shrink_asks setting (omega (arith, q.work, p₁.long, p₂.long)) (omega (arith, q.work, p₁.long, p₂.long)) (λ z. omega arith) (low-≈ (≈-sym p₂.there) (low_rems (block n L₁ 0) (setting_some setting) setting.suits.upto)),
      low-≈ (≈-sym one₂) (record { low = λ i j a b. omega (arith, δ_size i j) }),
    )

    pub base_done : {L₃ : List ℤ} → BlockPut n (shrunk n X A L₂ 0 1) 1 L₂ L₃ → Started n X (entries n A) L L₃
    base_done p₃ = record {
      long = p₃.long ∙ p₂.long ∙ p₁.long;
      start = digit_start (digit_found X A L₂ (block n L 0) δ (setting_some setting) q.right (λ z. omega arith) (≈-trans p₂.there (λ i j a b. ap (rem X) (c₁ i j a b ∙ sym (·-idʳ n (block n L 0) i j a b)))) one₂ p₃);
      rest = λ b l. ≈-trans (p₃.rest b (λ z. omega arith)) (≈-trans (p₂.rest b (λ z. omega arith)) (p₁.rest b (λ z. omega arith)));
    }

-- ---- from nothing: an inverse modulo Y is one modulo X, which divides Y

module _ {n p X Y : ℕ} {A L : List ℤ} (q : ToStart n p A L) {L₁ : List ℤ} (p₁ : Inverted n Y (entries n A) 0 L L₁) (divides : Cong (pos X) (pos Y) (pos 0)) where
  pub start_2 : ToBase n X A L₁
  start_2 = record {
    work = omega (arith, q.work, p₁.long);
    right = λ i j a b. cong_down (p₁.right i j a b) divides;
    low = low_more (omega arith) p₁.low;
  }
