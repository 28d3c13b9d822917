-- What the kernels on the first column of a block ask and give, where its entry is reached.
use mathlib.Core.Path.{◌≡◌}
use mathlib.Core.List.{List}
use Prim.Native.Nat.{ℕ, ◌+◌, ◌*◌, ◌^◌, ◌≤◌, ◌<◌}
use native.Mathlib.Omega.{arith}
use lib.IntN.{ℤ, nat_abs, ◌*ℤ◌}
use lib.Signed.{mag}
use Rattle.numbers.proofs.Machine.{rd, rd_got}
use Rattle.numbers.proofs.Algebra.IntOrder.{*ℤ-bound}
use Rattle.numbers.proofs.Algebra.Sum.{sum_bound}
use Rattle.tables.specs.Tables.{Matrix, ◌·⟨◌⟩◌, block, entries}
use Rattle.kernels.specs.Kernels.{Dot, ShrinkAt}
use Rattle.kernels.specs.Columns.{ToRemain, ToShrink}
use Rattle.kernels.specs.Entries.{Reached}
use Rattle.tables.proofs.Algebra.Matrix.{·-cong}
use Rattle.kernels.proofs.Kernels.Blocks.{at_zero, shrink_asks}

dot_bound : (A B : Matrix) (i j c d n : ℕ) → ((k : ℕ) → k < n → nat_abs (A i k) ≤ c) → ((k : ℕ) → k < n → nat_abs (B k j) ≤ d) → nat_abs ((A ·⟨ n ⟩ B) i j) ≤ n * (c * d)
dot_bound A B i j c d n f g = sum_bound n (λ k. A i k *ℤ B k j) (c * d) (λ k h. *ℤ-bound (A i k) (B k j) (f k h) (g k h))

module _ {n X : ℕ} {L K : List ℤ} {p q o i j : ℕ} (r : ToRemain n X L p q o) (w : Reached n o i j L K) (h : i < n) (k : j < 1) where
  first : j ≡ 0
  first = omega arith

  column : j < n
  column = omega (arith, r.order.from)

  low_right : (l : ℕ) → l < n → nat_abs (block n L q l j) ≤ 2 ^ 25
  low_right l m = rw first (r.low_right l m)

  pub remain_same : (block n K p ·⟨ n ⟩ block n K q) i j ≡ (block n L p ·⟨ n ⟩ block n L q) i j
  remain_same = ·-cong n (w.rest p r.apart) (w.rest q r.apart') i j h column

  pub remain_dot : Dot n K (p * (n * n)) K (q * (n * n)) i j
  remain_dot = record {
    order = r.order;
    left = omega (arith, r.left, w.long);
    right = omega (arith, r.right, w.long);
    row = h;
    column = column;
    exact = record {
      c = 2 ^ 31;
      d = 2 ^ 25;
      left = λ l m. rw (w.rest p r.apart i l h m) (r.low_left.low i l h m);
      right = λ l m. rw (w.rest q r.apart' l j m column) (low_right l m);
      room = omega (arith, r.order.upto);
    };
  }

  pub remain_room : (z : ℤ) → mag z < 2 ^ 63 → z ≡ (block n K p ·⟨ n ⟩ block n K q) i j → nat_abs (rd z) + 2 ^ 40 < 2 ^ 63
  remain_room z t e =
      let x = rd_got z t e in
      rw (x, remain_same) (omega (arith, dot_bound (block n L p) (block n L q) i j (2 ^ 31) (2 ^ 25) n (λ l m. r.low_left.low i l h m) low_right, r.order.upto))

pub shrink_at : {n X : ℕ} {A L K : List ℤ} {m s i j : ℕ} → ToShrink n X A L m s → Reached n s i j L K → i < n → j < 1 → ShrinkAt n X A K m s i j
shrink_at {n} {X} {A} {L} {K} {m} {s} {i} {j} r w h k =
    let first : j ≡ 0 = omega arith in
    let column : j < n = omega (arith, r.order.from) in
    let low_right : (l : ℕ) → l < n → nat_abs (block n L m l j) ≤ 2 ^ 31 = λ l a. rw first (r.low_right l a) in
    shrink_asks
    (record {
      order = r.order;
      left = omega (arith, r.size);
      right = omega (arith, r.factor, w.long);
      row = h;
      column = column;
      exact = record {
        c = 2 ^ 20;
        d = 2 ^ 31;
        left = λ l a. rw (at_zero n A i l h a) (r.low_left.low i l h a);
        right = λ l a. rw (w.rest m r.apart l j a column) (low_right l a);
        room = omega (arith, r.order.upto);
      };
    })
    r.upto r.target r.apart w (rw first (r.room i h))
    (omega (arith, dot_bound (entries n A) (block n L m) i j (2 ^ 20) (2 ^ 31) n (λ l a. r.low_left.low i l h a) low_right, r.order.upto))
