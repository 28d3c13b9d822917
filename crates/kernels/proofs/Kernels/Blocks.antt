-- What the kernels of blocks need and give at each place: bounds, sums of products, a division, a reduction, an extension.
use mathlib.Core.Logic.{◌≢◌}
use mathlib.Core.Path.{◌≡◌, refl, sym, ap, ap₂, ◌∙◌, subst}
use mathlib.Core.List.{List}
use Prim.Native.Nat.{ℕ, ◌+◌, ◌*◌, ◌^◌, ◌≤◌, ◌<◌}
use native.Mathlib.Nat.{mul-le-mul, mul-le-mul_right, suc-mul, lt_of_le_of_lt}
use native.Mathlib.Omega.{arith}
use lib.IntN.{ℤ, pos, nat_abs, ◌+ℤ◌, ◌-ℤ◌, ◌*ℤ◌}
use lib.ListN.{get_or}
use lib.Signed.{shr_z, mag, mag_shr}
use mir.Syntax.{w64}
use mir.Val.{SFits}
use Rattle.std.proofs.lemmas.Int.{ints, fits_signed_from_abs, unsigned_abs-mul}
use Rattle.numbers.proofs.Algebra.IntOrder.{*ℤ-bound, nat_abs_sub}
use Rattle.numbers.proofs.Machine.{rd, rd_is, rd_ok, rd_got}
use Rattle.numbers.specs.Numbers.{IsRem}
use Rattle.numbers.specs.Remainder.{rem}
use Rattle.numbers.proofs.Remainders.Remainder.{rem_is, rem_unique}
use Rattle.numbers.proofs.Algebra.Sum.{sum, sum_one, sum_bound}
use Rattle.tables.specs.Tables.{Matrix, ◌≈⟨◌⟩◌, ◌·⟨◌⟩◌, block, entries, table_at}
use Rattle.tables.specs.Buffer.{Low, Has}
use Rattle.kernels.specs.Kernels.{Exact, ExactAt, Dot, Product, shrunk, Shrink, ShrinkAt, Balance}
use Rattle.tables.proofs.Algebra.Matrix.{≈-sym, ·-cong, ·-bound}
use Rattle.tables.proofs.Buffers.Bounds.{low-≈}
use Rattle.kernels.specs.Entries.{Reached}

-- ---- bounds

pub exact-≈ : {n : ℕ} {A B C D : Matrix} → A ≈⟨ n ⟩ C → B ≈⟨ n ⟩ D → Exact n A B → Exact n C D
exact-≈ e f x = record { c = x.c; d = x.d; left = low-≈ e x.left; right = low-≈ f x.right; room = x.room }

pub exact_at : {n : ℕ} {A B : Matrix} {i j : ℕ} → Exact n A B → i < n → j < n → ExactAt n A B i j
exact_at {i = i} {j = j} x h k = record { c = x.c; d = x.d; left = λ l m. x.left.low i l h m; right = λ l m. x.right.low l j m k; room = x.room }

-- a sum that gains a product, where their magnitudes leave room: both fit, and are read back as they are
module _ (s x y : ℤ) (room : nat_abs s + nat_abs x * nat_abs y < 2 ^ 63) where
  gain_fits : SFits w64 (x *ℤ y)
  gain_fits = fits_signed_from_abs w64 (x *ℤ y) (omega (arith, room, unsigned_abs-mul x y))

  gained_fits : SFits w64 (s +ℤ x *ℤ y)
  gained_fits = fits_signed_from_abs w64 (s +ℤ x *ℤ y) (omega (arith, ints, room, unsigned_abs-mul x y))

  gain_reads : rd (s +ℤ rd (x *ℤ y)) ≡ s +ℤ x *ℤ y
  gain_reads = rw (rd_is gain_fits) (rd_is gained_fits)

-- a part of the sum, and one product more
module _ {n : ℕ} {A : List ℤ} {p : ℕ} {B : List ℤ} {q i j : ℕ} (r : Dot n A p B q i j) (k : ℕ) (h : k < n) where
  abbrev so_far : ℤ
  so_far = sum k (λ l. table_at n A p i l *ℤ table_at n B q l j)

  dot_room : nat_abs so_far + nat_abs (table_at n A p i k) * nat_abs (table_at n B q k j) < 2 ^ 63
  dot_room =
      let x = r.exact in
      let c : ℕ = x.c in
      let d : ℕ = x.d in
      let s : nat_abs so_far ≤ k * (c * d) =
      sum_bound k (λ l. table_at n A p i l *ℤ table_at n B q l j) (c * d)
      (λ l m. *ℤ-bound (table_at n A p i l) (table_at n B q l j) (x.left l (below l m)) (x.right l (below l m))) in
      let t : nat_abs (table_at n A p i k) * nat_abs (table_at n B q k j) ≤ c * d = mul-le-mul (x.left k h) (x.right k h) in
      omega (arith, x.room, suc-mul k (c * d), mul-le-mul_right (c * d) h)
    where
      below : (l : ℕ) → l < k → l < n
      below l a = omega arith

  pub dot_gain_fits : SFits w64 (table_at n A p i k *ℤ table_at n B q k j)
  dot_gain_fits = gain_fits so_far (table_at n A p i k) (table_at n B q k j) dot_room

  pub dot_gained_fits : SFits w64 (so_far +ℤ table_at n A p i k *ℤ table_at n B q k j)
  dot_gained_fits = gained_fits so_far (table_at n A p i k) (table_at n B q k j) dot_room

  pub dot_more : rd (so_far +ℤ rd (table_at n A p i k *ℤ table_at n B q k j)) ≡ sum (k + 1) (λ l. table_at n A p i l *ℤ table_at n B q l j)
  dot_more = gain_reads so_far (table_at n A p i k) (table_at n B q k j) dot_room ∙ sym (sum_one k (λ l. table_at n A p i l *ℤ table_at n B q l j))

pub product_same : {n : ℕ} {L K : List ℤ} {p q o i j : ℕ} → Product n L p q o → Reached n o i j L K → block n K p ·⟨ n ⟩ block n K q ≈⟨ n ⟩ block n L p ·⟨ n ⟩ block n L q
product_same {n} m w = ·-cong n (w.rest _ m.apart) (w.rest _ m.apart')

pub at_zero : (n : ℕ) (A : List ℤ) → table_at n A 0 ≈⟨ n ⟩ entries n A
at_zero n A i j h k = let e : 0 + (i * n + j) ≡ i * n + j = omega arith in ap (λ (m : ℕ). get_or A m (pos 0)) e

-- ---- a division, where its entry is reached: the factor is as it was, and so is what stands there

-- what is subtracted
pub shrink_sum : {n : ℕ} (A L K : List ℤ) (m : ℕ) {i j : ℕ} → block n K m ≈⟨ n ⟩ block n L m → i < n → j < n → (table_at n A 0 ·⟨ n ⟩ block n K m) i j ≡ (entries n A ·⟨ n ⟩ block n L m) i j
shrink_sum {n} A L K m {i} {j} e h k = ·-cong n (at_zero n A) e i j h k

pub shrink_same : (X : ℕ) (A : List ℤ) {n : ℕ} {L K : List ℤ} {m s i j : ℕ} → m ≢ s → Reached n s i j L K → i < n → j < n → shrunk n X A K m s i j ≡ shrunk n X A L m s i j
shrink_same X A {L = L} {K = K} {m = m} apart w h k = ap₂ (λ x y. shr_z (x -ℤ y) X) w.here (sym (shrink_sum A K K m (λ i j a b. refl) h k) ∙ shrink_sum A L K m (w.rest m apart) h k)

-- and then the entry can be given: by the bounds of the whole tables, or by those of a row and a column
pub shrink_asks : {n X : ℕ} {A L K : List ℤ} {m s i j : ℕ} → Dot n A 0 K (m * (n * n)) i j → X ≤ 2 ^ 32 → Has n L s → m ≢ s → Reached n s i j L K
    → nat_abs (block n L s i j) ≤ 2 ^ 62 → nat_abs ((entries n A ·⟨ n ⟩ block n L m) i j) < 2 ^ 62 → ShrinkAt n X A K m s i j
shrink_asks {n} {X} {A} {L} {K} {m} {s} {i} {j} d l t apart w low high =
    let e = sym (shrink_sum A K K m (λ i j a b. refl) d.row d.column) ∙ shrink_sum A L K m (w.rest m apart) d.row d.column in
    record {
      dot = d;
      upto = l;
      target = omega (arith, t, w.long);
      room = rw (w.here, e) (omega (arith, nat_abs_sub (block n L s i j) ((entries n A ·⟨ n ⟩ block n L m) i j)));
    }

pub shrink_at : {n X : ℕ} {A L K : List ℤ} {m s i j : ℕ} → Shrink n X A L m s → Low n (2 ^ 62) (block n L s) → Reached n s i j L K → i < n → j < n → ShrinkAt n X A K m s i j
shrink_at {n} {A = A} {L = L} {m = m} {i = i} {j = j} r low w h k =
    let x = r.exact in
    shrink_asks
    (record {
      order = r.order;
      left = omega (arith, r.size);
      right = omega (arith, r.factor, w.long);
      row = h;
      column = k;
      exact = exact_at (exact-≈ (≈-sym (at_zero n A)) (≈-sym (w.rest m r.apart)) r.exact) h k;
    })
    r.upto r.target r.apart w (low.low i j h k)
    (omega (arith, x.room, ·-bound n (entries n A) (block n L m) {a = x.c} {b = x.d} x.left.low x.right.low i j h k))

-- the entry, of what the machine reads
pub shrunk_gives : {n X : ℕ} {A L : List ℤ} {m s i j : ℕ} {x y : ℤ} → ShrinkAt n X A L m s i j → mag x < 2 ^ 63 → x ≡ block n L s i j → mag y < 2 ^ 63 → y ≡ (table_at n A 0 ·⟨ n ⟩ block n L m) i j
    → rd (shr_z (rd (rd x -ℤ rd y)) X) ≡ shrunk n X A L m s i j
shrunk_gives {n} {X} {A} {L} {m} {s} {i} {j} {x} {y} r f p g q =
    let a = rd_got x f p in
    let b = rd_got y g (q ∙ shrink_sum A L L m (λ i j b d. refl) r.dot.row r.dot.column) in
    let z : SFits w64 (block n L s i j -ℤ (entries n A ·⟨ n ⟩ block n L m) i j) = fits_signed_from_abs w64 _ r.room in
    rw (a, b, rd_is z) (rd_ok (shrunk n X A L m s i j) (lt_of_le_of_lt (mag_shr _ X) z.sfits))

-- ---- a reduction

pub balance_room : {n X : ℕ} {L K : List ℤ} {o i j : ℕ} (z : ℤ) → Balance n X L o → Reached n o i j L K → i < n → j < n → mag z < 2 ^ 63 → z ≡ block n K o i j → nat_abs (rd z) + 2 ^ 40 < 2 ^ 63
balance_room z r w h k t e = let x = rd_got z t (e ∙ w.here) in rw x (omega (arith, r.room.low _ _ h k))

pub balance_gives : {X : ℕ} {v r : ℤ} (z : ℤ) → 0 < X → mag z < 2 ^ 63 → z ≡ v → IsRem X (rd z) r → r ≡ rem X v
balance_gives {X} {v} {r} z p t e m = rem_unique (subst (λ (y : ℤ). IsRem X y r) (rd_got z t e) m) (rem_is X p v)

-- ---- an extension

pub extend_gives : {x y z a b d v : ℤ} → mag x < 2 ^ 63 → mag y < 2 ^ 63 → mag z < 2 ^ 63 → x ≡ a → y ≡ b → z ≡ d → nat_abs a + nat_abs b * nat_abs d < 2 ^ 63
    → v ≡ rd (rd x +ℤ rd (rd y *ℤ rd z)) → v ≡ a +ℤ b *ℤ d
extend_gives {x} {y} {z} {a} {b} {d} f g h p q r room e = (simp (rd_got x f p, rd_got y g q, rd_got z h r) at e) ∙ gain_reads a b d room
