-- While the first w columns of block o are filled row by row: what is written, and what is as it was.
use mathlib.Core.Path.{◌≡◌, refl, sym, ap, subst, ◌∙◌}
use mathlib.Core.Logic.{◌≢◌, inl, inr}
use mathlib.Core.List.{List}
use Prim.Native.Nat.{ℕ, ◌+◌, ◌*◌, ◌/◌, ◌%◌, ◌≤◌, ◌<◌}
use native.Mathlib.Nat.{mul-le-mul_right}
use native.Mathlib.Omega.{arith}
use borrow.Author.Count.{below_more}
use lib.Arith.{digits_lt, digits_div, digits_mod}
use lib.IntN.{ℤ, pos}
use lib.ListN.{length, get_or, set, length-set}
use lib.Seq.{get_or-set_same, get_or-set_other}
use Rattle.tables.specs.Tables.{Matrix, ◌≈⟨◌⟩◌, block}
use Rattle.tables.proofs.Buffers.Places.{beside, next_row, row_end, wrote_rest}
use Rattle.tables.specs.Buffer.{Wrote, BlockPut, RowPut}
use Rattle.kernels.specs.Columns.{ColumnPut}
use Rattle.kernels.specs.Entries.{Reached, Filled}

-- the rows before i, and the entries of row i before j
pub record Filling (n w : ℕ) (R : ℕ → ℕ → ℤ → Type 0) (o i j : ℕ) (old new : List ℤ) : Type 0 where
  pub long : length new ≡ length old
  pub rows : (r : ℕ) → r < i → (c : ℕ) → c < w → R r c (block n new o r c)
  pub row : (c : ℕ) → c < j → R i c (block n new o i c)
  pub left : (r c : ℕ) → i < r → c < n → block n new o r c ≡ block n old o r c
  pub here : (c : ℕ) → j ≤ c → c < n → block n new o i c ≡ block n old o i c
  pub rest : (b : ℕ) → b ≢ o → block n new b ≈⟨ n ⟩ block n old b

pub filling_none : {n w o : ℕ} {R : ℕ → ℕ → ℤ → Type 0} {L : List ℤ} → Filling n w R o 0 0 L L
filling_none = record {
  long = refl;
  rows = λ r h c k. absurd (omega arith);
  row = λ c h. absurd (omega arith);
  left = λ r c h k. refl;
  here = λ c h k. refl;
  rest = λ b e i j h k. refl;
}

pub filling_row : {n w o i j : ℕ} {R : ℕ → ℕ → ℤ → Type 0} {L K : List ℤ} → w ≤ n → w ≤ j → Filling n w R o i j L K → Filling n w R o (i + 1) 0 L K
filling_row {n} {w} {o} {i} {R = R} {K = K} l m q = record {
  long = q.long;
  rows = below_more (λ (r : ℕ). (c : ℕ) → c < w → R r c (block n K o r c)) i q.rows (λ c k. q.row c (omega arith));
  row = λ c h. absurd (omega arith);
  left = λ r c h k. q.left r c (omega arith) k;
  here = λ c h k. q.left (i + 1) c (omega arith) k;
  rest = q.rest;
}

-- a place of a block tells row and column
apart : (n r c i j : ℕ) → c < n → j < n → r * n + c ≡ i * n + j → (r ≡ i) × (c ≡ j)
apart n r c i j a b e =
    (sym (digits_div r a) ∙ ap (λ (m : ℕ). m / n) e ∙ digits_div i b, sym (digits_mod r a) ∙ ap (λ (m : ℕ). m % n) e ∙ digits_mod i b)

pub filling_more : {n w o i j : ℕ} {R : ℕ → ℕ → ℤ → Type 0} {L K : List ℤ} (v : ℤ) → i < n → j < w → w ≤ n → o * (n * n) + n * n ≤ length L → R i j v → Filling n w R o i j L K → Filling n w R o i (j + 1) L (set K (o * (n * n) + i * n + j) v)
filling_more {n} {w} {o} {i} {j} {R} {L} {K} v h k l room e q = record {
  long = length-set K (o * (n * n) + i * n + j) v ∙ q.long;
  rows = λ r a c b. subst (R r c) (sym (other r c (omega arith) (λ z. omega (arith, z.0)))) (q.rows r a c b);
  row = below_more (λ (c : ℕ). R i c (block n (set K (o * (n * n) + i * n + j) v) o i c)) j
      (λ c a. subst (R i c) (sym (other i c (omega arith) (λ z. omega (arith, z.1)))) (q.row c a))
      (subst (R i j) (sym here) e);
  left = λ r c a b. other r c b (λ z. omega (arith, z.0)) ∙ q.left r c a b;
  here = λ c a b. other i c b (λ z. omega (arith, z.1)) ∙ q.here c (omega arith) b;
  rest = λ b ne r c a d. get_or-set_other K (o * (n * n) + i * n + j) (b * (n * n) + (r * n + c)) v (pos 0) (outside b ne r c a d) ∙ q.rest b ne r c a d;
}
  where
    inside : j < w → w ≤ n → j < n
    inside a b = omega arith

    here : block n (set K (o * (n * n) + i * n + j) v) o i j ≡ v
    here =
        let p : o * (n * n) + (i * n + j) ≡ o * (n * n) + i * n + j = omega arith in
        ap (λ (m : ℕ). get_or (set K (o * (n * n) + i * n + j) v) m (pos 0)) p
        ∙ get_or-set_same K (o * (n * n) + i * n + j) v (pos 0) (let d = digits_lt h (inside k l) in omega (arith, q.long))

    other : (r c : ℕ) → c < n → ((r ≡ i) × (c ≡ j) → ⊥) → block n (set K (o * (n * n) + i * n + j) v) o r c ≡ block n K o r c
    other r c a ne = get_or-set_other K (o * (n * n) + i * n + j) (o * (n * n) + (r * n + c)) v (pos 0) (λ z. ne (apart n r c i j a (omega arith) (omega arith)))

    outside : (b : ℕ) → b ≢ o → (r c : ℕ) → r < n → c < n → b * (n * n) + (r * n + c) ≢ o * (n * n) + i * n + j
    outside b ne r c a d z = elim (beside b o (n * n) ne) [
      | inl g ↦ omega (arith, digits_lt a d)
      | inr g ↦ let d' : i * n + j < n * n = digits_lt h (inside k l) in omega (arith, digits_lt a d)
    ]

pub reached : {n w o i j : ℕ} {R : ℕ → ℕ → ℤ → Type 0} {L K : List ℤ} → j < n → Filling n w R o i j L K → Reached n o i j L K
reached h q = record { long = q.long; here = q.here _ (omega arith) h; rest = q.rest }

pub filled : {n w o i : ℕ} {R : ℕ → ℕ → ℤ → Type 0} {L K : List ℤ} → n ≤ i → Filling n w R o i 0 L K → Filled n w R o L K
filled l q = record { long = q.long; there = λ i j h k. q.rows i (omega arith) j k; rest = q.rest }

-- a row that is written whole
pub filling_put : {n o i : ℕ} {R : ℕ → ℕ → ℤ → Type 0} {G : Matrix} {L K M : List ℤ} → i < n → Filling n n R o i 0 L K → RowPut n G o i K M → ((j : ℕ) → j < n → R i j (G i j)) → Filling n n R o (i + 1) 0 L M
filling_put {n} {o} {i} {R} {G} {L} {K} {M} h q p e = record {
  long = p.wrote.long ∙ q.long;
  rows = below_more (λ (r : ℕ). (c : ℕ) → c < n → R r c (block n M o r c)) i
      (λ r a c b. subst (R r c) (sym (p.wrote.before _ (less r c a b))) (q.rows r a c b))
      (λ c b. subst (R i c) (sym (here c ∙ p.wrote.inside c b)) (e c b));
  row = λ c a. absurd (omega arith);
  left = λ r c a b. p.wrote.after _ (more r c (omega arith)) ∙ q.left r c (omega arith) b;
  here = λ c a b. p.wrote.after _ (more (i + 1) c (omega arith)) ∙ q.left (i + 1) c (omega arith) b;
  rest = λ b ne r c x y. wrote_rest n o (omega arith) (omega (arith, row_end h)) p.wrote b ne r c x y ∙ q.rest b ne r c x y;
}
  where
    less : (r c : ℕ) → r < i → c < n → o * (n * n) + (r * n + c) < o * (n * n) + i * n
    less r c a b = let l : r + 1 ≤ i = omega arith in omega (arith, mul-le-mul_right n l, next_row r n)

    more : (r c : ℕ) → i < r → o * (n * n) + i * n + n ≤ o * (n * n) + (r * n + c)
    more r c a = let l : i + 1 ≤ r = omega arith in omega (arith, mul-le-mul_right n l, next_row i n)

    here : (c : ℕ) → block n M o i c ≡ get_or M (o * (n * n) + i * n + c) (pos 0)
    here c = let z : o * (n * n) + (i * n + c) ≡ o * (n * n) + i * n + c = omega arith in ap (λ (m : ℕ). get_or M m (pos 0)) z

-- a whole block, and its first column alone
pub block_put : {n o : ℕ} {R : ℕ → ℕ → ℤ → Type 0} {F : Matrix} {L K : List ℤ} → Filled n n R o L K → ((i j : ℕ) (v : ℤ) → i < n → j < n → R i j v → v ≡ F i j) → BlockPut n F o L K
block_put w e = record { long = w.long; there = λ i j h k. e i j _ h k (w.there i j h k); rest = w.rest }

pub column_put : {n o : ℕ} {R : ℕ → ℕ → ℤ → Type 0} {f : ℕ → ℤ} {L K : List ℤ} → Filled n 1 R o L K → ((i : ℕ) (v : ℤ) → i < n → R i 0 v → v ≡ f i) → ColumnPut n f o L K
column_put w e = record { long = w.long; there = λ i h. e i _ h (w.there i 0 h (omega arith)); rest = w.rest }

-- the entry after those of its row that are written is as it was
pub row_reads : (n o i : ℕ) {j : ℕ} {f : ℕ → ℤ} {L K : List ℤ} → Wrote (pos 0) f (o * (n * n) + i * n) j L K → get_or K (o * (n * n) + i * n + j) (pos 0) ≡ block n L o i j
row_reads n o i {j} {L = L} w =
    let e : o * (n * n) + i * n + j ≡ o * (n * n) + (i * n + j) = omega arith in
    w.after _ (omega arith) ∙ ap (λ (k : ℕ). get_or L k (pos 0)) e
