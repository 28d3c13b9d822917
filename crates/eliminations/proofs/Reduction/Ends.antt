-- The start and the end of the elimination on residues: the rows of a table with those of the identity behind them, and the solution in a block.
use mathlib.Core.Path.{◌≡◌, refl, sym, ap, ap₂, subst, ◌∙◌}
use mathlib.Core.List.{List, []}
use Prim.Native.Nat.{ℕ, zero, suc, ◌+◌, ◌*◌, ◌/◌, ◌%◌, ◌^◌, ◌≤◌, ◌<◌}
use native.Mathlib.Nat.{zero-add}
use native.Mathlib.Decide.{ℕ_discrete}
use native.Mathlib.Omega.{arith}
use borrow.Author.Count.{below_more}
use borrow.Rule.Slice.PartMut.{put_mid}
use lib.Arith.{digits_div, digits_mod}
use lib.IntN.{ℤ, pos}
use lib.ListN.{length, get_or, set, take, drop, replicate}
use lib.Seq.{get_or-set_same, get_or-set_other, set-set}
use Rattle.numbers.specs.Remainder.{residue}
use Rattle.numbers.proofs.Algebra.Sum.{δ, δ_same, δ_other, δ_comm}
use Rattle.numbers.proofs.Remainders.Congruence.{Cong, cong_of_eq, cong_trans}
use Rattle.numbers.proofs.Remainders.Division.{residue_cong}
use Rattle.tables.specs.Tables.{Matrix, ◌≈⟨◌⟩◌, ◌·⟨◌⟩◌, ◌ᵀ, CongM, entries}
use Rattle.tables.specs.Buffer.{BlockPut, Wrote}
use Rattle.eliminations.specs.Elimination.{Going}
use Rattle.eliminations.specs.Inverting.{front, back, Inverted, Zeros, Begun}
use Rattle.tables.proofs.Algebra.Matrix.{cong_m_eq, cong_m_refl, cong_m_trans, cong_m-·, ≈-sym}
use Rattle.tables.proofs.Buffers.Wrote.{wrote_join, wrote_part, get_or_part, part_long}
use Rattle.tables.proofs.Buffers.Places.{next_row, row_end, put_of}
use Rattle.tables.proofs.Buffers.Bounds.{low-≈}
use Rattle.eliminations.proofs.Reduction.Stages.{going_first}

-- ---- the rows, one by one

-- the first k rows are as they should be, and the others are 0
pub record Loading (X n k : ℕ) (A : Matrix) (t : List (List ℕ)) : Type 0 where
  pub table : (i : ℕ) → i < k → (j : ℕ) → j < n → Cong (pos X) (front t i j) (A i j)
  pub unit : (i : ℕ) → i < k → (j : ℕ) → j < n → back n t i j ≡ δ i j
  pub left : (i j : ℕ) → k ≤ i → get_or (get_or t i []) j 0 ≡ 0

pub loading_none : {X n : ℕ} {A : Matrix} {t : List (List ℕ)} → Zeros t → Loading X n 0 A t
loading_none z = record { table = λ i h. absurd (omega arith); unit = λ i h. absurd (omega arith); left = λ i j h. z i j }

pub loading_all : {X n k : ℕ} {A : Matrix} {t : List (List ℕ)} → k ≡ n → Loading X n k A t → Begun X n A t
loading_all e q = record { table = λ i j hi hj. q.table i (omega arith) j hj; unit = λ i j hi hj. q.unit i (omega arith) j hj }

-- where the elimination starts
pub begun : {X n : ℕ} {A : Matrix} {t : List (List ℕ)} → Begun X n A t → Going n X 0 (A ᵀ) (back n t ᵀ) (front t ᵀ)
begun {X} q = going_first (cong_m_eq _ (pos X) (λ i j hi hj. q.unit j i hj hi ∙ δ_comm j i)) (λ i j hi hj. q.table j i hj hi)

-- what `load` does to row k: the residues of row k of a are taken to its front, and a one is set
pub loading_more : {X n k m : ℕ} {t : List (List ℕ)} {v : List ℕ} → 0 < X → k < length t → k < n → 2 * n ≤ length (get_or t k []) → (a : List ℤ) → k * n + n ≤ length a → m ≡ n
    → Wrote 0 (λ j. residue X (get_or (take m (drop (k * n) a)) j (pos 0))) 0 (length (take m (drop (k * n) a))) (get_or t k []) v
    → Loading X n k (entries n a) t → Loading X n (k + 1) (entries n a) (set t k (set v (n + k) 1))
loading_more {X} {n} {k} {m} {t} {v} some l hk wide a size em w q = record {
  table = below_more (λ (i : ℕ). (j : ℕ) → j < n → Cong (pos X) (front t' i j) (entries n a i j)) k
      (λ i h j g. cong_trans (cong_of_eq (pos X) (ap (λ (row : List ℕ). pos (get_or row j 0)) (get_or-set_other t k i u [] (λ e. omega arith)))) (q.table i h j g))
      (λ j g. cong_trans (cong_of_eq (pos X) (ap (λ (row : List ℕ). pos (get_or row j 0)) (get_or-set_same t k u [] l) ∙ ap pos (get_or-set_other v (n + k) j 1 0 (λ e. omega arith) ∙ ap (λ (i : ℕ). get_or v i 0) (sym (zero-add j)) ∙ w.inside j (omega (arith, taken)))))
      (cong_trans (residue_cong X some (get_or (take m (drop (k * n) a)) j (pos 0))) (cong_of_eq (pos X) (get_or_part (k * n) m a j (pos 0) (omega arith)))));
  unit = below_more (λ (i : ℕ). (j : ℕ) → j < n → back n t' i j ≡ δ i j) k
      (λ i h j g. ap (λ (row : List ℕ). pos (get_or row (n + j) 0)) (get_or-set_other t k i u [] (λ e. omega arith)) ∙ q.unit i h j g)
      (λ j g. ap (λ (row : List ℕ). pos (get_or row (n + j) 0)) (get_or-set_same t k u [] l) ∙ behind j g (ℕ_discrete j k));
  left = λ i j h. ap (λ (row : List ℕ). get_or row j 0) (get_or-set_other t k i u [] (λ e. omega arith)) ∙ q.left i j (omega arith);
}
  where
    u : List ℕ
    u = set v (n + k) 1

    t' : List (List ℕ)
    t' = set t k u

    taken : length (take m (drop (k * n) a)) ≡ n
    taken = part_long (k * n) n a em size

    behind : (j : ℕ) → j < n → Dec (j ≡ k) → pos (get_or u (n + j) 0) ≡ δ k j
    behind j h (yes e) = rw e (ap pos (get_or-set_same v (n + k) 1 0 (omega (arith, w.long))) ∙ sym (δ_same k))
    behind j h (no f) = ap pos (get_or-set_other v (n + k) (n + j) 1 0 (λ e. f (omega arith)) ∙ w.after (n + j) (omega (arith, taken)) ∙ q.left k (n + j) (omega arith)) ∙ sym (δ_other (λ e. f (sym e)))

pub set_twice : (P : List (List ℕ) → Type 0) (t : List (List ℕ)) (k : ℕ) (v : List ℕ) (f : List ℕ → List ℕ) → k < length t → P (set t k (f v)) → P (set (set t k v) k (f (get_or (set t k v) k [])))
set_twice P t k v f h p = subst P (sym (ap (λ (row : List ℕ). set (set t k v) k (f row)) (get_or-set_same t k v [] h) ∙ set-set t k v (f v))) p

-- ---- the solution

pub low_more : {n k m : ℕ} (t : List (List ℕ)) → m ≡ n → 2 * n ≤ length (get_or t k []) → ((j : ℕ) → j < length (take m (drop n (get_or t k []))) → get_or (take m (drop n (get_or t k []))) j 0 < 2 ^ 32)
    → ((i j : ℕ) → i < k → j < n → get_or (get_or t i []) (n + j) 0 < 2 ^ 32) → (i j : ℕ) → i < k + 1 → j < n → get_or (get_or t i []) (n + j) 0 < 2 ^ 32
low_more {n} {k} {m} t em wide l q i j hi hj =
    below_more (λ (i : ℕ). (j : ℕ) → j < n → get_or (get_or t i []) (n + j) 0 < 2 ^ 32) k (λ i h j g. q i j h g)
    (λ j g. let e = get_or_part n m (get_or t k []) j 0 (omega arith) in let b = l j (omega (arith, part_long n n (get_or t k []) em (omega arith))) in omega arith) i hi j hj

-- row k of the back goes to the numbers from k n on
pub unload_more : {n k m l : ℕ} (t : List (List ℕ)) {old mid new : List ℤ} → k < n → n * n ≤ length old → 2 * n ≤ length (get_or t k []) → m ≡ n → l ≡ n
    → Wrote (pos 0) (λ q. back n t (q / n) (q % n)) 0 (k * n) old mid
    → Wrote (pos 0) (λ j. pos (get_or (take m (drop n (get_or t k []))) j 0)) 0 (length (take m (drop n (get_or t k [])))) (take l (drop (k * n) mid)) new
    → Wrote (pos 0) (λ q. back n t (q / n) (q % n)) 0 ((k + 1) * n) old (put_mid (k * n) l mid new)
unload_more {n} {k} {m} {l} t {old} {mid} {new} h room wide em el v w =
    subst (λ (z : ℕ). Wrote (pos 0) whole 0 z old (put_mid (k * n) l mid new)) (sym (next_row k n))
    (wrote_join v (subst (λ (o : ℕ). Wrote (pos 0) (λ j. pos (get_or (get_or t k []) (n + j) 0)) o n mid (put_mid (k * n) l mid new)) (sym (zero-add (k * n)))
    (wrote_part n el (part_long n n (get_or t k []) em (omega arith)) (omega (arith, row_end h, v.long)) w (λ j g. ap pos (get_or_part n m (get_or t k []) j 0 (omega arith))))) same)
  where
    whole : ℕ → ℤ
    whole q = back n t (q / n) (q % n)

    same : (j : ℕ) → j < n → pos (get_or (get_or t k []) (n + j) 0) ≡ whole (k * n + j)
    same j g = ap₂ (back n t) (sym (digits_div k g)) (sym (digits_mod k g))

row_zeros : (m k : ℕ) → ◌≡◌ {A = ℕ} (get_or (replicate m 0) k 0) 0
row_zeros zero k = refl
row_zeros (suc m) zero = refl
row_zeros (suc m) (suc k) = row_zeros m k

pub zeros : (m n : ℕ) → Zeros (take n (replicate m (replicate 64 0)))
zeros m zero i k = refl
zeros zero (suc n) i k = refl
zeros (suc m) (suc n) zero k = row_zeros 64 k
zeros (suc m) (suc n) (suc i) k = zeros m n i k

-- m and k are what the calls name the order
pub inverted : {n m k X o : ℕ} (a : List ℤ) (t : List (List ℕ)) {old new : List ℤ} → m ≡ n → k ≡ n → CongM m (pos X) (entries m a ·⟨ m ⟩ back m t) δ
    → Wrote (pos 0) (λ q. back k t (q / k) (q % k)) (o * (n * n)) (n * n) old new → ((i j : ℕ) → i < k → j < k → get_or (get_or t i []) (k + j) 0 < 2 ^ 32) → Inverted n X (entries n a) o old new
inverted {n} {m} {k} {X} {o} a t {old} {new} em ek e w l = record {
  long = p.long;
  right = cong_m_trans n (pos X) (cong_m-· n (pos X) (cong_m_refl n (pos X) (entries n a)) (cong_m_eq n (pos X) p.there)) (subst (λ (m : ℕ). CongM m (pos X) (entries m a ·⟨ m ⟩ back m t) δ) em e);
  low = low-≈ (≈-sym p.there) (record { low = λ i j h g. let b = subst (λ (k : ℕ). (i j : ℕ) → i < k → j < k → get_or (get_or t i []) (k + j) 0 < 2 ^ 32) ek l i j h g in omega arith });
  rest = p.rest;
}
  where
    p : BlockPut n (back n t) o old new
    p = put_of n o (subst (λ (k : ℕ). Wrote (pos 0) (λ q. back k t (q / k) (q % k)) (o * (n * n)) (n * n) old new) ek w)
