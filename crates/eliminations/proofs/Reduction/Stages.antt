-- The elimination from its start to its two ends: P is I, and then C is an inverse of A; or row r is 0 modulo m from column r on,
-- and then the row u = δ_r - P_r kills P and so A, while its entry r is 1.
use mathlib.Core.Path.{◌≡◌, sym, subst}
use mathlib.Core.Logic.{◌≢◌}
use Prim.Native.Nat.{ℕ, ◌+◌, ◌≤◌, ◌<◌}
use native.Mathlib.Decide.{ℕ_discrete, dec_lt}
use native.Mathlib.Omega.{arith}
use borrow.Author.Count.{below_more}
use lib.IntN.{ℤ, pos, ◌+ℤ◌, ◌*ℤ◌}
use Rattle.numbers.proofs.Algebra.RingSolver.{ring, #◌, ⊝◌, ◌⊕◌, ◌⊖◌, ◌⊗◌, ◌≐◌}
use Rattle.numbers.proofs.Algebra.Sum.{δ, δ_same, δ_other}
use Rattle.numbers.proofs.Remainders.Congruence.{Cong, cong_of_eq, cong_refl, cong_sym, cong_down, cong_trans, cong_near, cong-+, cong-*, cong_sub, cong_sum}
use Rattle.tables.specs.Tables.{Matrix, ◌⊟◌, ◌·⟨◌⟩◌, CongM, HasInverseMod}
use Rattle.eliminations.specs.Elimination.{ColumnStep, Going, None, Some, Pivot}
use Rattle.tables.proofs.Algebra.Matrix.{·-idʳ}
use Rattle.tables.proofs.Algebra.MatrixSolver.{matrix, modular, given◌is◌by◌and◌then◌, 𝟘ᵉ, 𝟙, ◌⊟ᵉ◌, ◌·ᵉ◌, ◌⊙ᵉ◌, ◌≑◌}
use Rattle.tables.proofs.Inverses.Laws.{no_inverse}
use Rattle.eliminations.proofs.Reduction.Steps.{going_add}

-- ---- the start

pub going_first : {n m : ℕ} {A C P : Matrix} → CongM n (pos m) C δ → CongM n (pos m) P A → Going n m 0 A C P
going_first {n} {m} {A} {C} {P} c p = record {
  kept = record {
    product = modular n (pos m) 0 3 (λ A C P. given C is 𝟙 by (⊝ # 1) ⊙ᵉ A and 𝟙 then given P is A by 𝟙 and 𝟙 then P ≑ A ·ᵉ C) tt A C P c p;
    kills = λ t q W z.
        modular n (pos t) 0 3 (λ W A P. given P is A by (⊝ # 1) ⊙ᵉ W and 𝟙 then given W ·ᵉ P is 𝟘ᵉ by 𝟙 and 𝟙 then W ·ᵉ A ≑ 𝟘ᵉ) tt
        W A P (λ i j h k. cong_down (p i j h k) q) z;
  };
  rows = λ i h. absurd (omega arith);
}

-- ---- column s, the pivot, is added to column r, whose entry in row r is a multiple of b

pub pivot_some : {b n r s : ℕ} {P P' : Matrix} → r < n → s < n → s ≢ r → Pivot b n r P s → ColumnStep (pos b) n r s (pos 1) (pos 1) P P' → Some b (P' r r)
pivot_some {b} {r = r} {s = s} {P = P} h l e v p z =
    let zero : Cong (pos b) (P r r) (pos 0) = v.none r (omega arith) (omega (arith, v.from)) in
    v.some l
    (cong_trans (cong_of_eq (pos b) (ring 2 (λ x y. y ≐ # 1 ⊗ x ⊕ # 1 ⊗ y ⊖ x) tt (P r r) (P r s)))
    (cong_sub (cong_trans (cong_sym (p.here r h)) z) zero))

-- ---- a row is cleared, by column r, whose entry in it is 1

pub record Clearing (n m k r : ℕ) (A C P : Matrix) : Type 0 where
  pub going : Going n m r A C P
  pub one : Cong (pos m) (P r r) (pos 1)
  pub row : (j : ℕ) → j < k → Cong (pos m) (P r j) (δ r j)

pub clear_none : {n m r : ℕ} {A C P : Matrix} → Cong (pos m) (P r r) (pos 1) → Going n m r A C P → Clearing n m 0 r A C P
clear_none one g = record { going = g; one = one; row = λ j h. absurd (omega arith) }

-- column k is as it should be
pub clear_pass : {n m k r : ℕ} {A C P : Matrix} → Cong (pos m) (P r k) (δ r k) → Clearing n m k r A C P → Clearing n m (k + 1) r A C P
clear_pass {m = m} {k = k} {r = r} {P = P} e q =
    record { going = q.going; one = q.one; row = below_more (λ (j : ℕ). Cong (pos m) (P r j) (δ r j)) k q.row e }

-- the column of the one itself
pub clear_pivot : {n m k r : ℕ} {A C P : Matrix} → k ≡ r → Clearing n m k r A C P → Clearing n m (k + 1) r A C P
clear_pivot {m = m} {r = r} {P = P} e q =
    clear_pass (subst (λ (j : ℕ). Cong (pos m) (P r j) (δ r j)) (sym e) (cong_trans q.one (cong_of_eq (pos m) (sym (δ_same r))))) q

-- column r is added to column k so often that the entry vanishes
pub clear_add : {n m k r : ℕ} {f : ℤ} {A C P C' P' : Matrix} → r < n → k < n → k ≢ r → Cong (pos m) (P r k +ℤ f) (pos 0)
    → ColumnStep (pos m) n k r (pos 1) f C C' → ColumnStep (pos m) n k r (pos 1) f P P' → Clearing n m k r A C P → Clearing n m (k + 1) r A C' P'
clear_add {n} {m} {k} {r} {f} {A} {C} {P} {C'} {P'} hr hk e z c p q =
    clear_pass (cong_trans there (cong_of_eq x (sym (δ_other (λ e'. e (sym e'))))))
    (record {
      going = going_add (omega arith) hr (λ e'. e (sym e')) c p q.going;
      one = cong_trans (p.rest r r hr hr (λ e'. e (sym e'))) q.one;
      row = λ j h. cong_trans (p.rest r j hr (omega arith) (λ e'. omega arith)) (q.row j h);
    })
  where
    x : ℤ
    x = pos m

    there : Cong x (P' r k) (pos 0)
    there =
        cong_trans (p.here r hr)
        (cong_trans (cong-+ (cong_refl (pos 1 *ℤ P r k)) (cong-* (cong_refl f) q.one))
        (cong_trans (cong_of_eq x (ring 2 (λ v f. # 1 ⊗ v ⊕ f ⊗ # 1 ≐ v ⊕ f) tt (P r k) f)) z))

pub clear_all : {n m k r : ℕ} {A C P : Matrix} → k ≡ n → Clearing n m k r A C P → Going n m (r + 1) A C P
clear_all {n} {m} {k} {r} {P = P} e q = record {
  kept = q.going.kept;
  rows = below_more (λ (i : ℕ). (j : ℕ) → j < n → Cong (pos m) (P i j) (δ i j)) r q.going.rows (λ j h. q.row j (omega arith));
}

-- ---- the ends

pub found : {n m r : ℕ} {A C P : Matrix} → r ≡ n → Going n m r A C P → CongM n (pos m) (A ·⟨ n ⟩ C) δ
found {n} {m} e g i j h k = cong_trans (cong_sym (g.kept.product i j h k)) (g.rows i (rw e h) j k)

pub none_more : (m k r : ℕ) (P : Matrix) → None m k r P → Cong (pos m) (P r k) (pos 0) → None m (k + 1) r P
none_more m k r P f e j l h = below_more (λ (j : ℕ). r ≤ j → Cong (pos m) (P r j) (pos 0)) k (λ j h l. f j l h) (λ l. e) j h l

-- where the row is not all 0, the search ends inside
pub none_inside : (m n k r : ℕ) (P : Matrix) → ¬ None m n r P → k ≤ n → None m k r P → k < n
none_inside m n k r P f l q = elim (ℕ_discrete k n) [ yes e ↦ absurd (f (λ j a h. q j a (omega arith))) | no e ↦ omega arith ]

-- modulo any divisor t of m, from 2 on
pub stuck : {n m r : ℕ} {A C P : Matrix} (t : ℕ) → Cong (pos t) (pos m) (pos 0) → 2 ≤ t → r < n → Going n m r A C P → None t n r P → ¬ HasInverseMod n t A
stuck {n} {m} {r} {A} {C} {P} t q two h g none = no_inverse t n W A r h (g.kept.kills t q W kills) one
  where
    x : ℤ
    x = pos t

    W : Matrix
    W i = (δ ⊟ P) r

    -- P_r·P = P_r·I: what differs from I in P meets a 0 of P_r
    square : (j : ℕ) → j < n → Cong x ((P ·⟨ n ⟩ P) r j) (P r j)
    square j hj =
        cong_trans (cong_sum x n (λ k hk. go k hk (dec_lt k r))) (cong_of_eq x (·-idʳ n P r j h hj))
      where
        go : (k : ℕ) → k < n → Dec (k < r) → Cong x (P r k *ℤ P k j) (P r k *ℤ δ k j)
        go k hk (yes l) = cong-* (cong_refl (P r k)) (cong_down (g.rows k l j hj) q)
        go k hk (no l) =
            let z : Cong x (P r k) (pos 0) = none k (omega arith) hk in
            cong_trans (cong-* z (cong_refl (P k j)))
            (cong_trans (cong_of_eq x (ring 2 (λ a b. # 0 ⊗ a ≐ # 0 ⊗ b) tt (P k j) (δ k j))) (cong_sym (cong-* z (cong_refl (δ k j)))))

    kills : CongM n x (W ·⟨ n ⟩ P) (λ i j. pos 0)
    kills i j hi hj =
        cong_trans (cong_of_eq x (matrix n 0 1 (λ P. (𝟙 ⊟ᵉ P) ·ᵉ P ≑ P ⊟ᵉ P ·ᵉ P) tt P r j h hj))
        (cong_trans (cong_sub (cong_refl (P r j)) (square j hj)) (cong_of_eq x (ring 1 (λ p. p ⊖ p ≐ # 0) tt (P r j))))

    one : ¬ Cong x (W r r) (pos 0)
    one z =
        let e : ◌≡◌ {A = ℤ} (pos 1) (pos 0) =
        cong_near (cong_trans (cong_sym (cong_sub (cong_of_eq x (δ_same r)) (none r (omega arith) h))) z) (omega arith) in
        let f : ◌≡◌ {A = ℕ} 0 1 = cc in omega arith
