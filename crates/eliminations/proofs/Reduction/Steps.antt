-- Column operations modulo x, and what they keep. An operation on C is the same operation on M·C, for every M: so P = A·C stays,
-- and where W·P comes to 0 it was 0.
use mathlib.Core.Path.{◌≡◌, refl, sym, ap, ap₂, ◌∙◌, subst}
use mathlib.Core.Logic.{◌≢◌, ◌⊎◌, inr, ⊎_elim}
use mathlib.Core.Bool.{cond}
use Prim.Native.Nat.{ℕ, ◌≤◌, ◌<◌}
use native.Mathlib.Decide.{ℕ_discrete}
use native.Mathlib.Omega.{arith}
use borrow.Author.Tests.{eq-eqb, ne_eqb}
use lib.Dec.{eqb}
use lib.IntN.{ℤ, pos, ◌+ℤ◌, ◌*ℤ◌}
use Rattle.numbers.proofs.Algebra.RingSolver.{ring, #◌, ◌⊕◌, ◌⊖◌, ◌⊗◌, ◌≐◌}
use Rattle.numbers.proofs.Algebra.Sum.{sum, sum_cong, sum-+, sum_scaleˡ, δ, δ_other}
use Rattle.numbers.proofs.Remainders.Congruence.{Cong, cong_of_eq, cong_refl, cong_sym, cong_down, cong_trans, cong-+, cong-*, cong_sub, cong_sum}
use Rattle.tables.specs.Tables.{Matrix, ◌·⟨◌⟩◌, CongM}
use Rattle.eliminations.specs.Elimination.{ColumnStep, Linked, Going}

-- an operation that can be undone: a is a unit, and column s is another one unless it is not used
pub record Undone (x : ℤ) (n d s : ℕ) (a f : ℤ) : Type 0 where
  pub inside : s < n
  pub apart : (f ≡ pos 0) ⊎ (s ≢ d)
  pub unit : ℤ
  pub inverse : Cong x (unit *ℤ a) (pos 1)

module _ {t m : ℤ} {n d s : ℕ} {a f : ℤ} (q : Cong t m (pos 0)) where
  pub stepped_down : {C C' : Matrix} → ColumnStep m n d s a f C C' → ColumnStep t n d s a f C C'
  stepped_down h = record { rest = λ i j k l e. cong_down (h.rest i j k l e) q; here = λ i k. cong_down (h.here i k) q }

  undone_down : Undone m n d s a f → Undone t n d s a f
  undone_down u = record { inside = u.inside; apart = u.apart; unit = u.unit; inverse = cong_down u.inverse q }

-- the table after the operation, where no program holds it
pub moved : ℕ → ℕ → ℤ → ℤ → Matrix → Matrix
moved d s a f C i j = cond (eqb j d) (a *ℤ C i d +ℤ f *ℤ C i s) (C i j)

pub moved_is : {x : ℤ} {n d s : ℕ} {a f : ℤ} (C : Matrix) → ColumnStep x n d s a f C (moved d s a f C)
unfolding moved
moved_is {x} {d = d} {s = s} {a = a} {f = f} C = record {
  rest = λ i j hi hj e. cong_of_eq x (ap (λ b. cond b (a *ℤ C i d +ℤ f *ℤ C i s) (C i j)) (ne_eqb j d e));
  here = λ i hi. cong_of_eq x (ap (λ b. cond b (a *ℤ C i d +ℤ f *ℤ C i s) (C i d)) (eq-eqb d d refl));
}

-- M·(a C_d + f C_s) = a (M·C_d) + f (M·C_s)
·-linear : (n d s : ℕ) (a f : ℤ) (M C : Matrix) (i : ℕ)
    → sum n (λ k. M i k *ℤ (a *ℤ C k d +ℤ f *ℤ C k s)) ≡ a *ℤ (M ·⟨ n ⟩ C) i d +ℤ f *ℤ (M ·⟨ n ⟩ C) i s
·-linear n d s a f M C i =
    sum_cong n (λ k h. ring 5 (λ m c e a f. m ⊗ (a ⊗ c ⊕ f ⊗ e) ≐ a ⊗ (m ⊗ c) ⊕ f ⊗ (m ⊗ e)) tt (M i k) (C k d) (C k s) a f)
    ∙ sum-+ n (λ k. a *ℤ (M i k *ℤ C k d)) (λ k. f *ℤ (M i k *ℤ C k s))
    ∙ ap₂ ◌+ℤ◌ (sum_scaleˡ n a (λ k. M i k *ℤ C k d)) (sum_scaleˡ n f (λ k. M i k *ℤ C k s))

module _ {x : ℤ} {n d s : ℕ} {a f : ℤ} where
  stepped-· : {C C' : Matrix} (M : Matrix) → ColumnStep x n d s a f C C' → ColumnStep x n d s a f (M ·⟨ n ⟩ C) (M ·⟨ n ⟩ C')
  stepped-· {C} M h = record {
    rest = λ i j p q e. cong_sum x n (λ k l. cong-* (cong_refl (M i k)) (h.rest k j l q e));
    here = λ i p. cong_trans (cong_sum x n (λ k l. cong-* (cong_refl (M i k)) (h.here k l))) (cong_of_eq x (·-linear n d s a f M C i));
  }

  -- the same operation on congruent tables
  stepped_cong : {C C' D D' : Matrix} → s < n → CongM n x C D → ColumnStep x n d s a f C C' → ColumnStep x n d s a f D D' → CongM n x C' D'
  stepped_cong {C} {C'} {D} {D'} hs e u v i j hi hj = go (ℕ_discrete j d)
    where
      go : Dec (j ≡ d) → Cong x (C' i j) (D' i j)
      go (no q) = cong_trans (u.rest i j hi hj q) (cong_trans (e i j hi hj) (cong_sym (v.rest i j hi hj q)))
      go (yes q) =
          subst (λ (k : ℕ). Cong x (C' i k) (D' i k)) (sym q)
          (cong_trans (u.here i hi)
          (cong_trans (cong-+ (cong-* (cong_refl a) (e i d hi (rw (sym q) hj))) (cong-* (cong_refl f) (e i s hi hs))) (cong_sym (v.here i hi))))

  -- where it ends in 0, it began in 0
  stepped_zero : {Q Q' : Matrix} → Undone x n d s a f → ColumnStep x n d s a f Q Q' → CongM n x Q' (λ i j. pos 0) → CongM n x Q (λ i j. pos 0)
  stepped_zero {Q} {Q'} u h z i j hi hj = go (ℕ_discrete j d)
    where
      b : ℤ
      b = u.unit

      other : (j : ℕ) → j < n → j ≢ d → Cong x (Q i j) (pos 0)
      other j hj q = cong_trans (cong_sym (h.rest i j hi hj q)) (z i j hi hj)

      part : Cong x (f *ℤ Q i s) (pos 0)
      part =
          ⊎_elim (λ e. cong_of_eq x (ap (λ q. q *ℤ Q i s) e ∙ ring 1 (λ v. # 0 ⊗ v ≐ # 0) tt (Q i s)))
          (λ e. cong_trans (cong-* (cong_refl f) (other s u.inside e)) (cong_of_eq x (ring 1 (λ f. f ⊗ # 0 ≐ # 0) tt f)))
          u.apart

      go : Dec (j ≡ d) → Cong x (Q i j) (pos 0)
      go (no q) = other j hj q
      go (yes q) =
          rw q (cong_trans (cong_of_eq x (ring 1 (λ v. v ≐ # 1 ⊗ v) tt (Q i d)))
          (cong_trans (cong-* (cong_sym u.inverse) (cong_refl (Q i d)))
          (cong_trans (cong_of_eq x (ring 4 (λ a b v p. b ⊗ a ⊗ v ≐ b ⊗ (a ⊗ v ⊕ p ⊖ p)) tt a b (Q i d) (f *ℤ Q i s)))
          (cong_trans (cong-* (cong_refl b) (cong_sub (cong_trans (cong_sym (h.here i hi)) (z i d hi (rw (sym q) hj))) part))
          (cong_of_eq x (ring 1 (λ b. b ⊗ (# 0 ⊖ # 0) ≐ # 0) tt b))))))

kept_step : {n m d s : ℕ} {a f : ℤ} {A C P C' P' : Matrix} → Undone (pos m) n d s a f
    → ColumnStep (pos m) n d s a f C C' → ColumnStep (pos m) n d s a f P P' → Linked n m A C P → Linked n m A C' P'
kept_step {A = A} u c p k = record {
  product = stepped_cong u.inside k.product p (stepped-· A c);
  kills = λ t q W z. k.kills t q W (stepped_zero (undone_down q u) (stepped-· W (stepped_down q p)) z);
}

-- an operation with column s from r on keeps the r unit rows, where it keeps those of I
pub going_step : {n m r d s : ℕ} {a f : ℤ} {A C P C' P' : Matrix} → r ≤ s → ((i : ℕ) → i < r → a *ℤ δ i d ≡ δ i d) → Undone (pos m) n d s a f
    → ColumnStep (pos m) n d s a f C C' → ColumnStep (pos m) n d s a f P P' → Going n m r A C P → Going n m r A C' P'
going_step {n} {m} {r} {d} {s} {a} {f} {A} {C} {P} {C'} {P'} l scale u c p g =
    record { kept = kept_step u c p g.kept; rows = λ i hi j hj. go i j hi hj (ℕ_discrete j d) }
  where
    x : ℤ
    x = pos m

    inside : {i : ℕ} → i < r → i < n
    inside h = omega (arith, u.inside)

    apart : {i : ℕ} → i < r → i ≢ s
    apart h e = omega arith

    go : (i j : ℕ) → i < r → j < n → Dec (j ≡ d) → Cong x (P' i j) (δ i j)
    go i j hi hj (no q) = cong_trans (p.rest i j (inside hi) hj q) (g.rows i hi j hj)
    go i j hi hj (yes q) =
        subst (λ (k : ℕ). Cong x (P' i k) (δ i k)) (sym q)
        (cong_trans (p.here i (inside hi))
        (cong_trans (cong-+ (cong-* (cong_refl a) (g.rows i hi d (rw (sym q) hj))) (cong-* (cong_refl f) (g.rows i hi s u.inside)))
        (cong_of_eq x (ap₂ (λ y z. y +ℤ f *ℤ z) (scale i hi) (δ_other (apart hi)) ∙ ring 2 (λ d f. d ⊕ f ⊗ # 0 ≐ d) tt (δ i d) f))))

-- in particular where column s is only added
pub going_add : {n m r d s : ℕ} {f : ℤ} {A C P C' P' : Matrix} → r ≤ s → s < n → s ≢ d
    → ColumnStep (pos m) n d s (pos 1) f C C' → ColumnStep (pos m) n d s (pos 1) f P P' → Going n m r A C P → Going n m r A C' P'
going_add {m = m} {d = d} l h e =
    going_step l (λ i k. ring 1 (λ v. # 1 ⊗ v ≐ v) tt (δ i d)) (record { inside = h; apart = inr e; unit = pos 1; inverse = cong_of_eq (pos m) refl })
