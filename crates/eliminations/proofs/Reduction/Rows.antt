-- The elimination's stages on rows of residues: its column operations are row operations on the tables turned over. A row holds a row of P and then that of C.
use mathlib.Core.Path.{◌≡◌, refl, sym, ap, subst, ◌∙◌}
use mathlib.Core.Logic.{◌≢◌, inl}
use mathlib.Core.List.{List, []}
use Prim.Native.Nat.{ℕ, ◌+◌, ◌*◌, ◌%◌, ◌<◌}
use native.Mathlib.Nat.{zero-add}
use native.Mathlib.Omega.{arith}
use lib.IntN.{ℤ, pos, neg_ℤ, ◌+ℤ◌, ◌*ℤ◌}
use lib.ListN.{length, get_or, set}
use lib.Seq.{get_or-set_same, get_or-set_other}
use Rattle.numbers.proofs.Algebra.RingSolver.{ring, #◌, ⊝◌, ◌⊕◌, ◌⊗◌, ◌≐◌}
use Rattle.numbers.proofs.Algebra.Sum.{δ, δ_other}
use Rattle.numbers.proofs.Remainders.Congruence.{Cong, cong_of_eq, cong_refl, cong_trans, cong-+, cong-*}
use Rattle.tables.specs.Tables.{Matrix, ◌ᵀ}
use Rattle.tables.specs.Buffer.{Wrote}
use Rattle.eliminations.specs.Elimination.{ColumnStep, Going, Some, One, Pivot}
use Rattle.eliminations.specs.Inverting.{front, back, RowStep, Prepared, Settled}
use Rattle.eliminations.proofs.Reduction.Steps.{stepped_down, going_step, going_add}
use Rattle.eliminations.proofs.Reduction.Stages.{Clearing, pivot_some, clear_none, clear_pivot, clear_add, clear_all}
use Rattle.eliminations.proofs.Reduction.Units.{fold_cong}

-- modulo X, `row` is row r of the list
pub record Held (X w r : ℕ) (t : List (List ℕ)) (row : List ℕ) : Type 0 where
  pub same : (j : ℕ) → j < w → Cong (pos X) (pos (get_or row j 0)) (pos (get_or (get_or t r []) j 0))

-- ---- a row that was written

-- row d is g, which is a times itself and f times row s: so it is with those columns of the list that `at` names
part_step : {X n w d s : ℕ} {a f : ℤ} {g : ℕ → ℕ} (t : List (List ℕ)) {z : List ℕ} (at : ℕ → ℕ) → ((i : ℕ) → i < n → at i < w) → d < length t → Wrote 0 g 0 w (get_or t d []) z
    → ((k : ℕ) → k < w → Cong (pos X) (pos (g k)) (a *ℤ pos (get_or (get_or t d []) k 0) +ℤ f *ℤ pos (get_or (get_or t s []) k 0)))
    → ColumnStep (pos X) n d s a f (λ i j. pos (get_or (get_or t j []) (at i) 0)) (λ i j. pos (get_or (get_or (set t d z) j []) (at i) 0))
part_step {X} {n} {w} {d} t {z} at upto h q e = record {
  rest = λ i j hi hj ne. cong_of_eq (pos X) (ap (λ (row : List ℕ). pos (get_or row (at i) 0)) (get_or-set_other t d j z [] ne));
  here = λ i hi. cong_trans (cong_of_eq (pos X) (ap (λ (row : List ℕ). pos (get_or row (at i) 0)) (get_or-set_same t d z [] h) ∙ ap pos (ap (λ (k : ℕ). get_or z k 0) (sym (zero-add (at i))) ∙ q.inside (at i) (upto i hi)))) (e (at i) (upto i hi));
}

row_step : {X n d s : ℕ} {a f : ℤ} {g : ℕ → ℕ} {t : List (List ℕ)} {z : List ℕ} → d < length t → Wrote 0 g 0 (2 * n) (get_or t d []) z
    → ((k : ℕ) → k < 2 * n → Cong (pos X) (pos (g k)) (a *ℤ pos (get_or (get_or t d []) k 0) +ℤ f *ℤ pos (get_or (get_or t s []) k 0))) → RowStep X n d s a f t (set t d z)
row_step {n = n} {t = t} h q e = record {
  front = part_step t (λ i. i) (λ i h. omega arith) h q e;
  back = part_step t (λ i. n + i) (λ i h. omega arith) h q e;
}

-- by `fold_row`, from a row that is held
pub row_gains : {X n d s x : ℕ} {t : List (List ℕ)} {z row : List ℕ} → 0 < X → d < length t → Held X (2 * n) s t row
    → Wrote 0 (λ j. (get_or (get_or t d []) j 0 + x * get_or row j 0) % X) 0 (2 * n) (get_or t d []) z → RowStep X n d s (pos 1) (pos x) t (set t d z)
row_gains {X} {n} {d} {s} {x} {t} {z} {row} some l h w = row_step l w λ k m.
    let q : ℕ = get_or (get_or t d []) k 0 in
    cong_trans (fold_cong some q x (get_or row k 0))
    (cong-+ (cong_of_eq (pos X) (ring 1 (λ q. q ≐ # 1 ⊗ q) tt (pos q))) (cong-* (cong_refl (pos x)) (h.same k m)))

-- by `scale_row`
pub row_scales : {X n d u : ℕ} {t : List (List ℕ)} {z : List ℕ} → 0 < X → d < length t → Wrote 0 (λ j. (0 + u * get_or (get_or t d []) j 0) % X) 0 (2 * n) (get_or t d []) z → RowStep X n d d (pos u) (pos 0) t (set t d z)
row_scales {X} {n} {d} {u} {t} some l w = row_step l w λ k m.
    let q : ℕ = get_or (get_or t d []) k 0 in
    cong_trans (fold_cong some 0 u q) (cong_of_eq (pos X) (ring 2 (λ u q. # 0 ⊕ u ⊗ q ≐ u ⊗ q ⊕ # 0 ⊗ q) tt (pos u) (pos q)))

-- ---- a row that is held

pub held_here : {X w r : ℕ} (t : List (List ℕ)) → Held X w r t (get_or t r [])
held_here {r = r} t = record { same = λ j h. cong_refl (pos (get_or (get_or t r []) j 0)) }

-- another row has changed
held_on : {X w d r : ℕ} {t : List (List ℕ)} (z : List ℕ) {row : List ℕ} → d ≢ r → Held X w r t row → Held X w r (set t d z) row
held_on {X} {w} {d} {r} {t} z ne h = record {
  same = λ j hj. cong_trans (h.same j hj) (cong_of_eq (pos X) (ap (λ (row : List ℕ). pos (get_or row j 0)) (sym (get_or-set_other t d r z [] (λ e. ne (sym e))))));
}

-- ---- `lead`

module _ {b n r s : ℕ} {t : List (List ℕ)} (v : Pivot b n r (front t ᵀ) s) (h : r < n) (l : s < n) where
  pub lead_here : {X : ℕ} → s ≡ r → Prepared (Some b) X n r t t
  lead_here e = record { keeps = record { on = λ A g. g }; entry = rw e at (v.some l) }

  pub lead_gain : {X : ℕ} {t' : List (List ℕ)} → Cong (pos b) (pos X) (pos 0) → s ≢ r → RowStep X n r s (pos 1) (pos 1) t t' → Prepared (Some b) X n r t t'
  lead_gain d e q = record {
    keeps = record { on = λ A g. going_add v.from l e q.back q.front g };
    entry = pivot_some h l e v (stepped_down d q.front);
  }

-- ---- `scale`

pub scale_ready : {X n r u : ℕ} {t t' : List (List ℕ)} → r < n → One X (pos u *ℤ front t r r) → RowStep X n r r (pos u) (pos 0) t t' → Prepared (One X) X n r t t'
scale_ready {X} {n} {r} {u} {t = t} h e q = record {
  keeps = record {
    on = λ A g.
        going_step (omega arith) (λ i l. ap (λ (y : ℤ). pos u *ℤ y) (zero l) ∙ ring 1 (λ u. u ⊗ # 0 ≐ # 0) tt (pos u) ∙ sym (zero l))
        (record {
          inside = h;
          apart = inl refl;
          unit = g₀;
          inverse = cong_trans (cong_of_eq (pos X) (ring 2 (λ u g. g ⊗ u ≐ u ⊗ g) tt (pos u) g₀)) e;
        })
        q.back q.front g;
  };
  entry = cong_trans (q.front.here r h) (cong_trans (cong_of_eq (pos X) (ring 2 (λ u g. u ⊗ g ⊕ # 0 ⊗ g ≐ u ⊗ g) tt (pos u) g₀)) e);
}
  where
    g₀ : ℤ
    g₀ = front t r r

    apart : {i : ℕ} → i < r → i ≢ r
    apart l e = omega arith

    zero : {i : ℕ} → i < r → δ i r ≡ pos 0
    zero l = δ_other (apart l)

-- ---- `clear`

pub record Sweeping (X n k r : ℕ) (v : List ℕ) (t t' : List (List ℕ)) : Type 0 where
  pub held : Held X (2 * n) r t' v
  pub goes : (A : Matrix) → Going n X r A (back n t ᵀ) (front t ᵀ) → Clearing n X k r A (back n t' ᵀ) (front t' ᵀ)

pub sweep_none : {X n r : ℕ} {v : List ℕ} {t : List (List ℕ)} → Held X (2 * n) r t v → One X (front t r r) → Sweeping X n 0 r v t t
sweep_none h one = record { held = h; goes = λ A g. clear_none one g }

module _ {X n k r : ℕ} {v : List ℕ} {t t' : List (List ℕ)} (q : Sweeping X n k r v t t') where
  pub sweep_pivot : k ≡ r → Sweeping X n (k + 1) r v t t'
  sweep_pivot e = record { held = q.held; goes = λ A g. clear_pivot e (q.goes A g) }

  pub sweep_row : {f : ℕ} {z : List ℕ} → 0 < X → k < length t' → r < n → k < n → k ≢ r → Cong (pos X) (pos f) (neg_ℤ (front t' k r))
      → Wrote 0 (λ j. (get_or (get_or t' k []) j 0 + f * get_or v j 0) % X) 0 (2 * n) (get_or t' k []) z → Sweeping X n (k + 1) r v t (set t' k z)
  sweep_row {f} {z = z₀} some l hr hk e h w =
      let s = row_gains some l q.held w in
      record { held = held_on z₀ e q.held; goes = λ A g. clear_add hr hk e gone s.back s.front (q.goes A g) }
    where
      y : ℤ
      y = front t' k r

      gone : Cong (pos X) (y +ℤ pos f) (pos 0)
      gone = cong_trans (cong-+ (cong_refl y) h) (cong_of_eq (pos X) (ring 1 (λ y. y ⊕ (⊝ y) ≐ # 0) tt y))

  pub sweep_all : k ≡ n → Settled X n r t t'
  sweep_all e = record { on = λ A g. clear_all e (q.goes A g) }

-- ---- `settle`

pub settled : {Q R : ℤ → Type 0} {X n r : ℕ} {t u v : List (List ℕ)} (w : List (List ℕ)) → length u ≡ n → length v ≡ length u → Prepared Q X n r t u → Prepared R X (length u) r u v → Settled X (length v) r v w → Settled X n r t w
settled {R = R} {X} {n} {r} {t} {u} {v} w e f a b d =
    let b' = subst (λ (m : ℕ). Prepared R X m r u v) e b in
    let d' = subst (λ (m : ℕ). Settled X m r v w) (f ∙ e) d in
    record { on = λ A g. d'.on A (b'.keeps.on A (a.keeps.on A g)) }
