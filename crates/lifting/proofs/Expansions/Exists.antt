-- An expansion of every number of lifts exists where A has an inverse modulo X: two blocks more for each lift.
use mathlib.Core.Path.{◌≡◌, sym, ap, ap₂, subst, ◌∙◌}
use mathlib.Core.List.{List, [], ◌++◌, map}
use Prim.Native.Nat.{ℕ, zero, suc, ◌+◌, ◌*◌, ◌/◌, ◌%◌, ◌<◌}
use native.Mathlib.Nat.{zero-mul}
use native.Mathlib.Omega.{arith}
use lib.Arith.{digits_lt, digits_div, digits_mod}
use lib.IntN.{ℤ, pos}
use lib.ListN.{length, get_or, length-append, get_or-append}
use lib.Seq.{get_or-append-add}
use Rattle.std.specs.List.{range_with_len}
use Rattle.std.proofs.lemmas.List.FromFn.{length-map-range_with_len, get_or-map-range_with_len}
use Rattle.tables.specs.Tables.{Matrix, ◌≈⟨◌⟩◌, block, HasInverseMod}
use Rattle.tables.proofs.Algebra.Matrix.{≈-trans}
use Rattle.lifting.specs.Lifting.{IsStart, IsStep, IsExpansion}
use Rattle.lifting.proofs.Expansions.Rules.{start_right, start_resp, step_resp, start_exists, step_exists}
use Rattle.lifting.proofs.Expansions.Upto.{upto_first, upto_more, upto_resp}

-- K is the list L of c tables, with a table more
record Pushed (n c : ℕ) (F : Matrix) (L K : List ℤ) : Type 0 where
  pub long : length K ≡ length L + n * n
  pub rest : (b : ℕ) → b < c → block n L b ≈⟨ n ⟩ block n K b
  pub last : F ≈⟨ n ⟩ block n K c

push : (n c : ℕ) (F : Matrix) (L : List ℤ) → length L ≡ c * (n * n) → (K : List ℤ) × Pushed n c F L K
push n c F L e = (
  L ++ T,
  record {
    long = omega (arith, length-append L T, length-map-range_with_len f 0 (n * n));
    rest = λ b l i j h k. sym (get_or-append L T (pos 0) (b * (n * n) + (i * n + j)) (subst (λ (m : ℕ). b * (n * n) + (i * n + j) < m) (sym e) (digits_lt l (digits_lt h k))));
    last = λ i j h k. sym
        (ap (λ (m : ℕ). get_or (L ++ T) (m + (i * n + j)) (pos 0)) (sym e) ∙ get_or-append-add L T (i * n + j) (pos 0)
        ∙ get_or-map-range_with_len f 0 (n * n) (i * n + j) (i * n + j) (pos 0) (digits_lt h k) (omega arith) ∙ ap₂ F (digits_div i k) (digits_mod i k));
  },
)
  where
    f : ℕ → ℤ
    f k = F (k / n) (k % n)

    T : List ℤ
    T = map f (range_with_len 0 (n * n))

module _ (n X : ℕ) (A : Matrix) where
  first : {B R : Matrix} → IsStart n X A B R → (L : List ℤ) × IsExpansion n X 0 A L
  first {B} {R} p =
      let (K, k) = push n 0 B [] (sym (zero-mul (n * n))) in
      let (L, l) = push n 1 R K (omega (arith, k.long)) in (
        L,
        record {
          size = omega (arith, l.long, k.long);
          blocks = upto_first (start_resp p (≈-trans k.last (l.rest 0 (omega arith))) l.last);
        },
      )

  more : {s : ℕ} {M S : Matrix} {L : List ℤ} → IsExpansion n X s A L → IsStep n X A (block n L 0) (block n L (2 * s + 1)) M S → (K : List ℤ) × IsExpansion n X (suc s) A K
  more {s} {M} {S} {L} x p =
      let (J, j) = push n (2 * s + 2) M L x.size in
      let (K, k) = push n (2 * s + 3) S J (omega (arith, j.long, x.size)) in
      let kept : (b : ℕ) → b < 2 * s + 2 → block n L b ≈⟨ n ⟩ block n K b = λ b l. ≈-trans (j.rest b l) (k.rest b (omega arith)) in (
        K,
        record {
          size = omega (arith, k.long, j.long, x.size);
          blocks = upto_more (upto_resp x.blocks kept)
              (step_resp p (kept 0 (omega arith)) (kept (2 * s + 1) (omega arith)) (≈-trans j.last (k.rest (2 * s + 2) (omega arith))) k.last);
        },
      )

  pub expansion_of : 0 < X → HasInverseMod n X A → (s : ℕ) → (L : List ℤ) × IsExpansion n X s A L
  expansion_of h w zero = first (start_exists n X h A w.inverse w.right)
  expansion_of h w (suc s) =
      let (L, x) = expansion_of h w s in more x (step_exists h (start_right x.blocks.start) (block n L (2 * s + 1)))
