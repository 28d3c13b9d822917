-- The elimination's stages on words of bits: what the program's loops hold, and how each of their turns keeps it. The program holds only P: the
-- operations on C are done in the proof.
use mathlib.Core.Path.{◌≡◌, refl, sym, ap, ◌∙◌, subst}
use mathlib.Core.Logic.{◌≢◌}
use mathlib.Core.List.{List}
use Prim.Native.Nat.{ℕ, ◌+◌, ◌/◌, ◌%◌, ◌^◌, ◌<◌}
use native.Mathlib.Omega.{arith}
use lib.Bits.{bit_xor}
use lib.IntN.{ℤ, pos, ◌+ℤ◌}
use lib.ListN.{length, get_or, length-set}
use Rattle.numbers.proofs.Algebra.Sum.{δ, δ_other}
use Rattle.numbers.proofs.Remainders.Congruence.{Cong, cong_of_eq, cong_trans}
use Rattle.tables.specs.Tables.{Matrix, CongM, entries}
use Rattle.tables.proofs.Algebra.Matrix.{cong_m_refl}
use Rattle.eliminations.specs.Elimination.{Reaches, Pivot}
use Rattle.eliminations.specs.Parity.{bits, xored, Settles}
use Rattle.eliminations.proofs.Reduction.Steps.{moved, moved_is, going_add}
use Rattle.eliminations.proofs.Reduction.Stages.{Clearing, going_first, pivot_some, clear_none, clear_pivot, clear_pass, clear_add, clear_all}
use Rattle.eliminations.proofs.Reduction.Bits.{odd_one, xor_step}

xored_long : {n : ℕ} (p : List ℕ) (d s : ℕ) → length p ≡ n → length (xored p d s) ≡ n
xored_long p d s e = length-set p d (bit_xor (get_or p d 0) (get_or p s 0)) ∙ e

-- ---- `clear`

-- for some C
pub record Cleans (n k r : ℕ) (A P : Matrix) : Type 0 where
  pub C : Matrix
  pub clearing : Clearing n 2 k r A C P

pub record Cleared (n k r : ℕ) (p p' : List ℕ) : Type 0 where
  pub long : length p' ≡ n
  pub goes : (A : Matrix) → Reaches n 2 r A (bits p) → Cleans n k r A (bits p')

pub words_none : {n r : ℕ} {p : List ℕ} → length p ≡ n → Cong (pos 2) (bits p r r) (pos 1) → Cleared n 0 r p p
words_none l e = record { long = l; goes = λ A g. record { C = g.C; clearing = clear_none e g.going } }

module _ {n k r : ℕ} {p p' : List ℕ} (q : Cleared n k r p p') where
  pub words_pivot : k ≡ r → Cleared n (k + 1) r p p'
  words_pivot e = record { long = q.long; goes = λ A g. let h = q.goes A g in record { C = h.C; clearing = clear_pivot e h.clearing } }

  pub words_pass : k ≢ r → get_or p' k 0 / 2 ^ r % 2 ≡ 0 → Cleared n (k + 1) r p p'
  words_pass e z = record {
    long = q.long;
    goes = λ A g. let h = q.goes A g in record { C = h.C; clearing = clear_pass (cong_of_eq (pos 2) (ap pos z ∙ sym (δ_other (λ e'. e (sym e'))))) h.clearing };
  }

  pub words_join : r < n → k < n → k ≢ r → get_or p' k 0 / 2 ^ r % 2 ≡ 1 → Cleared n (k + 1) r p (xored p' k r)
  words_join hr hk e b = record {
    long = xored_long p' k r q.long;
    goes = λ A g.
        let h = q.goes A g in
        record { C = moved k r (pos 1) (pos 1) h.C; clearing = clear_add hr hk e two (moved_is h.C) (xor_step p' k r (omega (arith, q.long))) h.clearing };
  }
    where
      two : Cong (pos 2) (bits p' r k +ℤ pos 1) (pos 0)
      two = cong_trans (cong_of_eq (pos 2) (ap (λ (b : ℕ). pos b +ℤ pos 1) b)) (record { quot = pos 1; eqn = refl })

  pub words_all : k ≡ n → Settles n r (bits p) (bits p')
  words_all e = record { on = λ A g. let h = q.goes A g in record { C = h.C; going = clear_all e h.clearing } }

-- ---- `settle`, before it clears: word r has bit r

pub record Led (n r : ℕ) (p p' : List ℕ) : Type 0 where
  pub long : length p' ≡ n
  pub one : Cong (pos 2) (bits p' r r) (pos 1)
  pub goes : (A : Matrix) → Reaches n 2 r A (bits p) → Reaches n 2 r A (bits p')

module _ {n r s : ℕ} {p : List ℕ} (z : length p ≡ n) (v : Pivot 2 n r (bits p) s) (h : r < n) (l : s < n) where
  pub led_here : s ≡ r → Led n r p p
  led_here e = record { long = z; one = odd_one (rw e at (v.some l)); goes = λ A g. g }

  pub led_join : s ≢ r → Led n r p (xored p r s)
  led_join e =
      let x = xor_step p r s (omega arith) in
      record {
        long = xored_long p r s z;
        one = odd_one (pivot_some h l e v x);
        goes = λ A g. record { C = moved r s (pos 1) (pos 1) g.C; going = going_add v.from l e (moved_is g.C) x g.going };
      }

pub led_on : {n r : ℕ} {p p' : List ℕ} {Q : Matrix} → Led n r p p' → Settles (length p') r (bits p') Q → Settles n r (bits p) Q
led_on {r = r} {p' = p'} {Q = Q} l w = let s = subst (λ (m : ℕ). Settles m r (bits p') Q) l.long w in record { on = λ A g. s.on A (l.goes A g) }

-- ---- the start

pub words_first : {n m : ℕ} (a : List ℤ) (p : List ℕ) → m ≡ n → length p ≡ m → CongM m (pos 2) (bits p) (entries m a) → (length p ≡ n) × Reaches n 2 0 (entries n a) (bits p)
words_first {n} {m} a p s l e =
    (l ∙ s, record { C = δ; going = going_first (cong_m_refl n (pos 2) δ) (subst (λ (m : ℕ). CongM m (pos 2) (bits p) (entries m a)) s e) })
