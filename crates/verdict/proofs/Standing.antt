-- The inverse in the buffer of the work: it stands in block 0, whose numbers are those of an output.
use mathlib.Core.Path.{◌≡◌, refl, sym, ap, subst, ◌∙◌}
use mathlib.Core.Logic.{◌≢◌}
use mathlib.Core.List.{List}
use Prim.Native.Nat.{ℕ, ◌+◌, ◌*◌, ◌<◌}
use native.Mathlib.Omega.{arith}
use lib.IntN.{ℤ, pos}
use lib.Arith.{digits_lt}
use lib.ListN.{length, get_or, take}
use lib.Seq.{length-take-le, get_or-take, ext_get_or}
use Rattle.numbers.specs.Limits.{IsOrder, IsNarrow}
use Rattle.numbers.specs.Refusals.{Gives}
use Rattle.tables.specs.Tables.{◌≈⟨◌⟩◌, entries, block}
use Rattle.tables.proofs.Algebra.Matrix.{≈-refl, ≈-trans, ·-cong}
use Rattle.tables.specs.Buffer.{Copied}
use Rattle.tables.proofs.Buffers.Places.{square_small}
use Rattle.verdict.specs.Verdict.{Narrow, IsNarrowInverse, inverse_refusals, InverseGives}
use Rattle.verdict.specs.Parts.{Summed, Standing}
use Rattle.verdict.specs.declared.Outcome.{Outcome}

-- the numbers of block 0
pub front_size : {n : ℕ} (M : List ℤ) → IsOrder n → length M ≡ 4096 → length (take (n * n) M) ≡ n * n
front_size {n} M order long = length-take-le (n * n) M (omega (arith, square_small order.upto))

-- they are its entries
front_same : (n : ℕ) (M : List ℤ) → entries n (take (n * n) M) ≈⟨ n ⟩ block n M 0
front_same n M i j a b = let e : i * n + j ≡ 0 * (n * n) + (i * n + j) = omega arith in get_or-take (n * n) M (i * n + j) (pos 0) (digits_lt a b) ∙ ap (λ (m : ℕ). get_or M m (pos 0)) e

pub standing : {n : ℕ} {A M : List ℤ} → IsOrder n → length M ≡ 4096 → Summed n A M → Narrow n (block n M 0) → IsNarrowInverse n (entries n A) (take (n * n) M)
standing {n} {A} {M} order long sum narrow = record {
  size = front_size M order long;
  right = ≈-trans (·-cong n (≈-refl n (entries n A)) (front_same n M)) sum.right;
  narrow = λ i j a b. subst (λ (z : ℤ). IsNarrow z) (sym (front_same n M i j a b)) (narrow i j a b);
}

-- an output counts by its length alone: what stands is what the inverse call gives in any output of n² numbers
module _ {n : ℕ} {A M : List ℤ} {o : Outcome} (order : IsOrder n) (long : length M ≡ 4096) (stands : Standing n A o M) where
  same_number : (L : List ℤ) → length L ≡ n * n → Gives (inverse_refusals n A L) o.number
  same_number L size = rw (front_size M order long ∙ sym size) at stands.gives.number

  pub left_as_it_was : {L : List ℤ} → length L ≡ n * n → o.number ≢ 0 → InverseGives n A L o L
  left_as_it_was {L} size f = record { number = same_number L size; values = stands.gives.values; kept = λ g. refl; written = λ z. absurd (f z) }

  pub copied_out : {L E : List ℤ} → length L ≡ n * n → o.number ≡ 0 → Copied (n * n) M L E → InverseGives n A L o E
  copied_out {L} {E} size z c = record {
    number = same_number L size;
    values = stands.gives.values;
    kept = λ f. absurd (f z);
    written = λ g. subst (IsNarrowInverse n (entries n A)) (sym same) (stands.gives.written z);
  }
    where
      same : E ≡ take (n * n) M
      same =
          ext_get_or (pos 0) E (take (n * n) M) (c.long ∙ size ∙ sym (front_size M order long)) λ i h.
          let k : i < n * n = omega (arith, c.long, size) in
          c.same i k ∙ sym (get_or-take (n * n) M i (pos 0) k)
