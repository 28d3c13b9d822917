-- One column tells a no. The program follows the first column of the linear residue of I (lifting, Following). Where a whole inverse exists, this residue is 0
-- once X^m is large enough, and n digits are.
use mathlib.Core.Path.{◌≡◌, refl, sym, ◌∙◌}
use mathlib.Core.Bool.{Bool, true, false, not, false≢true}
use mathlib.Core.List.{List}
use Prim.Native.Nat.{ℕ, ◌*◌, ◌-◌, ◌^◌, ◌≤◌}
use native.Mathlib.Nat.{mul-le-mul_left}
use native.Mathlib.Omega.{arith}
use lib.IntN.{ℤ}
use lib.ListN.{length}
use Rattle.numbers.specs.Says.{Tells}
use Rattle.numbers.proofs.Algebra.Sum.{δ}
use Rattle.tables.specs.Tables.{◌≈⟨◌⟩◌, block, entries, height}
use Rattle.kernels.specs.Columns.{ColumnPut, ColumnZero}
use Rattle.tables.proofs.Algebra.Matrix.{≈-refl, ≈-sym, ≈-trans}
use Rattle.tables.proofs.Checking.Heights.{height_one, entries_low}
use Rattle.tables.proofs.Inverses.Residue.{bound_power}
use Rattle.lifting.specs.Lifting.{IsStart}
use Rattle.lifting.specs.Steps.{Setting, SameColumn}
use Rattle.lifting.proofs.Expansions.Rules.{start_resp}
use Rattle.lifting.proofs.Expansions.Bound.{δ_size}
use Rattle.lifting.proofs.Expansions.Stands.{stands_whole}
use Rattle.lifting.proofs.Expansions.Linear.{linear_start}
use Rattle.lifting.proofs.Calls.Holding.{holds_first, holds_stage}
use Rattle.lifting.proofs.Calls.Following.{Follows, follows_stands}
use Rattle.verdict.specs.Parts.{Fails}
use Rattle.verdict.proofs.Buffer.{in_buffer}

-- E before the first column of R_0 was copied, K after it
module _ {n : ℕ} {E K : List ℤ} (p : ColumnPut n (λ i. block n E 1 i 0) 2 E K) where
  kept : (b : ℕ) → b ≤ 1 → block n K b ≈⟨ n ⟩ block n E b
  kept b l = p.rest b (λ e. omega arith)

  pub copied_start : (X : ℕ) (A : List ℤ) → IsStart n X (entries n A) (block n E 0) (block n E 1) → IsStart n X (entries n A) (block n K 0) (block n K 1)
  copied_start X A s = start_resp s (≈-sym (kept 0 (omega arith))) (≈-sym (kept 1 (omega arith)))

  pub copied_column : 1 ≤ n → SameColumn n (block n K 2) (block n K 1)
  copied_column one i h = p.there i h ∙ sym (kept 1 (omega arith) i 0 h one)

  pub copied_fails : {A : List ℤ} {b : Bool} {L : List ℤ} → Fails n A K b L → Fails n A E b L
  copied_fails f = record { long = f.long ∙ p.long; none = f.none; rest = λ b l. ≈-trans (f.rest b l) (kept b l) }

-- R_0 is the residue after X was used once
pub follows_start : {n X : ℕ} {A K : List ℤ} → Setting n X A → length K ≡ 4096 → IsStart n X (entries n A) (block n K 0) (block n K 1)
    → SameColumn n (block n K 2) (block n K 1) → Follows n X A δ K 1 K
follows_start {n} {X} {A} {K} g long start same = record {
  stage = holds_stage g (holds_first {A = A} {L = K} start);
  small = λ i j a b. omega (arith, δ_size i j, g.suits.from);
  some = omega arith;
  room = in_buffer 3 g.lawful.order.upto (omega arith) long;
  long = refl;
  same = λ b l. ≈-refl n (block n K b);
  residue = block n K 1;
  rule = linear_start start;
  column = same;
}

module _ {n X : ℕ} {A K : List ℤ} {m : ℕ} {L : List ℤ} (q : Follows n X A δ K m L) where
  -- the column vanishes: nothing is told
  pub fails_not : Fails n A K false L
  fails_not = record { long = q.long; none = λ e. absurd (false≢true e); rest = q.same }

  pub fails_so : n ≤ m → ¬ ColumnZero n (block n L 2) → Fails n A K true L
  fails_so a f = record {
    long = q.long;
    none = λ e w. f (λ i h. q.column i h ∙ stands_whole (follows_stands q) (height_one A) (entries_low n A) far w i 0 h one);
    rest = q.same;
  }
    where
      one : 1 ≤ n
      one = q.stage.setting.lawful.order.from

      -- 4·(n·h)^(n-1) ≤ X^m
      far : 4 * (n * height A) ^ (n - 1) ≤ X ^ m
      far =
          let s = q.stage.setting.suits in
          let small : 4 * (n * height A) ≤ X = omega (arith, mul-le-mul_left (n * height A) one, s.reaches) in
          bound_power (n * height A) X (n - 1) m small (omega (arith, s.from)) (omega arith) q.some

  -- the column's test decides, after n digits
  pub fails_told : n ≤ m → (b : Bool) → Tells (ColumnZero n (block n L 2)) b → Fails n A K (not b) L
  fails_told a true t = fails_not
  fails_told a false t = fails_so a (t.no refl)
