-- The first column of a table F, followed digit by digit in a buffer of four blocks: B_0 is in block 0, the column of the residue in block 2, and its digits
-- go to block 3. The other columns of F are lifted in the mind alone.
use mathlib.Core.Path.{◌≡◌, sym, subst, ◌∙◌}
use mathlib.Core.List.{List}
use Prim.Native.Nat.{ℕ, ◌+◌, ◌*◌, ◌^◌, ◌≤◌}
use native.Mathlib.Numerals.{add-one}
use native.Mathlib.Omega.{arith}
use lib.IntN.{ℤ, nat_abs}
use lib.ListN.{length}
use Rattle.tables.specs.Tables.{Matrix, Below, ◌≈⟨◌⟩◌, block, entries, height}
use Rattle.tables.specs.Buffer.{Has}
use Rattle.tables.proofs.Algebra.Matrix.{≈-sym, ≈-trans}
use Rattle.lifting.specs.Linear.{IsLinear}
use Rattle.lifting.specs.Steps.{Stage, SameColumn, next_residue, ToColumnDigit, ColumnDigited}
use Rattle.lifting.proofs.Expansions.Stands.{Stands}
use Rattle.lifting.proofs.Expansions.Linear.{linear_more, linear_resp}
use Rattle.lifting.proofs.Calls.Holding.{used_stands}
use Rattle.lifting.proofs.Calls.Sizes.{setting_some, stands_low}
use Rattle.lifting.proofs.Calls.Stepping.{stage_resp}

-- after X was used m times, from the buffer K; B_0 and block 1 are kept
pub record Follows (n X : ℕ) (A : List ℤ) (F : Matrix) (K : List ℤ) (m : ℕ) (L : List ℤ) : Type 0 where
  pub stage : Stage n X A L
  pub small : Below n (λ i j. 10 * nat_abs (F i j) ≤ X)
  pub some : 1 ≤ m
  pub room : Has n L 3
  pub long : length L ≡ length K
  pub same : (b : ℕ) → b ≤ 1 → block n L b ≈⟨ n ⟩ block n K b
  pub residue : Matrix
  pub rule : IsLinear n X (entries n A) (block n L 0) F m residue
  pub column : SameColumn n (block n L 2) residue

module _ {n X : ℕ} {A : List ℤ} {F : Matrix} {K : List ℤ} {m : ℕ} {L : List ℤ} (q : Follows n X A F K m L) where
  pub follows_stands : Stands n (height A) (entries n A) F q.residue (X ^ m)
  follows_stands = used_stands q.stage.setting q.small q.some q.rule

  pub follows_asks : ToColumnDigit n X A L 2 3
  follows_asks = record {
    stage = q.stage;
    here = omega (arith, q.room);
    low = λ i h. rw (q.column i h) ((stands_low q.stage.setting.lawful follows_stands).low i 0 h q.stage.setting.lawful.order.from);
    digit = q.room;
    r_d = λ z. omega arith;
    base_d = λ z. omega arith;
    base_r = λ z. omega arith;
  }

  pub follows_more : {M : List ℤ} → ColumnDigited n X A L M 2 3 → Follows n X A F K (m + 1) M
  follows_more {M} p = record {
    stage = stage_resp (kept 0 (omega arith)) q.stage;
    small = q.small;
    some = omega arith;
    room = omega (arith, q.room, p.long);
    long = p.long ∙ q.long;
    same = λ b l. ≈-trans (kept b l) (q.same b l);
    residue = T;
    rule = subst (λ (k : ℕ). IsLinear n X (entries n A) (block n M 0) F k T) (sym (add-one m)) (linear_resp (≈-sym (kept 0 (omega arith))) (linear_more (setting_some q.stage.setting) q.stage.right q.rule));
    column = p.step q.residue q.column;
  }
    where
      T : Matrix
      T = next_residue n X (entries n A) (block n L 0) q.residue

      kept : (b : ℕ) → b ≤ 1 → block n M b ≈⟨ n ⟩ block n L b
      kept b l = p.rest b (λ e. omega arith) (λ e. omega arith)
