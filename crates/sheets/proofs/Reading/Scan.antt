-- One turn of the loop that reads a number.
use mathlib.Core.Path.{◌≡◌, sym, ap, ap₂, ◌∙◌, subst}
use mathlib.Core.List.{List}
use Prim.Native.Nat.{ℕ, ◌+◌, ◌≤◌, ◌<◌, ◌^◌}
use native.Mathlib.Numerals.{add-one}
use native.Mathlib.Omega.{arith}
use lib.IntN.{ℤ, pos, negsuc, nat_abs}
use lib.Signed.{mag}
use lib.ListN.{length, drop, get_or}
use lib.Seq.{drop-cons}
use Rattle.sheets.specs.declared.cursor.Cursor.{Cursor}
use Rattle.sheets.specs.declared.number.Form.{Form}
use Rattle.sheets.specs.declared.number.Seen.{Seen}
use Rattle.sheets.specs.declared.number.Seen.TheVariants.{Nothing}
use Rattle.sheets.specs.declared.number.Next.{Next}
use Rattle.sheets.specs.declared.number.Next.TheVariants.{Go}
use Rattle.sheets.specs.Digits.{after_byte, Allowed}
use Rattle.std.specs.Prelude.{Option, Some}
use Rattle.sheets.specs.Model.{Sane, moved, ahead, scan}
use Rattle.sheets.proofs.Reading.Cursors.{sane_moved}
use Rattle.sheets.proofs.Stages.Numerals.{Fine, fine}

-- i of the bytes after the cursor c₀ are read: c stands behind them, and s has been seen
pub record Going (f : Form) (c₀ : Cursor) (bs : List ℕ) (c : Cursor) (s : Seen) (i : ℕ) : Type 0 where
  pub here : c.offset ≡ c₀.offset + i
  pub inside : i ≤ length bs
  pub sane : Sane c
  pub allowed : Allowed f s
  pub same : scan f s c (drop i bs) ≡ scan f Nothing c₀ bs

pub small : (z : ℤ) → nat_abs z ≤ 1048576 → mag z < 2 ^ 63
small (pos n) h = omega arith
small (negsuc n) h = omega arith

module _ {f : Form} {c₀ c : Cursor} {bs : List ℕ} {s : Seen} {i : ℕ} (g : Going f c₀ bs c s i) where
  module _ (h : i < length bs) where
    on : (r : Option Next) → after_byte f s (get_or bs i 0) ≡ r
        → ahead c (get_or bs i 0) (λ s'. scan f s' (moved c (get_or bs i 0)) (drop (i + 1) bs)) r ≡ scan f Nothing c₀ bs
    on r e =
        ap₂ (λ (k : ℕ) (x : Option Next). ahead c (get_or bs i 0) (λ s'. scan f s' (moved c (get_or bs i 0)) (drop k bs)) x) (add-one i) (sym e)
        ∙ ap (scan f s c) (sym (drop-cons bs i 0 h)) ∙ g.same

    checked : (r : Option Next) → after_byte f s (get_or bs i 0) ≡ r → Fine f s (get_or bs i 0) r
    checked r e = subst (Fine f s (get_or bs i 0)) e (fine f s (get_or bs i 0) g.allowed)

    -- one byte on: more of the number, a whole one, or none
    pub going_on : {s' : Seen} → after_byte f s (get_or bs i 0) ≡ Some (Go s') → Going f c₀ bs (moved c (get_or bs i 0)) s' (i + 1)
    going_on {s'} e = record {
      here = omega (arith, g.here);
      inside = omega arith;
      sane = sane_moved c (get_or bs i 0) g.sane;
      allowed = (checked (Some (Go s')) e).0;
      same = on (Some (Go s')) e;
    }
