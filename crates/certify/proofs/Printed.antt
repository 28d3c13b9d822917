-- The first 9,220 bytes decide, and 14,352 have room.
use mathlib.Core.Path.{◌≡◌, refl, sym, ap, ◌∙◌, subst}
use mathlib.Core.List.{List, ◌++◌}
use Prim.Native.Nat.{ℕ}
use native.Mathlib.Omega.{arith}
use lib.ListN.{length, take, drop, length-append}
use lib.Seq.{take_at}
use Rattle.inputs.proofs.Counting.{prefix_len_of_le}
use Rattle.reports.specs.Report.{IsReport, ReportGives, no_room, room}
use Rattle.reports.proofs.Cut.{report_cut}
use Rattle.certify.specs.Program.{Asked, Prints}

pub prints : {text old new : List ℕ} {n r : ℕ} → Asked text n old → ReportGives (take n text) old r new → Prints text n new r
prints a (no_room l) = absurd (omega (arith, a.out_size))
prints {text} {old} {n = n} a (room R l h) = record {
  within = prefix_len_of_le (length R) (R ++ drop (length R) old) (omega (arith, length-append R (drop (length R) old)));
  report = λ t e.
      let f : take n text ≡ take 9220 t = sym e ∙ ap (λ (k : ℕ). take k t) a.text_size in
      subst (IsReport t) (sym (take_at R (drop (length R) old) (length R) refl)) (report_cut t R (subst (λ (u : List ℕ). IsReport u R) f h));
}
