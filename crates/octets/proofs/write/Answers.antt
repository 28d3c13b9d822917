use mathlib.Core.Path.{◌≡◌, sym, ap, ap₂, ◌∙◌}
use mathlib.Core.List.{List, ◌++◌}
use Prim.Native.Nat.{ℕ, suc, ◌+◌, ◌*◌}
use native.Mathlib.Omega.{arith}
use lib.IntN.{ℤ, pos}
use Rattle.std.proofs.Common.{rules, length, slice_index_or, w64, FitsSigned}
use Rattle.std.proofs.lemmas.Slice.{take-put_mid}
use Rattle.numbers.proofs.Machine.{rd, rd_is}
use Rattle.octets.specs.Bytes.{bits64, least_first}
use Rattle.octets.proofs.Bytes.{eight_bytes, encode_more}
use Rattle.octets.proofs.write.Goals as goal

-- std makes the eight bytes of number i, and they stand behind those of the numbers before it
pub loop-i-preserved : goal.loop-i-preserved
loop-i-preserved c =
    let i = c.loop-i.i in
    let v : ℤ = slice_index_or c.args.list.now i (pos 0) in
    let fits : FitsSigned w64 v = search rules in
    let eight = c.copy_from_slice.ensures.after ∙ c.to_le_bytes.ensures ∙ eight_bytes (rd v) ∙ ap (λ (z : ℤ). least_first 8 (bits64 z)) (rd_is fits) in
    let e : 8 * (i + 1) ≡ 8 * i + 8 = omega arith in
    let s : i + 1 ≡ suc i = omega arith in
    rw s (take-put_mid (8 * i) _ c.loop-i.out c.copy_from_slice.new.self _ (omega (arith, e, ap length eight)) (omega arith)
    ∙ ap₂ (λ (a b : List ℕ). a ++ b) c.loop-i.invariant eight
    ∙ sym (encode_more c.args.list.now i c.loop-i-test.true))
