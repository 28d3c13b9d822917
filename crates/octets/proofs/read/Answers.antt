use mathlib.Core.Path.{◌≡◌, sym, ap, ap₂, ◌∙◌}
use mathlib.Core.List.{List, [], ◌∷◌, ◌++◌}
use Prim.Native.Nat.{ℕ, suc, ◌+◌, ◌/◌}
use native.Mathlib.Omega.{arith}
use lib.IntN.{ℤ, pos}
use lib.Seq.{take-suc, take-suc-set, take_all}
use Rattle.std.proofs.Common.{length, get_or}
use Rattle.std.specs.Simd.{first_chunks}
use Rattle.numbers.proofs.Machine.{rd, rd_got}
use Rattle.octets.specs.Bytes.{decode}
use Rattle.octets.proofs.Bytes.{length_decode, decode_chunk}
use Rattle.octets.proofs.read.Goals as goal

-- what std reads of chunk i is number i of what is decoded
number : (c : goal.After-entry) → rd c.entry.result ≡ get_or (decode c.args.bytes.now) c.loop-i.i (pos 0)
number c =
    let m : length c.args.bytes.now / 4 ≡ length c.args.out.now = omega arith in
    let fours = c.as_chunks.ensures.front ∙ ap (λ (k : ℕ). first_chunks 4 k c.args.bytes.now) m in
    rd_got c.entry.result c.entry.type_inv
    (decode_chunk (length c.args.out.now) c.args.bytes.now c.loop-i.i (omega arith) c.requires
    (c.entry.ensures ∙ ap (λ (t : List (List ℕ)). decode (get_or t c.loop-i.i [])) fours))

pub loop-i-preserved : goal.loop-i-preserved
loop-i-preserved c =
    let i = c.loop-i.i in
    let s : i + 1 ≡ suc i = omega arith in
    let within = length_decode (length c.args.out.now) c.args.bytes.now c.requires in
    rw s (take-suc-set c.loop-i.out i (rd c.entry.result) (omega arith)
    ∙ ap₂ (λ (l : List ℤ) (x : ℤ). l ++ (x ∷ [])) c.loop-i.invariant (number c)
    ∙ sym (take-suc (decode c.args.bytes.now) i (pos 0) (omega (arith, within))))

pub returns : goal.returns
returns c =
    let within = length_decode (length c.args.out.now) c.args.bytes.now c.requires in
    sym (take_all c.loop-i.i c.loop-i.out (omega arith)) ∙ c.loop-i.invariant ∙ take_all c.loop-i.i (decode c.args.bytes.now) (omega (arith, within))
