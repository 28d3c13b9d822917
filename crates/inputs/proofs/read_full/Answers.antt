use Rattle.std.proofs.Common.{◌≡◌, ℕ, ◌+◌, ◌-◌, ◌≤◌, List, ◌++◌, rules, length, take, sym, ap, ap₂, ◌∙◌, subst, drop_at, length-take-le}
use Rattle.std.specs.Io.KnownBytes.{Consumes}
use Rattle.std.proofs.KnownBytes.{Consumes-trans}
use borrow.Rule.Slice.PartMut.{put_mid, post_of}
use lib.Seq.{take-add, take_at, take-append-le}
use Rattle.inputs.proofs.read_full.Goals as goal

-- n bytes read into the rest of a text, from k on, stand behind its first k
put_behind : (k m n : ℕ) (text room : List ℕ) → k ≤ length text → n ≤ length room → take (k + n) (put_mid k m text room) ≡ take k text ++ take n room
put_behind k m n text room within fits =
    let after = post_of k m text in
    let len = length-take-le k text within in
    take-add k n (put_mid k m text room)
    ∙ ap₂ (λ (a b : List ℕ). a ++ b) (take_at (take k text) (room ++ after) k len) (ap (take n) (drop_at (take k text) (room ++ after) k len) ∙ take-append-le n room after fits)

pub loop-read-preserved : goal.loop-read-preserved
loop-read-preserved g c =
    let l = c.loop-read in
    let r = c.in-Ok in
    let joined = put_behind l.read (length l.text - l.read) r.more l.text c.read.new.buf l.invariant.0 r.ensures.bound.0 in
    (search rules, subst (Consumes _ _) (sym joined) (Consumes-trans _ _ _ _ _ l.invariant.1 r.ensures.bytes.0))
