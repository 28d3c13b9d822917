use native.Mathlib.Nat.{one-mul, mod-eq_of_lt, lt_trans}
use lib.Pow.{pow-lt}
use mir.Facts.{to_z_pos}
use Rattle.std.proofs.Common.{rules, ◌^◌, ◌<◌, w64}
use Rattle.numbers.proofs.pow2.Goals as goal

pub returns : goal.returns
returns c =
    let h : 2 ^ c.args.e < 2 ^ 63 = pow-lt c.requires in
    let k : 2 ^ c.args.e < 2 ^ 64 = lt_trans h (search rules) in
    simp (one-mul, mod-eq_of_lt k, to_z_pos w64 h)
