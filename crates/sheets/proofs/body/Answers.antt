use Rattle.std.proofs.Common.{rules}
use native.Mathlib.Omega.{arith}
use Rattle.sheets.proofs.Reading.Entries.{body_cells}
use Rattle.sheets.proofs.Reading.Ends.{filled, ends_short, ends_more, ends_whole}
use mathlib.Core.Path.{ap}
use mathlib.Core.List.{List, ◌++◌}
use Prim.Native.Nat.{◌*◌}
use lib.IntN.{ℤ}
use lib.ListN.{drop}
use Rattle.sheets.proofs.body.Goals as goal

pub overflow_mul-room : goal.overflow_mul-room
overflow_mul-room c = omega (arith, body_cells c.requires.0)

pub slice_bounds-room-end : goal.slice_bounds-room-end
slice_bounds-room-end c = let h = body_cells c.requires.0 in search rules

pub slice_bounds-found-end : goal.slice_bounds-found-end
slice_bounds-found-end c = let h = body_cells c.requires.0 in search rules

pub entries-requires : goal.entries-requires
entries-requires c = let h = body_cells c.requires.0 in search rules

pub returns-in_err-end : goal.returns-in_err-end
returns-in_err-end c =
    ends_short _ _ _ _ _ c.from_residual.result c.requires.1 c.entries.ensures c.in_err-end.was c.from_residual.ensures.1

pub returns-then-end-text : goal.returns-then-end-text
returns-then-end-text c = rw c.place.ensures (ends_more (filled _ _ _ c.entries.ensures c.in_ok-end.was) c.requires.1 c.if-end-text.true)

pub returns : goal.returns
returns c =
    ends_whole (filled _ _ _ c.entries.ensures c.in_ok-end.was) c.requires.1 c.if-end-text.false
    (ap (λ (x : List ℤ). x ++ drop (c.args.n * c.args.n) c.args.table.now) c.copy_from_slice.ensures.after)
