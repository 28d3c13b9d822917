use Prim.Native.Nat.{ℕ, ◌+◌, ◌*◌, ◌/◌, ◌%◌, ◌^◌, ◌<◌}
use mathlib.Core.List.{[]}
use lib.IntN.{pos}
use lib.ListN.{get_or}
use Rattle.tables.specs.Buffer.{Wrote}
use Rattle.eliminations.specs.Inverting.{back}
use Rattle.eliminations.proofs.inverting.unload.Given as goal

abbrev pub invariant-loop-i : goal.invariant-loop-i
invariant-loop-i l =
    ((i j : ℕ) → i < l.i → j < l.n → get_or (get_or l.t i []) (l.n + j) 0 < 2 ^ 32) × Wrote (pos 0) (λ (q : ℕ). back l.n l.t (q / l.n) (q % l.n)) 0 (l.i * l.n) l.initial.out l.out
