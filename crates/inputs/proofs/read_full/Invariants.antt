use Rattle.std.proofs.Common.{length, take, ◌-◌, ◌≤◌}
use Rattle.std.specs.Io.KnownBytes.{Consumes}
use Rattle.inputs.proofs.read_full.Given as goal

-- what stands in the text so far is what the input gave
abbrev pub invariant-loop-read : goal.invariant-loop-read
invariant-loop-read g l = (l.read ≤ length l.text) × Consumes (g.R.Read.remaining l.initial.input) (g.R.Read.remaining l.input) (take l.read l.text)

abbrev pub decreases-loop-read : goal.decreases-loop-read
decreases-loop-read g l = length l.text - l.read
