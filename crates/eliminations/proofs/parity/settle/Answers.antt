-- Where the two ways meet, word r has bit r and the work done so far is kept.
use Rattle.std.proofs.Common.{◌≡◌, ◌≢◌, ◌⊎◌, ◌<◌, ℕ, List, length, inl, inr, refl}
use Rattle.numbers.proofs.Answers.Says.{say_yes}
use Rattle.eliminations.specs.Elimination.{Pivot}
use Rattle.eliminations.specs.Parity.{bits, xored}
use Rattle.eliminations.proofs.Reduction.Words.{Led, led_here, led_join, led_on}
use Rattle.eliminations.proofs.parity.settle.Goals as goal
use Rattle.eliminations.proofs.parity.settle.Goals.{then-s-r, else-s-r}

led : {n r s : ℕ} {p q : List ℕ} → length p ≡ n → r < n → (s < n) × Pivot 2 n r (bits p) s → ((s ≢ r) × (q ≡ xored p r s)) ⊎ ((s ≡ r) × (q ≡ p)) → Led n r p q
led z h v (inl (e, g)) = rw g (led_join z v.1 h v.0 e)
led z h v (inr (e, g)) = rw g (led_here z v.1 h v.0 e)

pub clear-requires-clause-one : goal.clear-requires-clause-one
clear-requires-clause-one c =
    (led refl c.requires.0 c.in-Some.ensures (elim c.if-s-r.branch [ then-s-r w ↦ inl (w.if-s-r.true, w.p-is) | else-s-r w ↦ inr (w.if-s-r.false, w.p-is) ])).one

pub returns : goal.returns
returns c =
    say_yes (led_on (led refl c.requires.0 c.in-Some.ensures (elim c.if-s-r.branch [ then-s-r w ↦ inl (w.if-s-r.true, w.p-is) | else-s-r w ↦ inr (w.if-s-r.false, w.p-is) ])) c.clear.ensures)
