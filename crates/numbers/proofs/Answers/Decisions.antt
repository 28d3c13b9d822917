-- What can be decided: so a double negation of it tells it.
use mathlib.Core.List.{List, [], ◌∷◌}
use Prim.Native.Nat.{ℕ, ◌^◌}
use mathlib.Core.Logic.Dec as dec
use native.Mathlib.Decide.{dec_le, map_dec}
use lib.IntN.{ℤ, nat_abs}
use Rattle.numbers.specs.Limits.{IsOrder, All, Legal}

pub stable : {P : Type 0} → Dec P → ¬ ¬ P → P
stable d = (dec.not-not d).0

all? : {T : Type 0} (P : T → Type 0) → ((v : T) → Dec (P v)) → (L : List T) → Dec (All P L)
all? P d [] = yes tt
all? P d (v ∷ L) = dec.and (d v) (all? P d L)

pub order? : (n : ℕ) → Dec (IsOrder n)
order? n = map_dec (λ h. record { from = h.0; upto = h.1 }) (λ o. (o.from, o.upto)) (dec.and (dec_le 1 n) (dec_le n 32))

pub legal? : (L : List ℤ) → Dec (Legal L)
legal? = all? _ (λ v. dec_le (nat_abs v) (2 ^ 20))
