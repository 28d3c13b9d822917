-- Views: a stretch is one place and one list, so a view that is there or not is one, and so is what `row` hands back.
use mathlib.Core.Path.{sym, ◌∙◌}
use mathlib.Core.List.{List}
use Prim.Native.Nat.{ℕ, ◌*◌}
use mathlib.Core.Logic.Dec as dec
use native.Mathlib.Decide.{ℕ_discrete, dec_lt, map_dec}
use lib.IntN.{ℤ}
use lib.ListN.{length}
use denote.Ref.{Bor}
use Rattle.numbers.proofs.Answers.Decisions.{order?}
use Rattle.tables.specs.Views.{Stretch, Same, View, HasRow, RowGives}

-- ---- a view that is there or not, of elements of any width

pub stretch_unique : {T : Type 0} {width : ℕ} {t r s : Bor (List T)} {start size : ℕ} → Stretch width t r start size → Stretch width t s start size → Same r s
stretch_unique p q = record { memory = p.memory ∙ sym q.memory; place = p.place ∙ sym q.place; list = p.list ∙ sym q.list }

pub view_unique : {T : Type 0} {width : ℕ} {P : Type 0} {t r s : Bor (List T)} {start size : ℕ} → Dec P → View width P t r start size → View width P t s start size → Same r s
view_unique (yes h) p q = stretch_unique (p.there h) (q.there h)
view_unique (no f) p q = stretch_unique (p.none f) (q.none f)

-- ---- what `row` hands back is one

row? : (n size i : ℕ) → Dec (HasRow n size i)
row? n size i =
    map_dec (λ h. record { order = h.0; whole = h.1.0; inside = h.1.1 }) (λ r. (r.order, (r.whole, r.inside)))
    (dec.and (order? n) (dec.and (ℕ_discrete size (n * n)) (dec_lt i n)))

pub row_unique : {n i : ℕ} {t r s : Bor (List ℤ)} → RowGives n t i r → RowGives n t i s → Same r s
row_unique {n} {i} {t} = view_unique (row? n (length t.now) i)
