-- The figures of the inverse call's answer for a lawful table, lent n² numbers: a number of at most 8, an exponent of at most 32, at most 4 lifts.
use mathlib.Core.Path.{◌≡◌, sym, subst}
use mathlib.Core.Logic.{inl, inr}
use mathlib.Core.List.{List}
use Prim.Native.Nat.{ℕ, ◌*◌, ◌≤◌}
use native.Mathlib.Omega.{arith}
use lib.IntN.{ℤ}
use lib.ListN.{length}
use Rattle.numbers.specs.Limits.{Lawful}
use Rattle.numbers.specs.Refusals.{Gives}
use Rattle.numbers.proofs.Counting.Leasts.{size_small}
use Rattle.tables.specs.Tables.{height}
use Rattle.tables.proofs.Checking.Heights.{height_one, legal_height}
use Rattle.verdict.specs.Verdict.{Told, after_0, after_7, after_8, inverse_refusals, InverseGives}
use Rattle.verdict.specs.declared.Outcome.{Outcome}

module _ {n : ℕ} {A L E : List ℤ} {o : Outcome} (law : Lawful n A) (size : length L ≡ n * n) (g : InverseGives n A L o E) where
  -- the refusals that are left
  told : Told o.number
  told = go o.number g.number
    where
      go : (k : ℕ) → Gives (inverse_refusals n A L) k → Told k
      go k (inl (f, e)) = absurd (f law.order)
      go k (inr (a, inl (inl f, e))) = absurd (f law.size)
      go k (inr (a, inl (inr f, e))) = absurd (f size)
      go k (inr (a, inr (b, inl (f, e)))) = absurd (f law.legal)
      go k (inr (a, inr (b, inr (c, inl (f, e))))) = subst Told (sym e) after_7
      go k (inr (a, inr (b, inr (c, inr (d, inl (f, e)))))) = subst Told (sym e) after_8
      go k (inr (a, inr (b, inr (c, inr (d, inr (f, e)))))) = subst Told (sym e) after_0

  pub number_most : o.number ≤ 8
  number_most = go told
    where
      go : {k : ℕ} → Told k → k ≤ 8
      go after_0 = omega arith
      go after_7 = omega arith
      go after_8 = omega arith

  pub exponent_most : o.exponent ≤ 32
  exponent_most =
      (g.values.told told).0.least 32
      (record { from = omega arith; reaches = (size_small n (height A) (law.order.from, (law.order.upto, (height_one A, legal_height A law.legal)))).2 })

  pub lifts_most : o.lifts ≤ 4
  lifts_most = (g.values.told told).1.least 4 law.order.upto
