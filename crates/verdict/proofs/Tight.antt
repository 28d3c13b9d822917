-- How tight the statements are: the verdict is the rule's, and refuses by no other numbers than 1, 3 and 4; and what the calls' promises leave on some starred
-- tables, by uniqueness. A build that refuses everything, one with a constant verdict, one that writes no block, one that fills later blocks with zeros, one that
-- invents need or k, and one with remainders from 0 to X - 1 break one of these.
use mathlib.Core.Path.{◌≡◌, refl, sym, subst}
use mathlib.Core.Logic.{◌⊎◌, inl, inr}
use mathlib.Core.List.{List, [], ◌∷◌}
use Prim.Native.Nat.{ℕ, zero, suc, ◌<◌}
use native.Mathlib.Nat.{not-suc-le-zero, le_of_suc-le-suc}
use native.Mathlib.Omega.{arith}
use lib.IntN.{ℤ, pos}
use lib.ListN.{length, get_or}
use Rattle.numbers.specs.Limits.{All}
use Rattle.numbers.specs.Reasons.{refusal_number}
use Rattle.numbers.specs.declared.refusals.Refusal.{Refusal}
use Rattle.numbers.specs.declared.refusals.Refusal.TheVariants.{Order, Length, Entry}
use Rattle.numbers.proofs.Answers.Reasons.{refusal_unique}
use Rattle.numbers.specs.Refusals.{Gives}
use Rattle.lifting.specs.Lifting.{LiftGives}
use Rattle.lifting.specs.Steps.{Ready}
use Rattle.lifting.proofs.Expansions.Unique.{lift_unique}
use Rattle.lifting.proofs.Calls.Refusals.{lift_done}
use Rattle.numbers.proofs.Counting.Search.{enough_sound}
use Rattle.tables.proofs.Checking.Lawful.{lawful_sound}
use Rattle.verdict.specs.Verdict.{RuleYes, answer, outcome_of, Told, after_0, after_7, verdict_refusals, VerdictGives, InverseGives}
use Rattle.verdict.specs.Starred.{minus, Case, lifts_are, Claim, starred, thin}
use Rattle.verdict.specs.declared.Ruling.{Ruling}
use Rattle.verdict.specs.declared.Ruling.TheVariants.{Yes, No, Refused}
use Rattle.verdict.specs.declared.Outcome.{Outcome}
use Rattle.verdict.proofs.Cases.{proved}
use Rattle.verdict.proofs.Refusals.{zeros_untold, passed, passed_no}
use Rattle.verdict.proofs.Rule.{rule_right}
use Rattle.verdict.proofs.Unique.{ruling_unique, inverse_call_unique}

-- ---- the answer is the rule's

pub yes_by_rule : {n e l : ℕ} {A : List ℤ} → VerdictGives n A (outcome_of (Yes e l)) → RuleYes n A
yes_by_rule {n} {e} {l} {A} v = (rule_right (passed n A v.number)).1 (v.whole refl)

pub no_by_rule : {n e l : ℕ} {A : List ℤ} → VerdictGives n A (outcome_of (No e l)) → ¬ RuleYes n A
no_by_rule {n} {e} {l} {A} v y = let p = passed_no n A v.number in p.1 ((rule_right p.0).0 y)

-- so `Refused(7)` is no answer, and neither is `Refused(0)`
pub refused_by : {n k : ℕ} {A : List ℤ} → VerdictGives n A (outcome_of (Refused k)) → (k ≡ 1) ⊎ ((k ≡ 3) ⊎ (k ≡ 4))
refused_by {n} {k} {A} v = go v.number
  where
    go : Gives (verdict_refusals n A) k → (k ≡ 1) ⊎ ((k ≡ 3) ⊎ (k ≡ 4))
    go (inl (f, e)) = inl e
    go (inr (o, inl (f, e))) = inr (inl e)
    go (inr (o, inr (a, inl (f, e)))) = inr (inr e)
    go (inr (o, inr (a, inr (p, inl (f, e))))) = absurd (zeros_untold v.values (subst Told (sym e) after_7))
    go (inr (o, inr (a, inr (p, inr (w, e))))) = absurd (zeros_untold v.values (subst Told (sym e) after_0))

-- so of the reasons, the verdict gives three
pub refused_for : {n : ℕ} {A : List ℤ} (r : Refusal) → VerdictGives n A (outcome_of (Refused (refusal_number r))) → (r ≡ Order) ⊎ ((r ≡ Length) ⊎ (r ≡ Entry))
refused_for {n} {A} r v = go (refused_by v)
  where
    go : (refusal_number r ≡ 1) ⊎ ((refusal_number r ≡ 3) ⊎ (refusal_number r ≡ 4)) → (r ≡ Order) ⊎ ((r ≡ Length) ⊎ (r ≡ Entry))
    go (inl e) = inl (refusal_unique r Order e)
    go (inr (inl e)) = inr (inl (refusal_unique r Length e))
    go (inr (inr e)) = inr (inr (refusal_unique r Entry e))

-- ---- what is left on some starred tables

-- line i of the starred table, from 0
line_of : (i : ℕ) (cs : List Case) → All Claim cs → i < length cs → Claim (get_or cs i (lifts_are 1 0))
line_of i [] e h = absurd (not-suc-le-zero h)
line_of zero (c ∷ cs) e h = e.0
line_of (suc i) (c ∷ cs) e h = line_of i cs e.1 (le_of_suc-le-suc h)

line : (i : ℕ) → i < length starred → Claim (get_or starred i (lifts_are 1 0))
line i h = line_of i starred proved h

-- [3] at e = 14, one lift
pub lift_of_3 : {L E : List ℤ} {k : ℕ} → length L ≡ 4 → LiftGives 1 1 14 (pos 3 ∷ []) L k E
    → (k ≡ 0) × (E ≡ minus 5461 ∷ pos 1 ∷ minus 5461 ∷ pos 1 ∷ [])
unfolding starred
lift_of_3 {L} z p = lift_unique p (line 12 (omega arith) L z)

-- [-1] at e = 14: with remainders from 0 to X - 1, B_0 would be 16383
pub lift_of_minus_1 : {L E : List ℤ} {k : ℕ} → length L ≡ 2 → LiftGives 1 0 14 (minus 1 ∷ []) L k E → (k ≡ 0) × (E ≡ minus 1 ∷ pos 0 ∷ [])
unfolding starred
lift_of_minus_1 {L} z p = lift_unique p (lift_done ready (minus 1 ∷ pos 0 ∷ []) (line 11 (omega arith)).0.expansion)
  where
    ready : Ready 1 0 14 (minus 1 ∷ []) (length L)
    ready = record { lawful = lawful_sound 1 (minus 1 ∷ []) tt; lifts = omega arith; enough = enough_sound 1 1 14 tt; top = omega arith; room = z }

pub verdict_of_1 : (r : Ruling) → VerdictGives 1 (pos 1 ∷ []) (outcome_of r) → r ≡ Yes 14 0
unfolding starred
verdict_of_1 r p = ruling_unique 1 (pos 1 ∷ []) r (Yes 14 0) p (line 10 (omega arith)).0.verdict

pub verdict_of_3 : (r : Ruling) → VerdictGives 1 (pos 3 ∷ []) (outcome_of r) → r ≡ No 14 0
unfolding starred
verdict_of_3 r p = ruling_unique 1 (pos 3 ∷ []) r (No 14 0) p (line 13 (omega arith)).1.0

-- [24929 0; 0 673], whose determinant is 1 modulo 2^19
pub verdict_of_673 : (r : Ruling) → VerdictGives 2 (pos 24929 ∷ pos 0 ∷ pos 0 ∷ pos 673 ∷ []) (outcome_of r) → r ≡ No 19 0
unfolding starred
verdict_of_673 r p = ruling_unique 2 (pos 24929 ∷ pos 0 ∷ pos 0 ∷ pos 673 ∷ []) r (No 19 0) p (line 27 (omega arith)).1.0

-- the 3 by 3 table: need 25, one lift, and the inverse
pub verdict_of_thin : (r : Ruling) → VerdictGives 3 thin (outcome_of r) → r ≡ Yes 25 1
unfolding starred
verdict_of_thin r p = ruling_unique 3 thin r (Yes 25 1) p (line 24 (omega arith)).0.verdict

pub inverse_of_thin : {L E : List ℤ} {o : Outcome} → length L ≡ 9 → InverseGives 3 thin L o E
    → (o ≡ answer 0 25 1) × (E ≡ pos 1 ∷ minus 262144 ∷ pos 137438953472 ∷ pos 0 ∷ pos 1 ∷ minus 524288 ∷ pos 0 ∷ pos 0 ∷ pos 1 ∷ [])
unfolding starred
inverse_of_thin {L} z p = inverse_call_unique p ((line 24 (omega arith)).1 L z)

-- [-1], which with remainders from 0 to X - 1 has B_0 = 16383
pub inverse_of_minus_1 : {L E : List ℤ} {o : Outcome} → length L ≡ 1 → InverseGives 1 (minus 1 ∷ []) L o E → (o ≡ answer 0 14 0) × (E ≡ minus 1 ∷ [])
unfolding starred
inverse_of_minus_1 {L} z p = inverse_call_unique p ((line 11 (omega arith)).1 L z)
