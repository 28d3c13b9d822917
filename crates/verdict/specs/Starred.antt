-- The starred cases of document 01, "Tried by hand": one table (`starred`), under one claim (`Claim`); proofs/Cases.antt proves every line.
--   minus n              -n
--   Case                 what a line of the table says, with what shows it in brackets
--   Answers n A o E      what the inverse call gives whatever the lent buffer L held: o, and E L in the buffer
--   RuledYes n e k A E   what holds after a yes: the rule, the expansion E of k lifts at e, and the verdict
--   Claim c              the claim of a line, about the rules and the calls' statements
--   thin, thick          the 3 by 3 table of document 01, and the same with 262145
--   thin_expansion, thick_expansion   their expansions (corner: what follows B_0)
--   starred              the table of cases
use Rattle.std.specs.Prelude.{◌≡◌, List, [], ◌∷◌, ℕ, ◌+◌, ◌*◌, ◌^◌, ◌≤◌, ℤ, pos, neg_ℤ, length, replicate}
use Rattle.tables.specs.Tables.{entries, height}
use Rattle.lifting.specs.Lifting.{IsExpansion, LiftGives}
use Rattle.numbers.specs.Numbers.{Enough, IsNeed, IsLifts}
use Rattle.verdict.specs.Verdict.{RuleYes, answer, VerdictGives, InverseGives}
use Rattle.verdict.specs.declared.Outcome.{Outcome}

abbrev pub minus : ℕ → ℤ
minus n = neg_ℤ (pos n)

pub data Case : Type 0 where
  -- need is e for order n and height h; k(n) is k
  need_of : (n h e : ℕ) → Case
  lifts_are : (n k : ℕ) → Case
  -- lift with s lifts at e writes E
  lift_writes : (n e s : ℕ) (A E : List ℤ) → Case
  -- lift gives 6. (v·A is even, and v is odd at place c)
  lift_gives_6 : (n : ℕ) (A v : List ℤ) (c : ℕ) → Case
  -- the rule says yes, and so does the verdict, with e and k; the expansion of k lifts is E; and the inverse call writes B
  inverse_is : (n e k : ℕ) (A E B : List ℤ) → Case
  -- the same, but the inverse call gives 8. (B is the inverse)
  too_wide : (n e k : ℕ) (A E B : List ℤ) → Case
  -- the rule says no, and so do the verdict and the inverse call, with e and k. (v·A is 0 modulo m, and v is not, at place c)
  verdict_no_with : (n e k : ℕ) (A : List ℤ) (m : ℕ) (v : List ℤ) (c : ℕ) → Case

-- what inverse gives whatever the lent buffer held
abbrev pub Answers : (n : ℕ) (A : List ℤ) → Outcome → (List ℤ → List ℤ) → Type 0
Answers n A o E = (L : List ℤ) → length L ≡ n * n → InverseGives n A L o (E L)

-- what holds after a yes
pub record RuledYes (n e k : ℕ) (A E : List ℤ) : Type 0 where
  pub rule : RuleYes n A
  pub expansion : IsExpansion n (2 ^ e) k (entries n A) E
  pub verdict : VerdictGives n A (answer 0 e k)

abbrev pub Claim : Case → Type 0
Claim (need_of n h e) = IsNeed n h e
Claim (lifts_are n k) = IsLifts n k
Claim (lift_writes n e s A E) = (L : List ℤ) → length L ≡ (2 * s + 2) * (n * n) → LiftGives n s e A L 0 E
Claim (lift_gives_6 n A v c) =
    (s e : ℕ) (L : List ℤ) → s ≤ 4 → Enough n (height A) e → e ≤ 32 → length L ≡ (2 * s + 2) * (n * n) → LiftGives n s e A L 6 L
Claim (inverse_is n e k A E B) = RuledYes n e k A E × Answers n A (answer 0 e k) (λ L. B)
Claim (too_wide n e k A E B) = RuledYes n e k A E × Answers n A (answer 8 e k) (λ L. L)
Claim (verdict_no_with n e k A m v c) = (¬ RuleYes n A) × (VerdictGives n A (answer 7 e k) × Answers n A (answer 7 e k) (λ L. L))

-- the 3 by 3 table of document 01, and the same with 262145
abbrev pub thin : List ℤ
thin = pos 1 ∷ pos 262144 ∷ pos 0 ∷ pos 0 ∷ pos 1 ∷ pos 524288 ∷ pos 0 ∷ pos 0 ∷ pos 1 ∷ []

abbrev pub thick : List ℤ
thick = pos 1 ∷ pos 262145 ∷ pos 0 ∷ pos 0 ∷ pos 1 ∷ pos 524288 ∷ pos 0 ∷ pos 0 ∷ pos 1 ∷ []

-- after B_0: R_0 is 4096 in the corner and zero elsewhere, M_0 and R_1 are zero
abbrev pub corner : List ℤ
corner = pos 0 ∷ pos 0 ∷ pos 4096 ∷ replicate 24 (pos 0)

abbrev pub thin_expansion : List ℤ
thin_expansion = pos 1 ∷ minus 262144 ∷ pos 0 ∷ pos 0 ∷ pos 1 ∷ minus 524288 ∷ pos 0 ∷ pos 0 ∷ pos 1 ∷ corner

abbrev pub thick_expansion : List ℤ
thick_expansion = pos 1 ∷ minus 262145 ∷ pos 524288 ∷ pos 0 ∷ pos 1 ∷ minus 524288 ∷ pos 0 ∷ pos 0 ∷ pos 1 ∷ corner

unfoldable pub starred : List Case
starred =
    need_of 16 16 14
    ∷ need_of 16 17 15
    ∷ need_of 10 100 16
    ∷ need_of 32 (2 ^ 20) 32
    ∷ lifts_are 2 0
    ∷ lifts_are 3 1
    ∷ lifts_are 8 2
    ∷ lifts_are 9 3
    ∷ lifts_are 17 4
    ∷ lifts_are 32 4
    ∷ inverse_is 1 14 0 (pos 1 ∷ []) (pos 1 ∷ pos 0 ∷ []) (pos 1 ∷ [])
    ∷ inverse_is 1 14 0 (minus 1 ∷ []) (minus 1 ∷ pos 0 ∷ []) (minus 1 ∷ [])
    ∷ lift_writes 1 14 1 (pos 3 ∷ []) (minus 5461 ∷ pos 1 ∷ minus 5461 ∷ pos 1 ∷ [])
    ∷ verdict_no_with 1 14 0 (pos 3 ∷ []) 3 (pos 1 ∷ []) 0
    ∷ lift_gives_6 1 (pos 0 ∷ []) (pos 1 ∷ []) 0
    ∷ verdict_no_with 1 14 0 (pos 0 ∷ []) 2 (pos 1 ∷ []) 0
    ∷ lift_gives_6 1 (pos 2 ∷ []) (pos 1 ∷ []) 0
    ∷ verdict_no_with 1 14 0 (pos 2 ∷ []) 2 (pos 1 ∷ []) 0
    ∷ inverse_is 2 14 0 (pos 2 ∷ pos 1 ∷ pos 1 ∷ pos 1 ∷ []) (pos 1 ∷ minus 1 ∷ minus 1 ∷ pos 2 ∷ pos 0 ∷ pos 0 ∷ pos 0 ∷ pos 0 ∷ []) (pos 1 ∷ minus 1 ∷ minus 1 ∷ pos 2 ∷ [])
    ∷ lift_gives_6 2 (pos 1 ∷ pos 1 ∷ pos 1 ∷ minus 1 ∷ []) (pos 1 ∷ pos 1 ∷ []) 0
    ∷ verdict_no_with 2 14 0 (pos 1 ∷ pos 1 ∷ pos 1 ∷ minus 1 ∷ []) 2 (pos 1 ∷ pos 1 ∷ []) 0
    ∷ lift_writes 2 14 1 (pos 2 ∷ pos 1 ∷ pos 1 ∷ pos 2 ∷ [])
    (pos 5462 ∷ pos 5461 ∷ pos 5461 ∷ pos 5462 ∷ minus 1 ∷ minus 1 ∷ minus 1 ∷ minus 1 ∷ pos 5462 ∷ pos 5462 ∷ pos 5462 ∷ pos 5462 ∷ minus 1 ∷ minus 1 ∷ minus 1 ∷ minus 1 ∷ [])
    ∷ verdict_no_with 2 14 0 (pos 2 ∷ pos 1 ∷ pos 1 ∷ pos 2 ∷ []) 3 (pos 1 ∷ pos 1 ∷ []) 0
    ∷ lift_writes 3 25 1 thin thin_expansion
    ∷ inverse_is 3 25 1 thin thin_expansion (pos 1 ∷ minus 262144 ∷ pos 137438953472 ∷ pos 0 ∷ pos 1 ∷ minus 524288 ∷ pos 0 ∷ pos 0 ∷ pos 1 ∷ [])
    ∷ too_wide 3 25 1 thick thick_expansion (pos 1 ∷ minus 262145 ∷ pos 137439477760 ∷ pos 0 ∷ pos 1 ∷ minus 524288 ∷ pos 0 ∷ pos 0 ∷ pos 1 ∷ [])
    ∷ inverse_is 2 24 0 (pos 1048575 ∷ pos 1048576 ∷ pos 1048574 ∷ pos 1048575 ∷ [])
    (pos 1048575 ∷ minus 1048576 ∷ minus 1048574 ∷ pos 1048575 ∷ pos 0 ∷ pos 0 ∷ pos 0 ∷ pos 0 ∷ [])
    (pos 1048575 ∷ minus 1048576 ∷ minus 1048574 ∷ pos 1048575 ∷ [])
    ∷ verdict_no_with 2 19 0 (pos 24929 ∷ pos 0 ∷ pos 0 ∷ pos 673 ∷ []) 673 (pos 0 ∷ pos 1 ∷ []) 1
    ∷ []
