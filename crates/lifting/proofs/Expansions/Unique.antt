-- The expansion is one list, and lift's number and buffer are one.
use mathlib.Core.Path.{◌≡◌, sym, ◌∙◌}
use mathlib.Core.List.{List}
use Prim.Native.Nat.{ℕ, zero, suc, ◌+◌, ◌*◌, ◌^◌, ◌≤◌, ◌<◌}
use native.Mathlib.Nat.{le_refl}
use native.Mathlib.Omega.{arith}
use native.Mathlib.Decide.{dec_lt, ℕ_discrete}
use lib.IntN.{ℤ}
use lib.Pow.{pow_pos}
use Rattle.std.specs.Prelude.{Result}
use Rattle.numbers.specs.Reasons.{number_of}
use Rattle.numbers.specs.declared.refusals.Refusal.{Refusal}
use Rattle.numbers.proofs.Answers.Reasons.{answer_unique}
use Rattle.numbers.proofs.Answers.Refusals.{gives_unique}
use Rattle.tables.specs.Tables.{Matrix, ◌≈⟨◌⟩◌, entries, block}
use Rattle.tables.proofs.Buffers.Lists.{blocks_unique}
use Rattle.lifting.specs.Lifting.{Upto, IsExpansion, LiftGives, lift_refusals}
use Rattle.lifting.proofs.Expansions.Rules.{start_unique, step_unique}

module _ (n X s : ℕ) (h : 0 < X) (A : Matrix) (L K : List ℤ) (p : Upto n X s A L) (q : Upto n X s A K) where
  abbrev Agree : ℕ → Type 0
  Agree c = (b : ℕ) → b < c → block n L b ≈⟨ n ⟩ block n K b

  more : (t : ℕ) → t < s → Agree (2 * t + 2) → Agree (2 * suc t + 2)
  more t l old b m = go (dec_lt b (2 * t + 2)) (ℕ_discrete b (2 * t + 2))
    where
      new : (block n L (2 * t + 2) ≈⟨ n ⟩ block n K (2 * t + 2)) × (block n L (2 * t + 3) ≈⟨ n ⟩ block n K (2 * t + 3))
      new = step_unique n X h A (old 0 (omega arith)) (old (2 * t + 1) (omega arith)) (p.step t l) (q.step t l)

      go : Dec (b < 2 * t + 2) → Dec (b ≡ 2 * t + 2) → block n L b ≈⟨ n ⟩ block n K b
      go (yes k) _ = old b k
      go (no f) (yes e) = rw e new.0
      go (no f) (no g) = let e : b ≡ 2 * t + 3 = omega arith in rw e new.1

  -- the blocks of t steps are the same
  pub blocks_agree : (t : ℕ) → t ≤ s → Agree (2 * t + 2)
  blocks_agree zero l zero m = (start_unique n X h A p.start q.start).0
  blocks_agree zero l (suc zero) m = (start_unique n X h A p.start q.start).1
  blocks_agree zero l (suc (suc b)) m = absurd (omega arith)
  blocks_agree (suc t) l b m = more t l (blocks_agree t (omega arith)) b m

pub expansion_same : (n X s : ℕ) → 0 < X → (A : Matrix) (L K : List ℤ) → IsExpansion n X s A L → IsExpansion n X s A K → L ≡ K
expansion_same n X s h A L K p q =
    blocks_unique n (2 * s + 2) L K p.size q.size (blocks_agree n X s h A L K p.blocks q.blocks s (le_refl s))

-- lift gives one number, and leaves one content of the buffer
pub lift_unique : {n s e : ℕ} {A L : List ℤ} {j k : ℕ} {E F : List ℤ} → LiftGives n s e A L j E → LiftGives n s e A L k F → (j ≡ k) × (E ≡ F)
lift_unique {n} {s} {e} {A} {L} {j} {k} {E} {F} p q = (
  same,
  elim (ℕ_discrete j 0) [
    | yes z ↦ expansion_same n (2 ^ e) s (pow_pos e) (entries n A) E F (p.written z) (q.written (sym same ∙ z))
    | no f ↦ p.kept f ∙ sym (q.kept (λ z. f (same ∙ z)))
  ],
)
  where
    same : j ≡ k
    same = gives_unique (lift_refusals n s e A L) p.number q.number

-- and so one case of the answer
pub lift_result_unique : {n s e : ℕ} {A L : List ℤ} (a b : Result (Unit {0}) Refusal) {E F : List ℤ} → LiftGives n s e A L (number_of a) E → LiftGives n s e A L (number_of b) F → (a ≡ b) × (E ≡ F)
lift_result_unique a b p q = let u = lift_unique p q in (answer_unique a b u.0, u.1)
