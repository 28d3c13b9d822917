-- Document 01's texts that are no sheets, tried by hand: computed from the definitions.
use mathlib.Core.Path.{◌≡◌, refl, subst}
use mathlib.Core.List.{List, [], ◌∷◌}
use Prim.Native.Nat.{ℕ, suc, ◌*◌, ◌<◌}
use Prim.Native.Char.{code}
use Prim.Native.String.{String, [] as none, ◌∷◌ as ◌then◌}
use native.Mathlib.Omega.{arith}
use lib.Dec.{T, ltb, ltb→lt}
use lib.IntN.{ℤ}
use lib.ListN.{length, take}
use Rattle.sheets.specs.declared.number.Seen.TheVariants.{Nothing}
use Rattle.sheets.specs.Sheet.{IsSheet, IsBeginning}
use Rattle.sheets.specs.Place.{line_at, column_at}
use Rattle.sheets.specs.Answer.{byte, ended, ReadSays, refused}
use Rattle.sheets.specs.Model.{State, Head, Body, Dead, run}
use Rattle.sheets.proofs.Stages.Exact.{beginning, no_beginning, head_open, body_open}

abbrev bytes : String → List ℕ
bytes none = []
bytes (c then s) = code c ∷ bytes s

-- the state that the bytes lead to
abbrev after : List ℕ → State
after t = run (Head Nothing) t

-- a sheet may follow; some of the sheet is to come
abbrev Alive : State → Type 0
Alive (Head s) = Unit {0}
Alive (Body n es s) = Unit {0}
Alive Dead = ⊥

abbrev Open : State → Type 0
Open (Head s) = Unit {0}
Open (Body n es s) = T (ltb (length es) (n * n))
Open Dead = ⊥

open_alive : (s : State) → Open s → Alive s
open_alive (Head s) o = tt
open_alive (Body n es s) o = tt
open_alive Dead o = absurd o

alive_begins : (t : List ℕ) → Alive (after t) → IsBeginning t
alive_begins t a = beginning t (λ (d : after t ≡ Dead). subst Alive d a)

open_unfinished : (t : List ℕ) (s : State) → after t ≡ s → Open s → (n : ℕ) (es : List ℤ) → ¬ IsSheet t n es
open_unfinished t (Head s) e o = head_open t s e
open_unfinished t (Body n es s) e o = body_open t n es s (ltb→lt (length es) (n * n) o) e
open_unfinished t Dead e o = absurd o

-- the text is answered by the figures, and every table is left as it was
abbrev pub Refuses : List ℕ → List ℕ → Type 0
Refuses t fs = (old : List ℤ) → length old ≡ 1024 → ReadSays t old fs old

-- byte k is wrong, or the text ends too early: both computed
byte_wrong : (t : List ℕ) (k : ℕ) → k < length t → Alive (after (take k t)) → after (take (suc k) t) ≡ Dead → Refuses t (9 ∷ line_at t k ∷ column_at t k ∷ 1 ∷ [])
byte_wrong t k l a d old s = refused _ s (byte k l (alive_begins (take k t) a) (no_beginning (take (suc k) t) d))

end_wrong : (t : List ℕ) → Open (after t) → Refuses t (9 ∷ line_at t (length t) ∷ column_at t (length t) ∷ 2 ∷ [])
end_wrong t o old s = refused _ s (ended (alive_begins t (open_alive (after t) o)) (open_unfinished t (after t) refl o))

-- a text and the figures of its answer
pub record Case : Type 0 where
  pub text : String
  pub figures : List ℕ

pub cases : List Case
cases =
    record { text = ""; figures = 9 ∷ 1 ∷ 1 ∷ 2 ∷ [] }
    ∷ record { text = "33\n"; figures = 9 ∷ 1 ∷ 2 ∷ 1 ∷ [] }
    ∷ record { text = "1\n1048577\n"; figures = 9 ∷ 2 ∷ 7 ∷ 1 ∷ [] }
    ∷ record { text = "2\n1 0\n0 01\n"; figures = 9 ∷ 3 ∷ 4 ∷ 1 ∷ [] }
    ∷ record { text = "1\n1"; figures = 9 ∷ 2 ∷ 2 ∷ 2 ∷ [] }
    ∷ record { text = "1\n1\n\n"; figures = 9 ∷ 3 ∷ 1 ∷ 1 ∷ [] } ∷ []

infixr 3 ◌and◌
pub data Answered : List Case → Type 0 where
  all : Answered []
  ◌and◌ : {c : Case} {cs : List Case} → Refuses (bytes c.text) c.figures → Answered cs → Answered (c ∷ cs)

pub tried : Answered cases
unfolding cases
tried =
    end_wrong (bytes "") tt
    and byte_wrong (bytes "33\n") 1 (omega arith) tt refl
    and byte_wrong (bytes "1\n1048577\n") 8 (omega arith) tt refl
    and byte_wrong (bytes "2\n1 0\n0 01\n") 9 (omega arith) tt refl
    and end_wrong (bytes "1\n1") tt
    and byte_wrong (bytes "1\n1\n\n") 4 (omega arith) tt refl
    and all
