-- How a figure, a line and rows are written.
use mathlib.Core.Path.{◌≡◌, refl, sym, ap, ap₂, ◌∙◌, subst}
use mathlib.Core.Bool.{Bool, cond}
use mathlib.Core.List.{List, [], ◌∷◌, ◌++◌}
use Prim.Native.Nat.{ℕ, zero, suc, ◌+◌, ◌-◌, ◌≤◌, ◌<◌, ◌^◌, min, max}
use native.Mathlib.Nat.{zero-min, min-zero, suc-min-suc}
use lib.Seq.{take-append_seam, drop-append_seam}
use native.Mathlib.Numerals.{add-one}
use native.Mathlib.Omega.{arith}
use lib.Dec.{eqb}
use lib.IntN.{ℤ, pos, negsuc, nat_abs}
use lib.Signed.{mag, lt_z}
use lib.ListN.{length, take, drop, get_or, length-drop}
use lib.Seq.{drop-cons}
use borrow.Author.Tests.{le-ltb, ne_eqb}
use mir.Syntax.{w64}
use mir.Val.{SFits}
use Rattle.numbers.proofs.Machine.{rd, rd_is, rd_ok}
use Rattle.sheets.specs.Sheet.{decimal, figure, line, rows}
use Rattle.sheets.specs.Writing.{Put}
use Rattle.sheets.proofs.Bytes.Puts.{put_join, Partly, partly_start, partly_more, partly_all}

sign_text : (z : ℤ) → cond (lt_z z (pos 0)) (45 ∷ []) [] ++ decimal (nat_abs z) ≡ figure z
sign_text (pos n) = rw (le-ltb n 0 (omega arith))
sign_text (negsuc k) = refl

-- the minus sign of a number below zero, and the magnitude
pub put_signed : (z : ℤ) {old mid new : List ℕ} {at r q k : ℕ} → SFits w64 z → k ≡ nat_abs (rd z)
    → Put old at (cond (lt_z (rd z) (pos 0)) (45 ∷ []) []) r mid → Put mid r (decimal k) q new → Put old at (figure z) q new
put_signed z {old} {mid} {new} {at} {r} {q} {k} f e m d =
    let n = rw (rd_is f) at e in
    let sign = rw (rd_is f) at m in
    subst (λ (x : List ℕ). Put old at x q new) (ap (λ (i : ℕ). cond (lt_z z (pos 0)) (45 ∷ []) [] ++ decimal i) n ∙ sign_text z)
    (put_join (cond (lt_z z (pos 0)) (45 ∷ []) []) (decimal k) sign d)

-- the byte after a figure that k others follow in its line
abbrev after : ℕ → ℕ
after k = cond (eqb k 0) 10 32

line_cons : (z : ℤ) (zs : List ℤ) → line (z ∷ zs) ≡ figure z ++ ((after (length zs) ∷ []) ++ line zs)
line_cons z [] = refl
line_cons z (y ∷ zs) = ap (λ (t : Bool). figure z ++ cond t 10 32 ∷ line (y ∷ zs)) (sym (ne_eqb (suc (length zs)) 0 (λ (e : suc (length zs) ≡ 0). omega arith)))

module _ (fs : List ℤ) (i : ℕ) (h : i < length fs) where
  line_next : line (drop i fs) ≡ figure (get_or fs i (pos 0)) ++ ((after (length fs - (i + 1)) ∷ []) ++ line (drop (i + 1) fs))
  line_next =
      rw add-one
      (ap line (drop-cons fs i (pos 0) h) ∙ line_cons (get_or fs i (pos 0)) (drop (suc i) fs)
      ∙ ap (λ (k : ℕ). figure (get_or fs i (pos 0)) ++ ((after k ∷ []) ++ line (drop (suc i) fs))) (length-drop (suc i) fs))

  -- one figure more
  pub line_turn : {old mid new w last : List ℕ} {at next r q b : ℕ} → mag (get_or fs i (pos 0)) < 2 ^ 63 → Partly old at w (line (drop i fs)) next new
      → Put new next (figure (rd (get_or fs i (pos 0)))) r mid → b ≡ after (length fs - (i + 1)) → Put mid r (b ∷ []) q last
      → Partly old at w (line (drop (i + 1) fs)) q last
  line_turn {old} {mid} {new} {w} {last} {at} {next} {r} {q} {b} m p f e k =
      let z = get_or fs i (pos 0) in
      let g : Put new next (figure z) r mid = rw (rd_ok z m) at f in
      let byte : List ℕ = after (length fs - (i + 1)) ∷ [] in
      partly_more byte (line (drop (i + 1) fs))
      (partly_more (figure z) (byte ++ line (drop (i + 1) fs)) (subst (λ (x : List ℕ). Partly old at w x next new) line_next p) g)
      (subst (λ (x : ℕ). Put mid r (x ∷ []) q last) e k)

-- a line takes what is left where that is fewer than n
take_min : (n : ℕ) (l : List ℤ) → take (min n (length l)) l ≡ take n l
take_min zero l = simp zero-min
take_min (suc n) [] = simp min-zero
take_min (suc n) (z ∷ l) = simp suc-min-suc (ap (λ (x : List ℤ). z ∷ x) (take_min n l))

drop_min : (n : ℕ) (l : List ℤ) → drop (min n (length l)) l ≡ drop n l
drop_min zero l = simp zero-min
drop_min (suc n) [] = simp min-zero
drop_min (suc n) (z ∷ l) = simp suc-min-suc (drop_min n l)

-- no figures, no lines
rows_none : (n k : ℕ) → rows n k [] ≡ []
rows_none n zero = refl
rows_none zero (suc k) = rows_none zero k
rows_none (suc n) (suc k) = rows_none (suc n) k

-- so many lines are left, of the figures rest; a line takes n of them, or what is left
pub record Rows (old : List ℕ) (at n : ℕ) (fs : List ℤ) (size left : ℕ) (rest : List ℤ) (next : ℕ) (new : List ℕ) : Type 0 where
  pub full : size ≡ max n 1
  pub most : left ≤ n
  pub put : Partly old at (rows n n fs) (rows n left rest) next new

pub rows_start : {n size left : ℕ} {fs rest : List ℤ} (old : List ℕ) (at : ℕ) → size ≡ max n 1 → left ≡ n → rest ≡ fs → Rows old at n fs size left rest at old
rows_start {n} {size} {left} {fs} {rest} old at s l r = rw (l, r) (record { full = s; most = omega arith; put = partly_start old at (rows n n fs) })

module _ {old new : List ℕ} {at n size left next : ℕ} {fs rest : List ℤ} (h : Rows old at n fs size left rest next new) where
  -- one line more
  pub rows_turn : {last : List ℕ} {size' left' q : ℕ} (row : List ℤ) {rest' : List ℤ} → size' ≡ size → left' + 1 ≡ left → rest ≡ row ++ rest' → length row ≡ min size (length rest)
      → Put new next (line row) q last → Rows old at n fs size' left' rest' q last
  rows_turn {last} {size'} {left'} {q} row {rest'} s l r m k =
      let e : min n (length rest) ≡ length row = omega (arith, h.full, h.most) in
      let a : take n rest ≡ row = sym (take_min n rest) ∙ ap₂ (λ (x : ℕ) (y : List ℤ). take x y) e r ∙ take-append_seam row rest' in
      let b : drop n rest ≡ rest' = sym (drop_min n rest) ∙ ap₂ (λ (x : ℕ) (y : List ℤ). drop x y) e r ∙ drop-append_seam row rest' in
      let w : rows n left rest ≡ line row ++ rows n left' rest'
      = ap (λ (x : ℕ). rows n x rest) (sym l ∙ add-one left') ∙ ap₂ (λ (x y : List ℤ). line x ++ rows n left' y) a b in
      record {
        full = s ∙ h.full;
        most = omega (arith, h.most);
        put = partly_more (line row) (rows n left' rest') (rw w at h.put) k;
      }

  -- no lines, or no figures, are left
  pub rows_end : (0 < left → length rest ≡ 0) → Put old at (rows n n fs) next new
  rows_end f = partly_all (at_end left rest f) h.put
    where
      at_end : (k : ℕ) (l : List ℤ) → (0 < k → length l ≡ 0) → rows n k l ≡ []
      at_end zero l f = refl
      at_end (suc k) [] f = rows_none n (suc k)
      at_end (suc k) (z ∷ l) f = absurd (omega (arith, f (omega arith)))
