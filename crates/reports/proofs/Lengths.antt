-- A report has at most 14,352 bytes: 16 of the first line, and 14 for each of 1,024 figures of at most 12 digits. So a buffer of 14,352 has
-- room for it.
use mathlib.Core.Path.{◌≡◌, sym, ap, subst}
use mathlib.Core.List.{List, [], ◌∷◌, ◌++◌}
use Prim.Native.Nat.{ℕ, suc, ◌+◌, ◌*◌, ◌^◌, ◌≤◌, ◌<◌}
use native.Mathlib.Nat.{zero-lt-suc}
use native.Mathlib.Decide.{ℕ_discrete}
use native.Mathlib.Omega.{arith}
use lib.IntN.{ℤ, pos, nat_abs}
use lib.ListN.{length, drop, get_or, length-append}
use Rattle.numbers.specs.Limits.{IsOrder, Lawful}
use Rattle.tables.specs.Tables.{entries}
use Rattle.tables.specs.Buffer.{Low}
use Rattle.tables.proofs.Buffers.Places.{square_small}
use Rattle.tables.proofs.Buffers.Bounds.{low_flat, low-≈}
use Rattle.tables.proofs.Buffers.Lists.{block_zero}
use Rattle.verdict.specs.Verdict.{Narrow}
use Rattle.verdict.specs.declared.Outcome.{Outcome}
use Rattle.sheets.specs.Sheet.{line, rows}
use Rattle.sheets.proofs.Text.Lengths.{Below, line_most, rows_most}
use Rattle.sheets.proofs.Bytes.Puts.{put_whole}
use Rattle.reports.specs.Report.{figures, after0, answer_line, IsCertificate, IsReport, no_sheet, of_sheet, ReportGives, room}
use Rattle.reports.specs.Parts.{Puts}
use Rattle.verdict.proofs.Figures.{number_most, exponent_most, lifts_most}
use Rattle.reports.proofs.Places.{Near, near, refusal_near}
use Rattle.reports.proofs.Writing.{after_zero, after_other}

-- a table by places
below_of : (k : ℕ) (E : List ℤ) → ((i : ℕ) → i < length E → nat_abs (get_or E i (pos 0)) < 10 ^ suc k) → Below k E
below_of k [] f = tt
below_of k (z ∷ E) f = (f 0 (zero-lt-suc (length E)), below_of k E (λ i h. f (suc i) (up i h)))
  where
    up : (i : ℕ) → i < length E → suc i < suc (length E)
    up i h = omega arith

narrow_below : {n : ℕ} (E : List ℤ) → IsOrder n → length E ≡ n * n → Narrow n (entries n E) → Below 11 E
narrow_below {n} E order size h = below_of 11 E (λ i l. at i (subst (λ (m : ℕ). i < m) size l))
  where
    low : Low n (2 ^ 37) (entries n E)
    low = record { low = h }

    at : (i : ℕ) → i < n * n → nat_abs (get_or E i (pos 0)) < 10 ^ 12
    at i l =
        let e : 0 * (n * n) + i ≡ i = omega arith in
        let g : nat_abs (get_or E i (pos 0)) ≤ 2 ^ 37 = rw e at (low_flat E 0 order (low-≈ (λ i j a b. sym (block_zero n E i j a b)) low) i l) in
        omega arith

certificate_short : {n : ℕ} {es : List ℤ} {R : List ℕ} → Lawful n es → IsCertificate n es R → length R ≤ 14352
certificate_short {n} {es} law c =
    omega (arith, ap length c.text, length-append (answer_line n o) (after0 o.number (rows n n c.left)), head, body (ℕ_discrete o.number 0))
  where
    o : Outcome
    o = c.outcome

    head : length (answer_line n o) ≤ 16
    head =
        line_most 1 (figures (o.number ∷ n ∷ o.exponent ∷ o.lifts ∷ []))
        (omega (arith, number_most law c.size c.gives), (omega (arith, law.order.upto), (omega (arith, exponent_most law c.size c.gives), (omega (arith, lifts_most law c.size c.gives), tt))))

    body : Dec (o.number ≡ 0) → length (after0 o.number (rows n n c.left)) ≤ 14336
    body (yes z) =
        let s = (c.gives.written z).size in
        omega (arith, ap length (after_zero o.number (rows n n c.left) z), s, square_small law.order.upto, rows_most 11 n n c.left (narrow_below c.left law.order s (c.gives.written z).narrow))
    body (no f) = omega (arith, ap length (after_other o.number (rows n n c.left) f))

refusal_short : {fs : List ℕ} → Near fs → length (line (figures (9 ∷ fs))) ≤ 24
refusal_short (near l c r a b d) = line_most 3 (figures (9 ∷ l ∷ c ∷ r ∷ [])) (omega arith, (omega arith, (omega arith, (omega arith, tt))))

pub report_short : {t R : List ℕ} → IsReport t R → length R ≤ 14352
report_short (no_sheet fs h) = omega (arith, refusal_short (refusal_near h))
report_short (of_sheet n es R h c) = certificate_short (record { order = h.order; size = h.count; legal = h.legal }) c

-- so a buffer of that length has room for it
pub report_put : {t old new : List ℕ} {r : ℕ} → 14352 ≤ length old → Puts (IsReport t) old r new → ReportGives t old r new
report_put {t} {old} {new} {r} l h =
    let p = put_whole {at = 0} h.text (omega (arith, report_short h.right)) h.put in
    let e : ReportGives t old (length h.text) (h.text ++ drop (length h.text) old) = room h.text l h.right in
    simp (p.0, p.1, native.Mathlib.Nat.zero-add) e
