-- What the host's calls give, from what verdict and inverse give for the decoded table.
use mathlib.Core.Path.{◌≡◌, refl, sym, subst}
use mathlib.Core.Logic.{◌≢◌, ◌⊎◌}
use mathlib.Core.List.{List}
use Prim.Native.Nat.{ℕ, ◌*◌}
use native.Mathlib.Omega.{arith}
use lib.IntN.{ℤ}
use lib.ListN.{length, take}
use Rattle.numbers.specs.Limits.{IsOrder}
use Rattle.numbers.specs.Refusals.{◌thereafter◌, Gives, Lowest}
use Rattle.numbers.proofs.Answers.Refusals.{gives_lowest}
use Rattle.numbers.proofs.Answers.Tables.{fit, same_head}
use Rattle.verdict.specs.Verdict.{outcome_of, verdict_refusals, VerdictGives, inverse_refusals}
use Rattle.verdict.specs.Parts.{Standing}
use Rattle.verdict.proofs.Refusals.{none_whole, too_wide_refusals}
use Rattle.verdict.proofs.Standing.{front_size}
use Rattle.verdict.specs.declared.Ruling.{Ruling}
use Rattle.verdict.specs.declared.Outcome.{Outcome}
use Rattle.octets.specs.Bytes.{decode, encode}
use Rattle.host.specs.Host.{host_verdict_refusals, HostVerdictGives, host_inverse_refusals, HostInverseGives}
use Rattle.octets.proofs.Bytes.{length_decode}

-- document 01: the lowest number that applies is given
pub host_verdict_lowest : {n : ℕ} {T : List ℕ} {k : ℕ} → HostVerdictGives n T k → Lowest (host_verdict_refusals n T) k
host_verdict_lowest {n} {T} p = gives_lowest 0 (host_verdict_refusals n T) (omega arith) p.number

pub host_inverse_lowest : {n : ℕ} {T O : List ℕ} {k : ℕ} {E : List ℕ} → HostInverseGives n T O k E → Lowest (host_inverse_refusals n T O) k
host_inverse_lowest {n} {T} {O} p = gives_lowest 0 (host_inverse_refusals n T O) (omega arith) p.number

-- ---- verdict

-- the lengths apart, the numbers are those of the decoded table
verdict_number : (n : ℕ) (T : List ℕ) {k : ℕ} → length T ≡ 4 * (n * n) → Gives (verdict_refusals n (decode T)) k → Gives (host_verdict_refusals n T) k
verdict_number n T {k} e =
    let A : List ℤ = decode T in
    same_head n (length A ≢ n * n) (length T ≢ 4 * (n * n)) A (none_whole n A) k (λ f. absurd (f (length_decode (n * n) T e)), λ f. absurd (f e))

pub host_verdict : {n : ℕ} {T : List ℕ} {L : List ℤ} (r : Ruling) {k : ℕ} → length T ≡ 4 * (n * n) → L ≡ decode T → VerdictGives n L (outcome_of r) → k ≡ (outcome_of r).number → HostVerdictGives n T k
host_verdict {n} {T} r e q v i =
    let w : VerdictGives n (decode T) (outcome_of r) = subst (λ (M : List ℤ). VerdictGives n M (outcome_of r)) q v in
    subst (HostVerdictGives n T) (sym i) (record { number = verdict_number n T e w.number; whole = w.whole })

-- ---- inverse

refused : {n : ℕ} {T O : List ℕ} (k : ℕ) → k ≢ 0 → Gives (host_inverse_refusals n T O) k → HostInverseGives n T O k O
refused k z g = record { number = g; kept = λ f. refl; written = λ e. absurd (z e) }

inverse_number : (n : ℕ) (T O : List ℕ) (K : List ℤ) {k : ℕ} → length T ≡ 4 * (n * n) → length O ≡ 8 * (n * n) → length K ≡ n * n → Gives (inverse_refusals n (decode T) K) k → Gives (host_inverse_refusals n T O) k
inverse_number n T O K {k} e u z =
    let A : List ℤ = decode T in
    let P : Type 0 = (length A ≢ n * n) ⊎ (length K ≢ n * n) in
    let Q : Type 0 = (length T ≢ 4 * (n * n)) ⊎ (length O ≢ 8 * (n * n)) in
    same_head n P Q A (none_whole n A thereafter too_wide_refusals n A) k (λ p. absurd (fit (length_decode (n * n) T e) z p), λ q. absurd (fit e u q))

-- the inverse stands in the buffer M of the work
module _ {n : ℕ} {T O : List ℕ} {L M : List ℤ} {o : Outcome} (order : IsOrder n) (e : length T ≡ 4 * (n * n)) (u : length O ≡ 8 * (n * n)) (long : length M ≡ 4096) (q : L ≡ decode T) (s : Standing n L o M) where
  pub host_kept : o.number ≢ 0 → HostInverseGives n T O o.number O
  host_kept f =
      let w : Standing n (decode T) o M = subst (λ (A : List ℤ). Standing n A o M) q s in
      refused o.number f (inverse_number n T O (take (n * n) M) e u (front_size M order long) w.gives.number)

  pub host_written : {F : List ℕ} → o.number ≡ 0 → F ≡ encode (take (n * n) M) → HostInverseGives n T O 0 F
  host_written i b =
      let w : Standing n (decode T) o M = subst (λ (A : List ℤ). Standing n A o M) q s in
      record {
        number = subst (Gives (host_inverse_refusals n T O)) i (inverse_number n T O (take (n * n) M) e u (front_size M order long) w.gives.number);
        kept = λ f. absurd (f refl);
        written = λ g. record { table = take (n * n) M; inverse = w.gives.written i; bytes = b };
      }
