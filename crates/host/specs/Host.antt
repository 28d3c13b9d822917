-- What the host's calls give. T is the lent table, as bytes; O is the lent buffer as it was, and E as it is left.
--   host_verdict_refusals n T     the verdict's numbers in their order, for the decoded table, with 3 read on bytes
--   HostVerdictGives n T k        the verdict's number is k
--   host_inverse_refusals n T O   the inverse call's numbers in their order, the same way
--   IsInverseBytes n T E          E is the whole inverse of the table, which is narrow, as bytes
--   HostInverseGives n T O k E    the inverse call's number is k, and it leaves E in the buffer
use Rattle.std.specs.Prelude.{◌≡◌, ◌≢◌, ◌⊎◌, List, ℕ, ◌*◌, ℤ, length}
use Rattle.numbers.specs.Refusals.{Refusals, Gives}
use Rattle.tables.specs.Tables.{entries, HasWholeInverse}
use Rattle.verdict.specs.Verdict.{IsNarrowInverse, verdict_numbers, inverse_numbers}
use Rattle.octets.specs.Bytes.{decode, encode}

abbrev pub host_verdict_refusals : ℕ → List ℕ → Refusals
host_verdict_refusals n T = verdict_numbers n (length T ≢ 4 * (n * n)) (decode T)

pub record HostVerdictGives (n : ℕ) (T : List ℕ) (k : ℕ) : Type 0 where
  pub number : Gives (host_verdict_refusals n T) k
  -- (`number` alone says only that it is false that none exists)
  pub whole : k ≡ 0 → HasWholeInverse n (entries n (decode T))

abbrev pub host_inverse_refusals : ℕ → List ℕ → List ℕ → Refusals
host_inverse_refusals n T O = inverse_numbers n ((length T ≢ 4 * (n * n)) ⊎ (length O ≢ 8 * (n * n))) (decode T)

pub record IsInverseBytes (n : ℕ) (T E : List ℕ) : Type 0 where
  pub table : List ℤ
  pub inverse : IsNarrowInverse n (entries n (decode T)) table
  pub bytes : E ≡ encode table

pub record HostInverseGives (n : ℕ) (T O : List ℕ) (k : ℕ) (E : List ℕ) : Type 0 where
  pub number : Gives (host_inverse_refusals n T O) k
  pub kept : k ≢ 0 → E ≡ O
  pub written : k ≡ 0 → IsInverseBytes n T E
