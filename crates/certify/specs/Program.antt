-- The program's own promise. No contract can say which bytes the system hands over, so it is about every input that fits what was read.
--   Asked text n out        the buffers have the program's sizes, and n bytes are read
--   AsRead text n t         the n bytes read are as much of the input t as the buffer `text` has room for
--   Prints text n out r     whatever input was so read, the first r bytes of `out` are its report
use Rattle.std.specs.Prelude.{◌≡◌, List, ℕ, length, take}
use Rattle.inputs.specs.Inputs.{IsPrefixLen}
use Rattle.reports.specs.Report.{IsReport, report_room}

pub record Asked (text : List ℕ) (n : ℕ) (out : List ℕ) : Type 0 where
  pub text_size : length text ≡ 9220
  pub out_size : length out ≡ report_room
  pub read : IsPrefixLen n text

abbrev pub AsRead : List ℕ → ℕ → List ℕ → Type 0
AsRead text n t = take (length text) t ≡ take n text

pub record Prints (text : List ℕ) (n : ℕ) (out : List ℕ) (r : ℕ) : Type 0 where
  pub within : IsPrefixLen r out
  pub report : (t : List ℕ) → AsRead text n t → IsReport t (take r out)
