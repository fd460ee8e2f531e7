-- Contents: bytes, and how they end; and what opening a name gives.
use Rattle.digest_kinds.specs.Bytes.{LIMIT}
use Rattle.std.specs.Prelude.{ℕ, ◌-◌, length, nat_lt, take, Result, if◌then◌else◌}
use Rattle.digest_kinds.specs.Bytes.{ByteString}
use Rattle.sum_sources.specs.Fault.{Fault, Other, Ending, Broken}

-- bytes, and how they end
pub record Content : Type 0 where
  pub bytes : ByteString
  pub ending : Ending

-- the limit, `LIMIT`, as a number that no proof counts down from: an input of this many bytes is too long
unfoldable pub limit : ℕ
limit = LIMIT

-- a content, if it has fewer bytes than the limit; otherwise its first `limit - 1` bytes, and then a fault
abbrev pub clip : Content → Content
clip content = if nat_lt (length content.bytes) limit then content
    else record { bytes = take (limit - 1) content.bytes; ending = Broken Other }

-- what opening a name gives: a content, or the fault of opening
abbrev pub AnswerValue : Type 0
AnswerValue = Result Content Fault
