-- Names of files: that of standard input, and how often a name is among others.
use Rattle.std.specs.Prelude.{ℕ, Bool, List, bytes_eq, codes, count_by}
use Rattle.digest_kinds.specs.Bytes.{ByteString}

-- whether a name is that of standard input
abbrev pub is_dash : ByteString → Bool
is_dash name = bytes_eq (codes "-") name

-- how often a name is among others
abbrev pub times : ByteString → List ByteString → ℕ
times name names = count_by (λ other. bytes_eq other name) names
