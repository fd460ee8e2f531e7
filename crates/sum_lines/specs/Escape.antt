-- How names are escaped, byte by byte.
use Rattle.std.specs.{Prelude.ℕ, Prelude.◌==◌, Prelude.Bool, Prelude.not, Prelude.[], Prelude.◌∷◌, Prelude.flat_map}
use Rattle.std.specs.{Prelude.bytes_eq, Prelude.codes, Prelude.if◌then◌else◌, Str.byte}
use Rattle.digest_kinds.specs.Bytes.{ByteString}

-- a backslash becomes `\\`, a newline `\n`, a carriage return `\r`; any other byte stays
abbrev pub escape_of : ℕ → ByteString
escape_of b = if b == byte "\\" then codes "\\\\" else if b == byte "\n" then codes "\\n"
    else if b == byte "\r" then codes "\\r" else b ∷ []

-- the escape of a name
abbrev pub escape : ByteString → ByteString
escape name = flat_map escape_of name

-- whether the escape of a name differs from the name
abbrev pub escape_differs : ByteString → Bool
escape_differs name = not (bytes_eq (escape name) name)
