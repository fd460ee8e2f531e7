-- The two shapes of a manifest's line, plain and tagged. A line has a shape if some parts, put together, are the line.
-- Either shape may begin with blanks and then one backslash. The backslash says that the name is escaped.
use Rattle.std.specs.Prelude.{ℕ, ◌≡◌, ◌<◌, ◌==◌, ◌||◌, ⊤, Bool, [], ◌∷◌, ◌++◌, length, codes, IsTrue, Ok, if◌then◌else◌}
use Rattle.std.specs.{List.AllPass, Str.byte}
use Rattle.hex.specs.Hex.{decode_of}
use Rattle.digest_kinds.specs.{Algo.has_len, Algo.tag_of, Bytes.ByteString, Kind.KindValue, KindText.IsWidth}
use Rattle.digest_kinds.specs.{declared.algo.Algo.Algo, declared.algo.Algos.Algos, declared.algo.Algos.TheVariants.One}
use Rattle.digest_kinds.specs.{declared.algo.Algos.TheVariants.Any}

-- whether a byte is a blank: a space or a tab
abbrev pub is_blank : ℕ → Bool
is_blank b = b == byte " " || b == byte "\t"

-- the backslash that begins a line whose name is escaped
abbrev pub backslash_if : Bool → ByteString
backslash_if escaped = if escaped then codes "\\" else []

-- A plain line: digits, one blank, and a tail that isn't empty. The digits are hexadecimal, in either case. They spell
-- a digest of a length that the one algorithm has. If any algorithm may be named, no line is plain.
pub record IsPlain (algos : Algos) (line : ByteString) (escaped : Bool) (kind : KindValue)
    (digest tail : ByteString) : Type 0 where
  pub blanks : ByteString
  pub digits : ByteString
  pub blank : ℕ
  pub one : algos ≡ One kind.algo
  pub has : IsTrue (has_len kind.algo kind.len)
  pub are_blanks : AllPass is_blank blanks
  pub spelled : decode_of digits ≡ Ok digest
  pub size : length digest ≡ kind.len
  pub is_one_blank : IsTrue (is_blank blank)
  pub some : 0 < length tail
  pub whole : line ≡ blanks ++ (backslash_if escaped ++ (digits ++ (blank ∷ tail)))

-- an algorithm is among those that a list of lines may name
abbrev pub Allows : Algos → Algo → Type 0
Allows (One only) algo = algo ≡ only
Allows Any algo = ⊤

-- A tagged line, as `BLAKE2b-8 (a) = 0f`: the tag with its width, a name in parentheses, `=`, and the digits, up to the
-- line's end. The name isn't empty. A space may precede the parenthesis, and blanks may stand before and after `=`.
pub record IsTagged (algos : Algos) (line : ByteString) (escaped : Bool) (kind : KindValue)
    (digest raw : ByteString) : Type 0 where
  pub blanks : ByteString
  pub width : ByteString
  pub gap : Bool  -- whether a space precedes the parenthesis
  pub blanks_before : ByteString  -- those before `=`
  pub blanks_after : ByteString  -- those after it
  pub digits : ByteString
  pub allowed : Allows algos kind.algo
  pub are_blanks : AllPass is_blank blanks
  pub is_width : IsWidth kind width
  pub some : 0 < length raw
  pub are_before : AllPass is_blank blanks_before
  pub are_after : AllPass is_blank blanks_after
  pub spelled : decode_of digits ≡ Ok digest
  pub size : length digest ≡ kind.len
  pub whole : line ≡ blanks ++ (backslash_if escaped
      ++ (tag_of kind.algo ++ (width ++ ((if gap then codes " (" else codes "(")
      ++ (raw ++ (codes ")" ++ (blanks_before ++ (codes "=" ++ (blanks_after ++ digits)))))))))
