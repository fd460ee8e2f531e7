-- Relates what the functions that scan a line return to the parts that the line is read as.
use Rattle.std.specs.List.{position_or_len, before_first, after_first}
use Rattle.std.specs.Prelude.{ℕ, ◌≡◌, ◌+◌, ◌<◌, ◌≤◌, length, drop, slice_range, slice_index, IsTrue, None, Some, Ok}
use Rattle.hex.specs.Hex.{decode_of}
use Rattle.digest_kinds.specs.{Algo.has_len, Bytes.ByteString, Bytes.after_while, declared.algo.Algo.Algo}
use Rattle.digest_kinds.specs.{declared.algo.Algos.Algos, declared.algo.Algos.TheVariants.One}
use Rattle.sum_lines.specs.declared.reading.{beginnings.Beginning.Beginning, line_parts.Front.Front}
use Rattle.sum_lines.specs.declared.reading.{line_parts.LineParts.LineParts}
use Rattle.sum_lines.specs.grammar.{LineParts.LinePartsValue, LineParts.mark_and_rest, LineParts.plain_parts}
use Rattle.sum_lines.specs.grammar.{LineParts.tag_in, LineParts.tagged_parts, Shapes.is_blank}
use Rattle.sum_lines.specs.declared.reading.beginnings.Beginning.TheVariants as begun

-- the parts of a line whose text is that range
abbrev pub line_parts : ByteString → LineParts → LinePartsValue
line_parts line found = let text = slice_range line found.start found.stop in
    record { escaped = found.escaped; kind = found.kind; digest = found.digest; text = text }

-- what precedes the line's text, and where that is
pub record IsFront (line : ByteString) (front : Front) : Type 0 where
  pub mark : front.escaped ≡ (mark_and_rest (after_while is_blank line)).0
  pub text : drop front.start line ≡ (mark_and_rest (after_while is_blank line)).1
  pub within : front.start ≤ length line

-- the text is a plain line's: what precedes its first blank spells the digest, and something follows the blank
pub record BeginsWithDigits (algo : Algo) (text digest : ByteString) : Type 0 where
  pub spelled : decode_of (before_first is_blank text) ≡ Ok digest
  pub has : IsTrue (has_len algo (length digest))
  pub some : 0 < length (after_first is_blank text)

-- if the bytes are a plain line's text, their first blank is at place n
abbrev pub IsFirstBlank : Algo → ByteString → ℕ → Type 0
IsFirstBlank algo text n = (digest : ByteString) → BeginsWithDigits algo text digest → n ≡ position_or_len is_blank text

-- a blank is at place n, something follows it, and the digits end there if the bytes are a plain line's text
pub record EndsDigits (algo : Algo) (text : ByteString) (n : ℕ) : Type 0 where
  pub within : n + 1 < length text
  pub blank : IsTrue (is_blank (slice_index text n))
  pub place : IsFirstBlank algo text n

-- a line with that beginning is read as tagged, with that tag, and not as plain; or as plain, and not as tagged
abbrev pub IsReadAs : Algos → ByteString → Beginning → Type 0
IsReadAs algos line (begun.Tag algo) = (tag_in (One algo) (mark_and_rest (after_while is_blank line)).1 ≡ Some algo)
    × (tagged_parts algos line ≡ tagged_parts (One algo) line) × (None ≡ plain_parts algos line)
IsReadAs algos line (begun.Digits algo n) = EndsDigits algo (mark_and_rest (after_while is_blank line)).1 n
    × (None ≡ tagged_parts algos line) × (plain_parts algos line ≡ plain_parts (One algo) line)
