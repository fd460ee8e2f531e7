-- The parts of a line of either shape, computed. By the law `parse_is_grammar` they need not be believed.
use Rattle.std.specs.Prelude.{◌==◌, ◌&&◌, nat_lt, Bool, true, false, length, drop, codes, Option, None, Some, find}
use Rattle.std.specs.Prelude.{if◌then◌else◌}
use Rattle.std.specs.{List.starts_with, List.before_first, List.after_first, Option.option_or, Path.rsplit_once}
use Rattle.std.specs.{Result.result_ok, Str.byte}
use Rattle.hex.specs.Hex.{decode_of}
use Rattle.digest_kinds.specs.{Algo.all_algos, Algo.has_len, Algo.tag_of, Bytes.ByteString, Bytes.◌>>=◌}
use Rattle.digest_kinds.specs.{Bytes.after_while, Kind.KindValue, KindText.kind_and_rest}
use Rattle.digest_kinds.specs.declared.algo.{Algo.Algo, Algos.Algos, Algos.TheVariants.One, Algos.TheVariants.Any}
use Rattle.sum_lines.specs.grammar.Shapes.{is_blank}

-- the parts of a line; the text is the raw name of a tagged line, the tail of a plain one
pub record LinePartsValue : Type 0 where
  pub escaped : Bool
  pub kind : KindValue
  pub digest : ByteString
  pub text : ByteString

-- whether the bytes begin with a backslash, and what follows it
abbrev pub mark_and_rest : ByteString → Bool × ByteString
mark_and_rest bytes = if starts_with ◌==◌ bytes (codes "\\") then (true, drop 1 bytes) else (false, bytes)

-- a plain line's parts: the digits up to the first blank of its text, and the tail after that
unfoldable pub plain_parts : Algos → ByteString → Option LinePartsValue
plain_parts Any line = None
plain_parts (One algo) line = let text = mark_and_rest (after_while is_blank line) in do
  digest ← result_ok (decode_of (before_first is_blank text.1))
  let kind : KindValue = record { algo = algo; len = length digest }
  let tail = after_first is_blank text.1
  if has_len algo kind.len && nat_lt 0 (length tail)
      then Some (record { escaped = text.0; kind = kind; digest = digest; text = tail }) else None

-- what follows this text, if the bytes begin with it
abbrev pub strip_prefix : ByteString → ByteString → Option ByteString
strip_prefix text bytes = if starts_with ◌==◌ bytes text then Some (drop (length text) bytes) else None

-- the one of these algorithms whose tag begins the bytes
abbrev pub tag_in : Algos → ByteString → Option Algo
tag_in (One algo) bytes = if starts_with ◌==◌ bytes (tag_of algo) then Some algo else None
tag_in Any bytes = find (λ a. starts_with ◌==◌ bytes (tag_of a)) all_algos

-- a tagged line's parts; the last parenthesis ends the name
unfoldable pub tagged_parts : Algos → ByteString → Option LinePartsValue
tagged_parts algos line = let text = mark_and_rest (after_while is_blank line) in do
  algo ← tag_in algos text.1
  named ← kind_and_rest algo (drop (length (tag_of algo)) text.1)
  inner ← option_or (strip_prefix (codes " (") named.1) (strip_prefix (codes "(") named.1)
  name ← rsplit_once (byte ")") inner
  digits ← strip_prefix (codes "=") (after_while is_blank name.1)
  digest ← result_ok (decode_of (after_while is_blank digits))
  if length digest == named.0.len && nat_lt 0 (length name.0)
      then Some (record { escaped = text.0; kind = named.0; digest = digest; text = name.0 }) else None
