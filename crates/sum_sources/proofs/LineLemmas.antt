-- Pieces and lines at the steps of the line reader.
use Rattle.std.specs.Str.{byte}
use Rattle.std.proofs.Common.{◌≡◌, ℕ, ◌<◌, false, List, [], ◌∷◌, ◌++◌, length, map, Ok, Err, refl, ap, append_assoc}
use Rattle.std.proofs.Common.{arith, rules}
use Rattle.std.proofs.lemmas.{Grind.common_steps, List.append-nil, List.Elements.All-head, List.Elements.All-tail}
use Rattle.std.proofs.lemmas.{List.Splits.slice_split_at, List.Splits.slice_split_none, List.Splits.length-slice_split}
use Rattle.std.specs.{Char.is_newline, List.after_first, Str.Lines.strip_carriage_return}
use Rattle.sum_sources.specs.LineReader.{Line, last_line, raw_lines, lines_in, past_line, HasNoNewline, IsNextLine}
use Rattle.sum_sources.{specs.Fault.Fault, specs.Fault.Ending, specs.Fault.Broken, specs.inputs.Input.Content}
use Rattle.sum_sources.{proofs.ContentLemmas.with_prefix}
use Rattle.sum_sources.specs.inputs.InputLog.{empty_content}
use Rattle.sum_sources.specs.declared.line_reader.LineStop.TheVariants as stops

-- a newline ends the first piece
pub pieces-newline : (e : Ending) (piece rest : List ℕ) → HasNoNewline piece
    → raw_lines (record { bytes = piece ++ (10 ∷ rest); ending = e })
    ≡ piece ∷ raw_lines (record { bytes = rest; ending = e })
unfolding raw_lines
pieces-newline e piece rest none = grind (arith, length-slice_split, slice_split_at)

-- bytes without a newline are the last piece
pub pieces-last : (e : Ending) (piece : List ℕ) → HasNoNewline piece
    → raw_lines (record { bytes = piece; ending = e }) ≡ last_line e piece
unfolding raw_lines
pieces-last e piece none = rw (slice_split_none is_newline piece none) refl

-- the first newline is past a piece that has none
after_piece : (piece rest : List ℕ) → HasNoNewline piece
    → after_first is_newline (piece ++ rest) ≡ after_first is_newline rest
after_piece [] rest none = refl
after_piece (b ∷ bs) rest none =
    grind (arith, after_piece bs rest (All-tail (λ b. is_newline b ≡ false) b bs none), All-head)

-- so the same is past the first line with it and without it
pub past_line-piece : (piece : List ℕ) (d : Content) → HasNoNewline piece
    → past_line d ≡ past_line (with_prefix piece d)
past_line-piece piece d none = rw (after_piece piece d.bytes none) refl

-- a content without bytes has no line
pub lines-nil : (e : Ending) → lines_in (record { bytes = []; ending = e }) ≡ []
unfolding raw_lines
lines-nil e = grind arith

-- a newline ends the first line
pub IsNextLine-ended : (d : Content) (piece : List ℕ) → HasNoNewline piece
    → IsNextLine (with_prefix (piece ++ byte "\n" ∷ []) d) d (Ok Line) (strip_carriage_return piece)
IsNextLine-ended d piece none = grind (arith, append_assoc, after_piece, pieces-newline)

-- a last piece that isn't empty is the only line left
pub IsNextLine-last : (piece : List ℕ) → HasNoNewline piece → 0 < length piece
    → IsNextLine (with_prefix piece empty_content) empty_content (Ok Line) (strip_carriage_return piece)
IsNextLine-last piece none some = search (rules, after_piece, pieces-last)

-- a fault leaves no line, whatever precedes it
pub IsNextLine-fault : (f : Fault) (piece : List ℕ) → HasNoNewline piece
    → let fault : Content = record { bytes = []; ending = Broken f } in
    IsNextLine (with_prefix piece fault) fault (Err (stops.Fault f)) []
IsNextLine-fault f piece none =
    (rw append-nil (ap (map strip_carriage_return) (pieces-last (Broken f) piece none)), refl, refl)

-- a content that has a line has a byte
some_bytes : (bytes line : List ℕ) (e : Ending) (ls : List (List ℕ))
    → lines_in (record { bytes = bytes; ending = e }) ≡ line ∷ ls → 0 < length bytes
some_bytes bytes line e ls is = grind (arith, common_steps, lines-nil)

-- so has one before its first line
pub line-some : (c d : Content) (line : List ℕ) → IsNextLine c d (Ok Line) line → 0 < length c.bytes
line-some c d line is = some_bytes c.bytes line c.ending (lines_in d) is.0
