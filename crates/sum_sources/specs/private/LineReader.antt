-- Relates what a reader of lines has read ahead to what a read, or a piece of a line, changes in it.
use Rattle.std.specs.Prelude.{ℕ, ◌≡◌, ◌+◌, ◌<◌, ◌≤◌, [], ◌∷◌, ◌++◌, length, Bool, true, false, None, Some, Result, Ok}
use Rattle.std.specs.Prelude.{Err}
use Rattle.std.specs.Str.{byte}
use Rattle.digest_kinds.specs.Bytes.{ByteString, LIMIT}
use Rattle.sum_sources.specs.Fault.{Fault}
use Rattle.sum_sources.specs.LineReader.{HasNoNewline, LineReaderValue}
use Rattle.sum_sources.specs.declared.line_reader.LineStop.TheVariants as stops

-- the bytes that a reader got are ahead, and counted; or a fault is its final answer
abbrev pub FillsReader : {I : Type 0} → LineReaderValue I → LineReaderValue I → Result ℕ Fault → Type 0
FillsReader before after (Ok n) = (length after.ahead ≡ n) × (after.taken ≡ before.taken + n) × (after.taken < LIMIT)
    × (after.final_answer ≡ None)
FillsReader before after (Err fault) = (after.ahead ≡ []) × (before.taken ≤ after.taken)
    × (after.final_answer ≡ Some (Err (stops.Fault fault)))

-- a piece moves from the front of what is ahead to the line's end: up to a newline, which is dropped, or all of it
abbrev pub TakesPiece : Bool → ByteString → ByteString → ByteString → ByteString → Type 0
TakesPiece true before after line longer = (piece : ByteString) × HasNoNewline piece
    × (before ≡ piece ++ (byte "\n" ∷ after)) × (longer ≡ line ++ piece)
TakesPiece false before after line longer = HasNoNewline before × (after ≡ []) × (longer ≡ line ++ before)
