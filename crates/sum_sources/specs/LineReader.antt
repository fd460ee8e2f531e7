-- The lines of a manifest, the state of a reader of lines, and what a call changes in it.
use Rattle.std.specs.Prelude.{ℕ, zero, suc, ◌≡◌, ◌+◌, ◌-◌, ◌<◌, false, List, [], ◌∷◌, ◌++◌, map, take, length, All}
use Rattle.std.specs.Prelude.{slice_index_or, Result, Ok, Err, ◌≢◌, ◌≤◌, ◌⊎◌, drop, Option, None, Some}
use Rattle.std.specs.List.{slice_split, after_first}
use Rattle.std.specs.Char.{is_newline}
use Rattle.std.specs.Str.Lines.{strip_carriage_return}
use Rattle.digest_kinds.specs.Bytes.{ByteString, LIMIT}
use Rattle.sum_sources.specs.Fault.{Ending, Whole, Broken, Fault}
use Rattle.sum_sources.specs.inputs.Input.{Content, Unfinished, Ended, Past, InputState, Reads, Fits}
use Rattle.sum_sources.specs.inputs.InputLog.{empty_content}
use Rattle.sum_sources.specs.inputs.Input.{IsSameInput, clip, reads_past}
use Rattle.sum_sources.specs.declared.line_reader.ReaderState.{ReaderState}
use Rattle.sum_sources.specs.declared.line_reader.ReaderState.TheVariants.{Active, Done, Stopped}
use Rattle.sum_sources.specs.declared.inputs.input.TheConstants.{PIECE}
use Rattle.sum_sources.specs.declared.line_reader.LineReader.TheInside.{Inside}
pub use Rattle.sum_sources.specs.declared.line_reader.{LineStop.LineStop, Next.Next, Next.TheVariants.Line}
pub use Rattle.sum_sources.specs.declared.line_reader.{Next.TheVariants.NoMore}
use Rattle.sum_sources.specs.declared.line_reader.LineStop.TheVariants as stops

-- the line of the last piece, which no newline ended: it is one if it isn't empty and the content ends whole
abbrev pub last_line : Ending → ByteString → List ByteString
last_line Whole (x ∷ xs) = (x ∷ xs) ∷ []
last_line _ _ = []

-- the lines of a content with their carriage returns. A newline ended each piece but the last, which `last_line` judges
unfoldable pub raw_lines : Content → List ByteString
raw_lines content = let pieces = slice_split is_newline content.bytes in
    take (length pieces - 1) pieces ++ last_line content.ending (slice_index_or pieces (length pieces - 1) [])

-- the lines of a content: each without one carriage return at its end, if it has one
abbrev pub lines_in : Content → List ByteString
lines_in content = map strip_carriage_return (raw_lines content)

-- the content past its first line
abbrev pub past_line : Content → Content
past_line content = record { bytes = after_first is_newline content.bytes; ending = content.ending }

-- no byte is a newline
abbrev pub HasNoNewline : ByteString → Type 0
HasNoNewline piece = All (λ b. is_newline b ≡ false) piece

-- what next_line returns, if this content remains before the call and that one after it: the first line; or, if there
-- is none, the ending, and only it remains. Memory is refused only if a byte remains; no newline is then consumed
abbrev pub IsNextLine : Content → Content → Result Next LineStop → ByteString → Type 0
IsNextLine before after (Ok Line) line = (lines_in before ≡ line ∷ lines_in after) × (after ≡ past_line before)
IsNextLine before after (Ok NoMore) line = (lines_in before ≡ []) × (before.ending ≡ Whole) × (after ≡ empty_content)
IsNextLine before after (Err (stops.Fault fault)) line =
    (lines_in before ≡ []) × (before.ending ≡ Broken fault) × (after ≡ record { bytes = []; ending = Broken fault })
IsNextLine before after (Err stops.Memory) line = (0 < length before.bytes) × (past_line after ≡ past_line before)

-- the number of lines after a call: one more if it returned a line
abbrev pub lines_after : ℕ → Result Next LineStop → ℕ
lines_after n (Ok Line) = n + 1
lines_after n _ = n

-- the content past this many lines
abbrev pub content_past_lines : ℕ → Content → Content
content_past_lines zero content = content
content_past_lines (suc k) content = content_past_lines k (past_line content)

-- a reader of lines
pub record LineReaderValue (I : Type 0) : Type 0 where
  pub input : I  -- its input, past the bytes that were read from it
  pub ahead : ByteString  -- of these bytes, those that were not moved into a line
  pub taken : ℕ  -- how many bytes were read from the input
  pub lines : ℕ  -- how many lines were returned
  pub final_answer : Option (Result Next LineStop)  -- what every later call returns, if that is settled

-- the number of bytes that became part of lines, newlines included; after a stop also those of a line that was begun
abbrev pub consumed_count : {I : Type 0} → LineReaderValue I → ℕ
consumed_count reader = reader.taken - length reader.ahead

-- what holds of every reader: each line consumed a byte at least; and if memory was refused, some bytes are ahead
pub record IsBounded {I : Type 0} (reader : LineReaderValue I) : Type 0 where
  pub lines : reader.lines + length reader.ahead ≤ reader.taken
  pub ahead : length reader.ahead ≤ PIECE
  pub taken : reader.taken ≤ LIMIT
  pub wants : reader.final_answer ≡ Some (Err stops.Memory) → 0 < length reader.ahead

-- a content past its first n bytes
abbrev pub content_past : ℕ → Content → Content
content_past n content = record { bytes = drop n content.bytes; ending = content.ending }

-- what was read of the input since the reader was made
abbrev pub reads_of : {I : Type 0} → (I → InputState) → LineReaderValue I → Reads
reads_of state reader = let reads = (state reader.input).reads in reads_past (length reads.bytes - reader.taken) reads

-- what remains of a content, as far as the limit allows
abbrev pub remaining_content : {I : Type 0} → LineReaderValue I → Content → Content
remaining_content reader content = content_past (consumed_count reader) (clip content)

-- the input hasn't ended, and what it gave past what was consumed is ahead
pub record IsUnderWay {I : Type 0} (state : I → InputState) (reader : LineReaderValue I) : Type 0 where
  pub phase : (reads_of state reader).phase ≡ Unfinished
  pub taken : length (reads_of state reader).bytes ≡ reader.taken
  pub ahead : (consumed : ByteString) × ((reads_of state reader).bytes ≡ consumed ++ reader.ahead)

-- the input hadn't ended when the reader was made
pub record IsReading {I : Type 0} (state : I → InputState) (reader : LineReaderValue I) : Type 0 where
  pub under_way : reader.final_answer ≡ None → IsUnderWay state reader
  -- a final answer is right for each content that the reads fit
  pub final : (answer : Result Next LineStop) → reader.final_answer ≡ Some answer → (line : ByteString)
      (content : Content) → Fits (reads_of state reader) content
      → IsNextLine (remaining_content reader content) (remaining_content reader content) answer line
  -- if no line remains, the input is at its end; it is never read past its end or its fault
  pub end : reader.final_answer ≡ Some (Ok NoMore) → (state reader.input).reads.phase ≡ Ended Whole
  pub past : ¬ ((state reader.input).reads.phase ≡ Past)

-- what every later call returns after this answer: the same after the end or a stop; after a line, the end or anything
abbrev pub IsFinalAnswerAfter : Result Next LineStop → Option (Result Next LineStop) → Type 0
IsFinalAnswerAfter (Ok Line) later = (later ≡ None) ⊎ (later ≡ Some (Ok NoMore))
IsFinalAnswerAfter answer later = later ≡ Some answer

-- a call reads on in an input that hadn't ended when the reader was made. Holds relates what remained before the call
-- to what remains after it, for each content that the reads fit after the call
pub record ReadsOn {I : Type 0} (state : I → InputState) (old new : LineReaderValue I)
    (Holds : Content → Content → Type 0) : Type 0 where
  pub reading : IsReading state new
  -- if the reads fit a content, those before the call fit it, too
  pub before : (content : Content) → Fits (reads_of state new) content → Fits (reads_of state old) content
  pub holds : (content : Content) → Fits (reads_of state new) content
      → Holds (remaining_content old content) (remaining_content new content)

-- a call takes the next line of what remained, or its ending; or memory was refused
pub record TakesNextLine {I : Type 0} (old new : LineReaderValue I) (result : Result Next LineStop)
    (bytes : ByteString) (before after : Content) : Type 0 where
  pub line : IsNextLine before after result bytes
  -- unless a fault broke the input, bytes consumed and bytes that remain add up to the same
  pub sum : ((fault : Fault) → result ≢ Err (stops.Fault fault))
      → consumed_count new + length after.bytes ≡ consumed_count old + length before.bytes

-- what a call of next_line changes in a reader
pub record AdvancesLines {I : Type 0} (state : I → InputState) (before after : LineReaderValue I)
    (result : Result Next LineStop) : Type 0 where
  pub final_answer : IsFinalAnswerAfter result after.final_answer  -- what later calls return
  pub lines : after.lines ≡ lines_after before.lines result  -- a line that is returned is counted
  pub ahead : ¬ HasNoNewline before.ahead → after.input ≡ before.input  -- the input isn't read if a whole line is ahead
  pub same : IsSameInput (state before.input) (state after.input)
  -- each byte that the input gave is counted
  pub taken : after.taken + length (state before.input).reads.bytes
      ≡ before.taken + length (state after.input).reads.bytes

-- what every later call returns
abbrev pub final_answer_in : ReaderState → Option (Result Next LineStop)
final_answer_in Active = None
final_answer_in Done = Some (Ok NoMore)
final_answer_in (Stopped stop) = Some (Err stop)

-- what a reader is, by its fields
abbrev pub line_reader_view : {I : Type 0} → Inside I → LineReaderValue I
line_reader_view fields = let ahead = take (fields.end - fields.start) (drop fields.start fields.buf) in
    let final = final_answer_in fields.state in
    record { input = fields.input; ahead = ahead; taken = fields.taken; lines = fields.lines; final_answer = final }

-- the invariant of the fields
pub record IsSoundReader {I : Type 0} (fields : Inside I) : Type 0 where
  pub start_in : fields.start ≤ fields.end
  pub end_in : fields.end ≤ PIECE
  pub each : fields.lines + (fields.end - fields.start) ≤ fields.taken
  pub most : fields.taken ≤ LIMIT
  pub under : (fields.taken < LIMIT) ⊎ ((fault : Fault) × (fields.state ≡ Stopped (stops.Fault fault)))
  pub wants : fields.state ≡ Stopped stops.Memory → fields.start < fields.end
