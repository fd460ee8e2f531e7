-- What a text is for an output: pieces, and the events of each.
use Rattle.sum_lines.specs.declared.sinks.buffered.TheConstants.{CAPACITY}
use Rattle.std.specs.Prelude.{ℕ, ◌+◌, ◌-◌, ◌/◌, List, [], ◌∷◌, length, flat_map}
use Rattle.std.specs.Simd.{first_chunks}
use Rattle.digest_kinds.specs.Bytes.{ByteString}

-- the pieces of a text: `CAPACITY` bytes each, and what is left. So a text of at most that many bytes is one piece, and
-- the empty text is none
abbrev pub pieces_of : ByteString → List ByteString
pieces_of text = first_chunks CAPACITY ((length text + (CAPACITY - 1)) / CAPACITY) text

-- what an output gets: a piece is offered to it; or a byte is written, and these bytes of its piece are left
pub data OutputEvent : Type 0 where
  offer_piece : ByteString → OutputEvent
  write_byte : ℕ → ByteString → OutputEvent

-- the events of a piece's bytes, which are written one after another
abbrev pub byte_events : ByteString → List OutputEvent
byte_events [] = []
byte_events (b ∷ left) = OutputEvent.write_byte b left ∷ byte_events left

-- the events of a text: each piece is offered, and then its bytes are written
abbrev pub output_events : ByteString → List OutputEvent
output_events text = flat_map (λ piece. OutputEvent.offer_piece piece ∷ byte_events piece) (pieces_of text)
