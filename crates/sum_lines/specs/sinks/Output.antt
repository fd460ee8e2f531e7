-- What an output got, and which events happened to it.
use Rattle.std.specs.Prelude.{ℕ, ◌≡◌, ◌<◌, ◌⊎◌, List, [], ◌∷◌, ◌++◌, length, filter_map, Option, None, Some}
use Rattle.digest_kinds.specs.Bytes.{ByteString}
pub use Rattle.sum_lines.specs.sinks.Texts.{OutputEvent, offer_piece, write_byte, pieces_of, byte_events, output_events}

-- what an output got: the pieces that it was offered, one per write; the bytes of them that it wrote; its failed calls
pub record OutputState : Type 0 where
  pub offered : List ByteString
  pub written : ByteString
  pub failures : ℕ

-- the byte that an event writes
abbrev pub written_byte : OutputEvent → Option ℕ
written_byte (OutputEvent.write_byte b left) = Some b
written_byte event = None

-- exactly the pieces of these events were offered, in order; but what a write left of a piece may be offered again
abbrev pub OffersEach : List ByteString → List ByteString → List OutputEvent → Type 0
OffersEach before after [] = after ≡ before
OffersEach before after (OutputEvent.offer_piece piece ∷ events) = OffersEach (before ++ piece ∷ []) after events
OffersEach before after (OutputEvent.write_byte b left ∷ events) =
    OffersEach before after events ⊎ ((0 < length left) × OffersEach (before ++ left ∷ []) after events)

-- these events happened
pub record Gets (before after : OutputState) (events : List OutputEvent) : Type 0 where
  pub offered : OffersEach before.offered after.offered events
  pub written : after.written ≡ before.written ++ filter_map written_byte events
