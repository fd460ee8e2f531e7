-- What a write and a flush do to a sink.
use Rattle.std.specs.Prelude.{ℕ, Bool, true, false, ◌≡◌, ◌<◌, ◌≤◌, ◌+◌, [], ◌∷◌, ◌++◌, length, take, ⊤, Result, Ok, Err}
use Rattle.digest_kinds.specs.Bytes.{ByteString}
use Rattle.sum_lines.specs.sinks.Output.{OutputState}

-- a sink's state: what it got, and whether it is flushed, as before its first call, after a flush, and after a failure,
-- with which it loses what it held
pub record SinkState : Type 0 where
  pub output : OutputState
  pub flushed : Bool

-- a write offers a piece, and writes its first n bytes, at least one if it has any; or it fails, and writes none
abbrev pub WritesSome : {E : Type 0} → SinkState → SinkState → ByteString → Result ℕ E → Type 0
WritesSome before after piece (Ok n) = (n ≤ length piece) × (0 < length piece → 0 < n) × (let got = before.output in
    let output = record got { offered = got.offered ++ piece ∷ []; written = got.written ++ take n piece } in
    after ≡ record { output = output; flushed = false })
WritesSome before after piece (Err fault) = let got = before.output in
    let output = record got { offered = got.offered ++ piece ∷ []; failures = got.failures + 1 } in
    after ≡ record { output = output; flushed = true }

-- a flush offers nothing, or fails
abbrev pub Flushes : {E : Type 0} → SinkState → SinkState → Result ⊤ E → Type 0
Flushes before after (Ok done) = after ≡ record before { flushed = true }
Flushes before after (Err fault) = let got = before.output in
    after ≡ record { output = record got { failures = got.failures + 1 }; flushed = true }
