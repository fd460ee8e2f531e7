-- Inputs in memory.
use Rattle.std.specs.Prelude.{ℕ, Some}
use Rattle.digest_kinds.specs.Bytes.{ByteString}
use Rattle.sum_sources.specs.{declared.inputs.told.Told.Told, inputs.Input.Phase, inputs.Input.Content}
use Rattle.sum_sources.specs.{inputs.Input.InputState}
use Rattle.sum_sources.specs.inputs.InputLog.{told_reads}

-- an input in memory
pub record ToldValue : Type 0 where
  pub content : Content
  pub given : ℕ  -- how many of its bytes its reads gave
  pub piece : ℕ  -- the most bytes that one read gives
  pub phase : Phase
  pub nth : ℕ
  pub name : ByteString

-- an input in memory, by its fields
abbrev pub told_view : Told → ToldValue
told_view told = let content : Content = record { bytes = told.bytes.now; ending = told.ending } in
    let log = told.log in let n = told.given in let phase = told.phase in
    record { content = content; given = n; piece = told.piece; phase = phase; nth = log.nth; name = log.name }

-- the state of an input in memory
abbrev pub told_state : ToldValue → InputState
told_state told = let content = told.content in let reads = told_reads content told.given told.phase in
    record { nth = told.nth; name = told.name; told = Some content; reads = reads }
