-- What a call does that is to write the texts of a behavior.
use Rattle.std.specs.Prelude.{◌≡◌, ◌++◌, Result, Ok, Err}
use Rattle.digest_kinds.specs.Bytes.{ByteString}
use Rattle.sum_engine.specs.{Behavior.Behavior, Behavior.err_text, Behavior.out_text, Streams.StreamsState}
use Rattle.sum_settings.specs.declared.stop.Stop.{Stop}

-- the call returns this outcome, and each output got its text; or it stopped, and each output got a prefix of its text
abbrev pub WritesTexts : {A : Type 0} → Behavior → A → StreamsState → StreamsState → Result A Stop → Type 0
WritesTexts all outcome before after (Ok value) = (value ≡ outcome)
    × (after.outputs.out.written ≡ before.outputs.out.written ++ out_text all)
    × (after.outputs.err.written ≡ before.outputs.err.written ++ err_text all)
WritesTexts all outcome before after (Err stop) = (out err later_out later_err : ByteString)
    × (out_text all ≡ out ++ later_out) × (err_text all ≡ err ++ later_err)
    × (after.outputs.out.written ≡ before.outputs.out.written ++ out)
    × (after.outputs.err.written ≡ before.outputs.err.written ++ err)
