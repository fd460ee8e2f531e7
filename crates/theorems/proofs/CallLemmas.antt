-- What a call of the program wrote: its texts or, after a stop, a prefix of them and the line for the stop.
use Rattle.std.proofs.Common.{arith, ◌≡◌, ◌≢◌, ◌∙◌, ◌≤◌, ◌+◌, ◌⊎◌, ℕ, [], ◌++◌, Bool, Option, Some, Result, Ok, Err, ap}
use Rattle.std.proofs.Common.{subst, append-nil, append_assoc, filter_map, inl, inr, refl, sym}
use Rattle.std.{proofs.lemmas.List.Elements.filter_map-append, specs.Prelude.⊤}
use Rattle.digest_kinds.specs.Bytes.{ByteString}
use Rattle.sum_engine.specs.{Behavior.Behavior, Behavior.World, Behavior.single_step, Streams.BothOutputs}
use Rattle.sum_engine.specs.{Streams.FailuresMatch, Streams.StreamsState, Streams.failures_of}
use Rattle.sum_engine.specs.Execution.{Agrees, Performs, RunsOutOfMemory, world_at}
use Rattle.sum_lines.{proofs.EventLemmas.output_events-bytes}
use Rattle.sum_lines.specs.sinks.GivesAll.{GivesAll}
use Rattle.sum_lines.{specs.sinks.Output.OutputState, specs.sinks.Output.written_byte}
use Rattle.sum_settings.specs.declared.stop.Stop.{Stop, TheVariants.Memory, TheVariants.Write}
use Rattle.sum_words.specs.declared.tool.Tool.{Tool}
use Rattle.digests.specs.{Program.CallPerforms, Program.ReportsStop, Program.stop_line}
use Rattle.digests.specs.ToolRun.{request_behavior, status_of}
use Rattle.sum_words.specs.{declared.parsing.request.Request.Request, parsing.WordFault.WordFaultValue}
use Rattle.theorems.proofs.{MemoryLemmas.always_memory, TextLemmas.texts_written}
use Rattle.theorems.specs.CommandWrites.{CommandWrites}

-- a text was given, or a prefix of it
text_or_prefix : {E : Type 0} (a b : OutputState) (text : ByteString) (r : Result ⊤ E) → GivesAll a b text r
    → (front later : ByteString) × (text ≡ front ++ later) × (b.written ≡ a.written ++ front)
    × ((later ≡ []) ⊎ (b.failures ≡ a.failures + 1))
text_or_prefix a b text (Ok done) gave =
    (text, [], sym (append-nil text), rw output_events-bytes at gave.0.written, inl refl)
text_or_prefix a b text (Err fault) gave =
    let (p, q, are, got) = gave.0 in (
      _,
      _,
      sym (output_events-bytes text) ∙ ap (filter_map written_byte) are ∙ filter_map-append written_byte p q,
      got.written,
      inr gave.1,
    )

-- a text to an output doesn't take back a failure
more_failures : {E : Type 0} (a b : OutputState) (text : ByteString) (r : Result ⊤ E) → GivesAll a b text r
    → a.failures ≤ b.failures
more_failures a b text (Ok x) gave = omega (arith, gave.1)
more_failures a b text (Err e) gave = omega (arith, gave.1)

-- one more failure shows
failed_more : (a b c : BothOutputs) → FailuresMatch {A = ℕ} a b (Err Write) → b.out.failures ≤ c.out.failures
    → b.err.failures ≤ c.err.failures → failures_of c ≢ failures_of a
failed_more a b c (inl more) out err same = omega (arith, ap (λ f. f.0) more, ap (λ f. f.0) same)
failed_more a b c (inr more) out err same = omega (arith, ap (λ f. f.1) more, ap (λ f. f.1) same)

-- if standard error has no more failures in the end, the line for a stop is whole
whole_line : (a c : BothOutputs) (err : OutputState) (stop : Stop) (later : ByteString)
    → FailuresMatch {A = ℕ} a c (Err stop) → (later ≡ []) ⊎ (err.failures ≡ c.err.failures + 1)
    → err.failures ≡ a.err.failures → later ≡ []
whole_line a c err stop later failed (inl whole) same = whole
whole_line a c err Write later (inl more) (inr one) same = absurd (omega (arith, one, same, ap (λ f. f.1) more))
whole_line a c err Write later (inr more) (inr one) same = absurd (omega (arith, one, same, ap (λ f. f.1) more))
whole_line a c err Memory later failed (inr one) same = absurd (omega (arith, one, same, ap (λ f. f.1) failed))

-- a call wrote what its run is to write; or it stopped, if memory ran out by this cause
pub call_written : {a b : StreamsState} {status : ℕ} (tool : Option Tool) (run : World → Behavior) (Cause : Type 0)
    (w : World) → Agrees w b.inputs → let all = run (world_at w a.inputs) in
    ((c : StreamsState) → b.inputs ≡ c.inputs → RunsOutOfMemory all.steps a c → Cause)
    → CallPerforms tool (Performs run status_of) a b status → CommandWrites tool all Cause a b status
call_written {a = a} {b = b} {status = status} tool run Cause w agrees wants call =
    by call.result call.between call.runs call.failures call.inputs call.end
  where
    by : (result : Result ℕ Stop) (c : StreamsState) → Performs run status_of a c result
        → FailuresMatch a.outputs c.outputs result → b.inputs ≡ c.inputs
        → ReportsStop tool result c.outputs b.outputs status
        → CommandWrites tool (run (world_at w a.inputs)) Cause a b status
    by (Ok x) c did failed same reports =
        let all = run (world_at w a.inputs) in
        let (value, out, err) = texts_written all (status_of all.good) a c (Ok x) (did w (rw same at agrees)) in
        inl (reports.0 ∙ value, rw reports.1 out, rw reports.1 err)
    by (Err Write) c did failed same reports =
        let (one, kept, result, gave) = reports in
        let all = run (world_at w a.inputs) in
        let (out, err, later_out, later_err, are_out, are_err, to_out, to_err) =
        texts_written all (status_of all.good) a c (Err Write) (did w (rw same at agrees)) in
        let (line, later, is, wrote, whole) = text_or_prefix c.outputs.err b.outputs.err
        (stop_line tool Write) result gave in
        inr (
          one,
          Write,
          out,
          err,
          line,
          later_out,
          later_err,
          later,
          are_out,
          are_err,
          is,
          ap (λ (o : BothOutputs). o.out.written) kept ∙ to_out,
          wrote ∙ ap (λ bytes. bytes ++ line) to_err ∙ append_assoc _ err line,
          whole_line a.outputs c.outputs b.outputs.err Write later failed whole,
          λ is. failed_more a.outputs c.outputs b.outputs failed (rw kept (omega arith))
              (more_failures c.outputs.err b.outputs.err _ result gave),
          λ is. cc,
        )
    by (Err Memory) c did failed same reports =
        let (one, kept, result, gave) = reports in
        let all = run (world_at w a.inputs) in
        let ran = did w (rw same at agrees) in
        let (out, err, later_out, later_err, are_out, are_err, to_out, to_err) =
        texts_written all (status_of all.good) a c (Err Memory) ran in
        let (line, later, is, wrote, whole) = text_or_prefix c.outputs.err b.outputs.err
        (stop_line tool Memory) result gave in
        inr (
          one,
          Memory,
          out,
          err,
          line,
          later_out,
          later_err,
          later,
          are_out,
          are_err,
          is,
          ap (λ (o : BothOutputs). o.out.written) kept ∙ to_out,
          wrote ∙ ap (λ bytes. bytes ++ line) to_err ∙ append_assoc _ err line,
          whole_line a.outputs c.outputs b.outputs.err Memory later failed whole,
          λ is. cc,
          λ is. wants c same ran,
        )

-- a call for which there is always memory, since it opens nothing
pub text_written : {a b : StreamsState} {status : ℕ} (tool : Option Tool) (err out : ByteString) (good : Bool)
    (w : World) → Agrees w b.inputs → CallPerforms tool
    (Performs (λ w. single_step [] err out good) status_of) a b status
    → CommandWrites tool (single_step [] err out good) ⊥ a b status
text_written tool err out good w agrees =
    call_written tool (λ w. single_step [] err out good) ⊥ w agrees (λ c same ran. always_memory err out good ran)

-- a call that performs what a request asks for, by what the request is
pub call_asked : {a b : StreamsState} {status : ℕ} (tool : Tool) {first later : Result Request WordFaultValue}
    → first ≡ later → CallPerforms (Some tool) (Performs (request_behavior tool first) status_of) a b status
    → CallPerforms (Some tool) (Performs (request_behavior tool later) status_of) a b status
call_asked {a} {b} {status} tool same did =
    subst (λ r. CallPerforms (Some tool) (Performs (request_behavior tool r) status_of) a b status) same did
