use Rattle.std.proofs.Common.{arith, ◌<◌, ◌+◌, ℕ, List, Result, Ok, Err, length, length-append, ap, sym, ◌∙◌}
use Rattle.std.proofs.Common.{filter_map}
use Rattle.std.{proofs.lemmas.List.Elements.filter_map-append, specs.Prelude.OnOk, specs.Prelude.OnErr, specs.Prelude.⊤}
use Rattle.sum_lines.{proofs.EventLemmas.output_events-bytes, specs.sinks.Buffered.BufferState}
use Rattle.sum_lines.{specs.sinks.Buffered.WritesAll, specs.sinks.Output.written_byte}
use Rattle.sum_lines_tests.proofs.callers.put.Goals as goal

-- some bytes of a text that isn't empty are still buffered
keeps : {E : Type 0} (a b : BufferState) (text : List ℕ) (r : Result ⊤ E) → WritesAll a b text r
    → OnOk r (0 < length text → 0 < length b.buffered)
keeps a b text (Ok u) h = λ some. grind (arith, h.last, ap length h.cut, length-append)
keeps a b text (Err e) h = tt

-- of the bytes that were to be given, a prefix was written
fewer : {E : Type 0} (a b : BufferState) (text : List ℕ) (r : Result ⊤ E) → WritesAll a b text r
    → OnErr r (length b.sink.output.written < length a.sink.output.written + length a.buffered + length text)
fewer a b text (Ok u) h = tt
fewer a b text (Err e) h =
    let (prefix, rest, are, gets) = h.gives.0 in
    let given = sym (output_events-bytes h.given) ∙ ap (filter_map written_byte) are
    ∙ filter_map-append _ prefix rest in
    omega (arith, ap length gets.written, ap length given, ap length h.cut, h.proper, length-append {A = ℕ})

-- the last piece is buffered
pub returns-clause-buffered : goal.returns-clause-buffered
returns-clause-buffered g c = keeps _ _ _ _ c.put_all.ensures.text

-- the rest that follows the given pieces isn't empty
pub returns-clause-fewer : goal.returns-clause-fewer
returns-clause-fewer g c = fewer _ _ _ _ c.put_all.ensures.text
