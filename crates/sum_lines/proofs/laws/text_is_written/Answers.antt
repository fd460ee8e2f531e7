use Rattle.std.proofs.Common.{◌∙◌, ap, filter_map, sym}
use Rattle.std.proofs.lemmas.List.Elements.{filter_map-append}
use Rattle.sum_lines.{proofs.EventLemmas.output_events-bytes, specs.sinks.Output.written_byte}
use Rattle.sum_lines.proofs.laws.text_is_written.Goals as goal

pub returns-clause-whole : goal.returns-clause-whole
returns-clause-whole c = λ before after text got. rw output_events-bytes at got.written

pub returns-clause-prefix : goal.returns-clause-prefix
returns-clause-prefix c = λ before after text (front, rest, are, got). (
  filter_map written_byte front,
  filter_map written_byte rest,
  sym (output_events-bytes text) ∙ ap (filter_map written_byte) are ∙ filter_map-append written_byte front rest,
  got.written,
)
