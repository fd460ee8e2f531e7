use Rattle.digest_kinds.specs.Bytes.{LIMIT}
use Rattle.std.proofs.Common.{◌≡◌, ◌-◌, ◌+◌, None, length}
use Rattle.sum_sources.{proofs.ReadOnLemmas.HasRead, specs.LineReader.consumed_count, specs.LineReader.IsReading}
use Rattle.sum_sources.{specs.inputs.Input.IsSameInput}
use Rattle.sum_sources.specs.LineReader.{HasNoNewline}
use Rattle.sum_sources.proofs.line_reader.LineReader.read_on.Given as goal

-- the line so far, and what stays
abbrev pub invariant-loop-line : goal.invariant-loop-line
invariant-loop-line g l = record {
  read : IsReading g.I.Input.state l.fn.self → HasRead g.I.Input.state l.fn.self l.self l.line.items;
  going : l.self.final_answer ≡ None;
  sum : consumed_count l.self ≡ consumed_count l.fn.self + length l.line.items;
  plain : HasNoNewline l.line.items;
  taken : l.self.taken + length (g.I.Input.state l.fn.self.input).reads.bytes
      ≡ l.fn.self.taken + length (g.I.Input.state l.self.input).reads.bytes;
  same : IsSameInput (g.I.Input.state l.fn.self.input) (g.I.Input.state l.self.input);
  lines : l.self.lines ≡ l.fn.self.lines;
  unread : ¬ HasNoNewline l.fn.self.ahead → l.self ≡ l.fn.self;
}

-- the bytes that may still come
abbrev pub decreases-loop-line : goal.decreases-loop-line
decreases-loop-line g l = LIMIT - l.self.taken
