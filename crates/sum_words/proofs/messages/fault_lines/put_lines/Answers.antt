use Rattle.std.proofs.Common.{append_assoc}
use Rattle.sum_words.proofs.messages.fault_lines.put_lines.Goals as goal

-- the parts make the two lines
pub returns : goal.returns
returns g c = λ f text. rw (
  ← text,
  ← c.name.ensures.name,
  ← c.as_bytes.ensures.value,
  ← c.as_bytes-2.ensures.value,
  ← c.as_bytes-3.ensures.value,
) (simp append_assoc c.put_parts.ensures)
