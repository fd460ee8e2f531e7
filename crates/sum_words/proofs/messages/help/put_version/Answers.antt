use Rattle.sum_words.proofs.messages.help.put_version.Goals as goal

-- the parts make the version text
pub returns : goal.returns
returns g c = record { text = rw (c.as_bytes.ensures.value, c.name.ensures.name) at c.put_parts.ensures }
