use Rattle.std.proofs.Common.{◌∙◌, refl}
use Rattle.sum_lines.proofs.SinkLemmas.{HasLeft-all, HasLeft-step, HasLeft-failed, HasLeft-last}
use Rattle.sum_words.{proofs.TextLemmas.usage_parts, proofs.TextLemmas.option_lines, specs.parsing.Options.all_flags}
use Rattle.sum_words.proofs.messages.help.put_help.Goals as goal

-- the write of the first two lines failed
pub returns-in_err-put_parts : goal.returns-in_err-put_parts
returns-in_err-put_parts g c =
    let wrote = rw (usage_parts _ _ _ _ _ _ (c.as_bytes.ensures.value ∙ c.name.ensures.name) c.purpose.ensures)
    at c.in_err-put_parts.ensures in
    record {
      text = HasLeft-failed (option_lines c.args.tool all_flags) _ HasLeft-all refl wrote c.from_residual.ensures.0;
    }

-- the first two lines were written, and then those of the options
pub returns : goal.returns
returns g c =
    let wrote = rw (usage_parts _ _ _ _ _ _ (c.as_bytes.ensures.value ∙ c.name.ensures.name) c.purpose.ensures)
    at c.in_ok-put_parts.ensures in
    let options = rw c.all_flags.ensures at c.put_options.ensures in
    record { text = HasLeft-last _ c.put_options.result (HasLeft-step _ HasLeft-all refl wrote) options }
