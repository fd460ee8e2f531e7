use Rattle.theorems.proofs.WriteLemmas.{text_again}
use Rattle.theorems.proofs.lines.short_text_offered.Goals as goal

pub returns : goal.returns
returns g c = text_again _ _ _ _ c.write.ensures.text
