use Rattle.std.proofs.Common.{[], sym, ◌∙◌, append-nil}
use Rattle.digest_kinds.specs.Algo.{tag_of}
use Rattle.digest_kinds.proofs.algo.AlgoFromStr.from_str.Goals as goal

-- if no tag begins the text, it is no tag, since a tag begins itself
pub returns-in_default-2 : goal.returns-in_default-2
returns-in_default-2 c = (
  tt,
  λ a same.
      let none = c.in_default.ensures.found a ([], c.as_bytes.ensures.value ∙ same ∙ sym (append-nil (tag_of a))) in cc,
)
