use Rattle.std.proofs.Common.{rules}
use Rattle.digest_kinds_tests.proofs.laws.parsed_back.Goals as goal

-- its text names the kind, and so it is the kind that is returned
pub returns : goal.returns
returns c = let names = c.texts_name_kinds.ensures.text c.args.kind (search rules) in
    c.parse.ensures.value.1 c.args.kind (rw c.text_into.ensures.text names)
