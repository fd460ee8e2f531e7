use Rattle.digest_kinds.{proofs.TagLemmas.IfSome-find-begins, specs.Algo.all_algos}
use Rattle.digest_kinds.proofs.algo.Algo.of_tag_prefix.Goals as goal

-- the tag of what the search finds begins the bytes
pub returns-clause-tagged : goal.returns-clause-tagged
returns-clause-tagged c = rw c.first_begun.ensures (IfSome-find-begins c.args.bytes.now all_algos)
