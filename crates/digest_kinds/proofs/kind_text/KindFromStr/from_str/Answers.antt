use Rattle.std.proofs.{Common.◌∙◌, Common.arith, lemmas.Grind.common_steps}
use Rattle.digest_kinds.proofs.KindTextLemmas.{named_read, read_named}
use Rattle.digest_kinds.proofs.kind_text.KindFromStr.from_str.Goals as goal

-- no tag begins the text
pub returns-in_default : goal.returns-in_default
returns-in_default c = (
  tt,
  λ kind named. cc (c.in_default.ensures.found kind.algo (named.0, c.as_bytes.ensures.value ∙ named.1)),
)

-- no kind's text begins it
pub returns-in_default-of_tag_prefix : goal.returns-in_default-of_tag_prefix
returns-in_default-of_tag_prefix c =
    let begun = rw c.as_bytes.ensures.value at c.in-Some.ensures.tagged in
    (tt, λ kind named. grind (arith, named_read c.args.s.now c.in-Some.algo kind begun named))

-- something follows
pub returns-then-not-is_empty : goal.returns-then-not-is_empty
returns-then-not-is_empty c =
    let begun = rw c.as_bytes.ensures.value at c.in-Some.ensures.tagged in
    (tt, λ kind named. grind (arith, named_read c.args.s.now c.in-Some.algo kind begun named))

-- nothing follows
pub returns : goal.returns
returns c =
    let begun = rw c.as_bytes.ensures.value at c.in-Some.ensures.tagged in
    let prefix = c.in-Some-of_tag_prefix.prefix in (
      read_named c.args.s.now c.in-Some.algo prefix.kind begun (grind (arith, common_steps)),
      λ kind named. grind (arith, named_read c.args.s.now c.in-Some.algo kind begun named),
    )
