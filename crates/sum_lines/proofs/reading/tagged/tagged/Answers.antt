use Rattle.std.proofs.{Common.sym, Common.arith, Common.length, Common.◌∙◌, lemmas.Bool.eqb-false}
use Rattle.sum_lines.proofs.{PrefixLemmas.text, ScanLemmas.two_digits, ScanLemmas.decoded-digits, ScanLemmas.front-ends}
use Rattle.sum_lines.proofs.{ScanLemmas.name_place, ScanLemmas.tagged-none, ScanLemmas.tagged-read}
use Rattle.sum_lines.proofs.{TaggedLemmas.tag_in-some}
use Rattle.digest_kinds.specs.declared.algo.Algos.TheVariants.{One}
use Rattle.sum_lines.proofs.reading.tagged.tagged.Goals as goal

-- the text begins with the tag
pub of_tag_prefix-requires : goal.of_tag_prefix-requires
of_tag_prefix-requires c =
    rw c.text_of-text.ensures (_, (tag_in-some (One c.args.algo) (text c.args.line.now).1 c.requires.tag).1)

-- the digits are more or fewer than those of the kind's digests
pub returns-then-digits-len-clause-parts : goal.returns-then-digits-len-clause-parts
returns-then-digits-len-clause-parts c =
    let other = rw (c.skip_blanks-digits.ensures, c.len.ensures.value) at c.if-digits-len.true in
    tagged-none _ _ c.requires.tag c.text_of-text.ensures c.in-Some.ensures.prefix c.in_ok-inner.ensures
    c.in_ok-raw.ensures c.skip_blanks.ensures c.in_ok-after_prefix.ensures (λ d spelled size.
    omega (arith, two_digits _ d spelled))

-- the digits are as many as those of the kind's digests, and spell none
pub returns-in_err-digest-clause-parts : goal.returns-in_err-digest-clause-parts
returns-in_err-digest-clause-parts c =
    let size = rw c.len.ensures.value at c.len.ensures in
    rw c.from_residual-in_err-digest.ensures (tagged-none _ _ c.requires.tag c.text_of-text.ensures
    c.in-Some.ensures.prefix c.in_ok-inner.ensures c.in_ok-raw.ensures c.skip_blanks.ensures
    c.in_ok-after_prefix.ensures (λ d spelled same.
    let digits = decoded-digits _ d spelled (omega arith) (omega arith) in
    let bad = c.in_err-digest.ensures.found.1 (rw c.skip_blanks-digits.ensures digits) in cc))

-- the name is within the line
pub overflow_sub-start : goal.overflow_sub-start
overflow_sub-start c =
    let ends = front-ends c.requires.front c.text_of-text.ensures in
    (name_place _ _ ends c.in-Some.ensures.prefix c.in_ok-inner.ensures c.in_ok-raw.ensures).0

-- so is what follows the name
pub returns-clause-within : goal.returns-clause-within
returns-clause-within c =
    let ends = front-ends c.requires.front c.text_of-text.ensures in
    (name_place _ _ ends c.in-Some.ensures.prefix c.in_ok-inner.ensures c.in_ok-raw.ensures).1

-- the parts that were found are the line's
pub returns-clause-parts : goal.returns-clause-parts
returns-clause-parts c =
    let ends = front-ends c.requires.front c.text_of-text.ensures in
    let place = name_place _ _ ends c.in-Some.ensures.prefix c.in_ok-inner.ensures c.in_ok-raw.ensures in
    let few = rw c.len.ensures.value at c.if-digits-len.false in
    let size = two_digits _ c.in_ok-digest.digest c.in_ok-digest.ensures.value in
    let spelled = rw c.skip_blanks-digits.ensures at c.in_ok-digest.ensures.value in
    let some = eqb-false (length c.in_ok-raw.raw.now) 0 (sym c.is_empty.ensures ∙ c.if-is_empty.false) in
    rw (place.2, c.requires.front.mark) (tagged-read _ _ c.requires.tag c.text_of-text.ensures c.in-Some.ensures.prefix
    c.in_ok-inner.ensures c.in_ok-raw.ensures c.skip_blanks.ensures c.in_ok-after_prefix.ensures spelled
    (omega (arith, size, few)) (omega (arith, some)))
