use Rattle.std.proofs.Common.{◌≡◌, length, arith, rules}
use Rattle.sum_sources_tests.proofs.RestLemmas.{header_read, digest_past_header}
use Rattle.sum_sources_tests.proofs.rest.hash_past_header.Goals as goal

-- the header was read
pub returns : goal.returns
returns g c =
    let read = c.in_ok-read.ensures in
    let size : length c.read.new.buf ≡ 3 = search rules in
    let all : c.in_ok-read.field-0 ≡ 3 = omega (arith, read.count, c.if-branch-lt3.false, size) in
    digest_past_header _ c.read.new.buf size (header_read _ _ c.read.new.buf _ c.requires.new read.reads size all)
    c.hash_input.ensures.hashed
