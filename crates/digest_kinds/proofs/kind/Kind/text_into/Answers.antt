use Rattle.std.proofs.Common.{rules, arith}
use Rattle.digest_kinds.proofs.{KindLemmas.has_len-full, KindTextLemmas.IsUtf8-kind_text}
use Rattle.digest_kinds.proofs.kind.Kind.text_into.Goals as goal

-- what was written is the text, so it is UTF-8
pub unreachable-requires : goal.unreachable-requires
unreachable-requires c =
    let text = IsUtf8-kind_text c.args.self (search rules) in grind (arith, has_len-full)
