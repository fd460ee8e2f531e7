use Rattle.std.proofs.{Common.arith, lemmas.Grind.common_steps}
use Rattle.hex.proofs.HexLemmas.{length-encode_with}
use Rattle.digest_kinds.proofs.DigitLemmas.{IsUtf8-encode_lower}
use Rattle.digest_kinds.proofs.digest.DigestDisplay.fmt.Goals as goal

-- the digits are a text, so the last branch isn't reached
pub unreachable-requires : goal.unreachable-requires
unreachable-requires g c =
    let text = IsUtf8-encode_lower c.args.self.now in grind (arith, common_steps, length-encode_with)
