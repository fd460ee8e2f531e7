use Rattle.std.proofs.{Common.◌↔◌, Common.IsOk, Common.arith, lemmas.Grind.common_steps}
use Rattle.digest_kinds.{proofs.DigitLemmas.IsOk-decoded, proofs.digest.Digest.from_hex.Goals.After-decode_to_slice}
use Rattle.digest_kinds.{specs.Digest.IsDigits}
use Rattle.digest_kinds.proofs.digest.Digest.from_hex.Goals as goal

-- the text is decoded if and only if it is a digest's digits
decoded : (c : After-decode_to_slice) → IsOk c.decode_to_slice.result ↔ IsDigits c.args.text.now
decoded c =
    IsOk-decoded c.args.text.now _ _ (grind (arith, common_steps)) (grind (arith, common_steps))
    (grind (arith, common_steps)) c.decode_to_slice.ensures.value

-- the text isn't a digest's digits
pub returns-in_err-ok-clause-found : goal.returns-in_err-ok-clause-found
returns-in_err-ok-clause-found c =
    grind (arith, decoded (goal.at.returns-in_err-ok-clause-found c).After-decode_to_slice)

-- the text is a digest's digits
pub returns-clause-found : goal.returns-clause-found
returns-clause-found c = grind (arith, decoded (goal.at.returns-clause-found c).After-decode_to_slice)
