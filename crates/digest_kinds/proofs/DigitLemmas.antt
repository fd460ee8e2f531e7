-- Digits that spell a digest, and decoding them.
use Rattle.std.proofs.Common.{◌≡◌, ℕ, ◌/◌, ◌≤◌, ◌↔◌, List, length, Result, Ok, Err, IsOk, MatchResult, arith, refl, ltb}
use Rattle.std.proofs.Common.{IsUtf8, rules}
use Rattle.std.proofs.lemmas.{Bool.ltb-true, List.Sums.AllPass-from_list_all, Str.IsUtf8-from_ascii}
use Rattle.std.proofs.lemmas.{Str.Ascii.IsAscii-from_all}
use Rattle.hex.{proofs.HexLemmas.IsAscii-encode_with, proofs.HexLemmas.IsOk-decode_sized, proofs.HexLemmas.IsOk-written}
use Rattle.hex.{specs.Hex.decode_sized, specs.Hex.encode_lower, specs.Hex.lower_digits}
use Rattle.hex.{specs.declared.error.FromHexError.FromHexError}
use Rattle.digest_kinds.specs.Digest.{IsDigits}

-- decoding into room for half as many bytes, 1 to 64, succeeds if and only if the text is a digest's digits
pub IsOk-decoded : {n : ℕ} (text : List ℕ) (r : Result Unit FromHexError) (out : List ℕ)
    → n ≡ length text / 2 → 1 ≤ n → n ≤ 64
    → MatchResult (decode_sized text n) (λ bytes. (r ≡ Ok tt) × (out ≡ bytes)) (λ e. r ≡ Err e)
    → IsOk r ↔ IsDigits text
IsOk-decoded text r out half low high written = grind (arith, IsOk-decode_sized, IsOk-written)

-- digits are a text
pub IsUtf8-encode_lower : (bytes : List ℕ) → IsUtf8 (encode_lower bytes)
IsUtf8-encode_lower bytes =
    let pass = AllPass-from_list_all (λ b. ltb b 128) lower_digits refl in
    search (rules, IsUtf8-from_ascii, IsAscii-encode_with, IsAscii-from_all, ltb-true, pass)
