-- The digits of a digest. How long a digest is, `IsDigestLen`, stands in `blake2b_core`.
use Rattle.std.specs.{List.AllPass, Prelude.◌≡◌, Prelude.◌%◌, Prelude.◌≤◌, Prelude.length}
use Rattle.hex.specs.Hex.{is_hex_digit}
use Rattle.digest_kinds.specs.Bytes.{ByteString}

-- a text is a digest in hexadecimal: 2 to 128 digits, an even number of them, each in either case
pub record IsDigits (text : ByteString) : Type 0 where
  pub some : 2 ≤ length text
  pub few : length text ≤ 128
  pub even : length text % 2 ≡ 0
  pub digits : AllPass is_hex_digit text
