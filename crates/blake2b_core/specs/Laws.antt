-- A law of the digest's definition.
use Rattle.std.specs.Prelude.{◌≡◌, [], ◌++◌, codes}
use Rattle.byteorder.specs.Endian.{big_bytes}
use Rattle.blake2b_core.specs.Digest.{blake2b}

-- known digests: that of "abc" is the example of RFC 7693, and the two of the empty message are what other programs
-- compute
pub record HasVectors : Type 0 where
  pub empty : blake2b 64 [] ≡ big_bytes 32 0x786a02f742015903c6c6fd852552d272912f4740e15847618a86e217f71f5419
      ++ big_bytes 32 0xd25e1031afee585313896444934eb04b903a685b1448b755d56f701afe9be2ce
  pub abc : blake2b 64 (codes "abc") ≡ big_bytes 32 0xba80a53f981c4d0d6a2797b69f12f6e94c212f14685ac4b74b12bb6fdbffa2d1
      ++ big_bytes 32 0x7d87c5392aab792dc252d5de4533cc9518d38aa8dbf1925ab92386edd4009923
  pub empty_short : blake2b 32 [] ≡ big_bytes 32 0x0e5751c026e543b2e8ab2eb06099daa1d1e5df47778f7787faab45cdf12fe3a8
