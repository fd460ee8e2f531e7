-- When a content is its own clip; and a content with more bytes in front.
use Rattle.digest_kinds.specs.Bytes.{LIMIT}
use Rattle.std.proofs.Common.{List, ℕ, ◌++◌, ◌≡◌, ◌<◌, length, refl, arith}
use Rattle.sum_sources.specs.Content.{Content, clip, limit}

-- the limit is the constant of the code
pub limit-value : limit ≡ LIMIT
unfolding limit
limit-value = refl

-- a short content is its own clip
pub clip-short : (c : Content) → length c.bytes < LIMIT → clip c ≡ c
clip-short c short = grind (arith, limit-value)

-- a content with these bytes in front
abbrev pub with_prefix : List ℕ → Content → Content
with_prefix prefix c = record { bytes = prefix ++ c.bytes; ending = c.ending }
