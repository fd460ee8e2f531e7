-- The algorithms: their tags, and the lengths and definitions of their digests.
use Rattle.std.specs.Prelude.{ℕ, ◌≡◌, ◌==◌, ◌&&◌, nat_le, Bool, List, [], ◌∷◌, ◌++◌, codes}
use Rattle.md5.specs.Md5.{md5}
use Rattle.sha1.specs.Sha1.{sha1}
use Rattle.sha2.specs.{Sha256.sha224, Sha256.sha256, Sha512.sha384, Sha512.sha512}
use Rattle.blake2b_core.specs.{Bytes.ByteString, Digest.blake2b}
pub use Rattle.digest_kinds.specs.declared.algo.Algo.{Algo, TheVariants.Md5, TheVariants.Sha1, TheVariants.Sha224}
pub use Rattle.digest_kinds.specs.declared.algo.Algo.{TheVariants.Sha256, TheVariants.Sha384, TheVariants.Sha512}
pub use Rattle.digest_kinds.specs.declared.algo.Algo.{TheVariants.Blake2b}

-- all algorithms
abbrev pub all_algos : List Algo
all_algos = Md5 ∷ Sha1 ∷ Sha224 ∷ Sha256 ∷ Sha384 ∷ Sha512 ∷ Blake2b ∷ []

-- what is known of an algorithm
pub record AlgoFacts : Type 0 where
  pub tag : ByteString
  pub full_len : ℕ  -- how many bytes its full digest has
  pub digest : ℕ → ByteString → ByteString  -- its digest of n bytes, of a message

-- the facts of an algorithm. Only BLAKE2b has digests of several lengths, so no other uses n
abbrev pub algo_facts : Algo → AlgoFacts
algo_facts Md5 = record { tag = codes "MD5"; full_len = 16; digest = λ n m. md5 m }
algo_facts Sha1 = record { tag = codes "SHA1"; full_len = 20; digest = λ n m. sha1 m }
algo_facts Sha224 = record { tag = codes "SHA224"; full_len = 28; digest = λ n m. sha224 m }
algo_facts Sha256 = record { tag = codes "SHA256"; full_len = 32; digest = λ n m. sha256 m }
algo_facts Sha384 = record { tag = codes "SHA384"; full_len = 48; digest = λ n m. sha384 m }
algo_facts Sha512 = record { tag = codes "SHA512"; full_len = 64; digest = λ n m. sha512 m }
algo_facts Blake2b = record { tag = codes "BLAKE2b"; full_len = 64; digest = blake2b }

-- the tag of an algorithm in lines
abbrev pub tag_of : Algo → ByteString
tag_of algo = (algo_facts algo).tag

-- the length of the full digest of an algorithm, in bytes
abbrev pub full_len_of : Algo → ℕ
full_len_of algo = (algo_facts algo).full_len

-- whether an algorithm has digests of n bytes: for BLAKE2b 1 to 64 bytes (RFC 7693, 2.1), for others the full length
abbrev pub has_len : Algo → ℕ → Bool
has_len Blake2b n = nat_le 1 n && nat_le n 64
has_len algo n = n == full_len_of algo

-- the bytes begin with the tag of the algorithm
abbrev pub BeginsWithTag : ByteString → Algo → Type 0
BeginsWithTag bytes algo = (rest : ByteString) × (bytes ≡ tag_of algo ++ rest)
