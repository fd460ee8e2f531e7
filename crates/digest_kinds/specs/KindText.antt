-- The texts that name kinds.
use Rattle.std.specs.Prelude.{◌≡◌, ℕ, ◌*◌, ◌⊎◌, ◌==◌, ◌&&◌, not, nat_lt, [], ◌∷◌, ◌++◌, length, codes, IsTrue, Option}
use Rattle.std.specs.Prelude.{None, Some, option_map, if◌then◌else◌, decimal, take_while}
use Rattle.std.specs.{Char.is_ascii_digit, Result.result_ok, Str.byte, Str.Parse.digits_value}
use Rattle.digest_kinds.specs.{Algo.Algo, Algo.Blake2b, Algo.full_len_of, Algo.has_len, Algo.tag_of, Bytes.ByteString}
use Rattle.digest_kinds.specs.{Bytes.◌>>=◌, Bytes.after_while, Kind.KindValue, Kind.full_kind, Kind.blake2b_of_bits}

-- the text that names a kind: the tag and, for a BLAKE2b digest that isn't full, its bits, as in `BLAKE2b-256`
abbrev pub kind_text : KindValue → ByteString
kind_text kind = tag_of kind.algo
    ++ (if kind.len == full_len_of kind.algo then [] else codes "-" ++ decimal (8 * kind.len))

-- a kind's width follows its tag: nothing if the digest is full, or, of BLAKE2b alone, `-` and its bits, as in `-256`
abbrev pub IsWidth : KindValue → ByteString → Type 0
IsWidth kind width = ((width ≡ []) × (kind.len ≡ full_len_of kind.algo))
    ⊎ ((width ≡ codes "-" ++ decimal (8 * kind.len)) × (kind.algo ≡ Blake2b) × IsTrue (has_len Blake2b kind.len))

-- a text names a kind: it is the tag and a width; so `BLAKE2b` and `BLAKE2b-512` name the same kind
abbrev pub NamesKind : ByteString → KindValue → Type 0
NamesKind text kind = (width : ByteString) × (text ≡ tag_of kind.algo ++ width) × IsWidth kind width

-- ---- computed: these need not be believed

-- the number in a text of one to three digits without a leading zero
abbrev pub short_number : ByteString → Option ℕ
short_number [] = None
short_number (d ∷ ds) = if not (d == byte "0") && nat_lt (length ds) 3 then Some (digits_value 10 (d ∷ ds)) else None

-- the kind of BLAKE2b digests whose number of bits is in these digits
abbrev pub kind_of_digits : ByteString → Option KindValue
kind_of_digits digits = short_number digits >>= (λ bits. result_ok (blake2b_of_bits bits))

-- the kind that an algorithm and the text after its tag name, and the rest; for BLAKE2b a `-` may precede its bits
abbrev pub kind_and_rest : Algo → ByteString → Option (KindValue × ByteString)
kind_and_rest Blake2b (b ∷ bs) =
    if b == byte "-" then
    option_map (λ k. (k, after_while is_ascii_digit bs)) (kind_of_digits (take_while is_ascii_digit bs))
    else Some (full_kind Blake2b, b ∷ bs)
kind_and_rest algo text = Some (full_kind algo, text)
