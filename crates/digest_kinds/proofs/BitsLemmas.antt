-- The bits that a BLAKE2b tag may name: the digits that the code accepts are those of `decimal`.
use Rattle.std.proofs.Common.{ℕ, ◌≡◌, ◌≢◌, ◌*◌, ◌/◌, ◌%◌, ◌<◌, ◌≤◌, true, List, length, get_or, Some, ap, sym, ◌∙◌}
use Rattle.std.proofs.Common.{arith, decimal, refl, IsTrue}
use Rattle.std.proofs.lemmas.List.Elements.{All-cons, All-head, All-tail, All-nil}
use Rattle.std.proofs.lemmas.{Str.Parse.IsNumeralModel, Str.Parse.digits_value_short, Str.Parse.numerals_by_value}
use Rattle.std.proofs.lemmas.{Fmt.decimal_digit, Fmt.decimal-digits_value, Fmt.digits_decimal, Fmt.digits_value-decimal}
use Rattle.std.proofs.lemmas.{Fmt.first_decimal, Fmt.length-decimal-le}
use Rattle.std.specs.{Result.result_ok, Str.Parse.digits_value, Char.is_ascii_digit, List.AllPass}
use Rattle.digest_kinds.{proofs.PrefixLemmas.bind_some, specs.Algo.Blake2b, specs.Algo.has_len, specs.Kind.KindValue}
use Rattle.digest_kinds.{specs.Kind.blake2b_kind, specs.Kind.blake2b_of_bits, specs.KindText.kind_of_digits}
use Rattle.digest_kinds.{specs.KindText.short_number}

-- ---- digits and the number that they write

-- a byte that is a digit
abbrev IsDecimalDigit : ℕ → Type 0
IsDecimalDigit x = is_ascii_digit x ≡ true

-- bytes that are digits, and the number that they write, as the library has them
numerals : IsNumeralModel (AllPass is_ascii_digit) (digits_value 10)
numerals = numerals_by_value _ (record {
  empty = All-nil IsDecimalDigit;
  parts = λ c cs all. let here = All-head IsDecimalDigit c cs all in (grind arith, All-tail IsDecimalDigit c cs all);
  more = λ c cs range all. grind (arith, All-cons, all);
})

-- what `decimal` writes are digits
pub decimal-digits : (len : ℕ) → len ≤ 64 → AllPass is_ascii_digit (decimal (8 * len))
decimal-digits len few = digits_decimal numerals (8 * len) (omega (arith, few))

-- only one to three digits without a leading zero are a number
short_number-some : (ds : List ℕ) (v : ℕ) → short_number ds ≡ Some v
    → (v ≡ digits_value 10 ds) × (get_or ds 0 0 ≢ 48) × (0 < length ds) × (length ds ≤ 3)
short_number-some ds v h = grind arith

-- ---- digits and the kind that they give

-- the digits that `decimal` writes for a number of bits give its kind
pub kind_of_digits-bits : (len : ℕ) → 0 < len → len ≤ 64 → kind_of_digits (decimal (8 * len)) ≡ Some (blake2b_kind len)
kind_of_digits-bits len some few =
    let bits : 8 * len < 1000 = omega (arith, few) in
    let lead = first_decimal (8 * len) (omega (arith, some)) (omega (arith, bits)) in
    let short = length-decimal-le 3 (8 * len) (omega arith) bits (omega (arith, bits)) in
    let value = digits_value-decimal numerals (8 * len) (omega (arith, bits)) in
    let is : short_number (decimal (8 * len)) ≡ Some (8 * len) = grind arith in rw is (grind arith)

-- the numbers of bits that the code accepts, and the kind that it makes of one
bits-accepted : (v : ℕ) (k : KindValue) → 0 < v → result_ok (blake2b_of_bits v) ≡ Some k
    → (v % 8 ≡ 0) × (v ≤ 512) × (k ≡ blake2b_kind (v / 8))
bits-accepted v k some h = grind arith

-- digits that give a kind are those of its bits
pub kind_of_digits-some : (ds : List ℕ) (kind : KindValue) → AllPass is_ascii_digit ds → kind_of_digits ds ≡ Some kind
    → (ds ≡ decimal (8 * kind.len)) × (kind.algo ≡ Blake2b) × IsTrue (has_len Blake2b kind.len)
kind_of_digits-some ds kind all h =
    let n = bind_some (short_number ds) (λ bits. result_ok (blake2b_of_bits bits)) h in
    let is = short_number-some ds n.0 n.1 in
    let most = digits_value_short numerals ds 3 all is.3 in
    let text : decimal (digits_value 10 ds) ≡ ds =
    decimal-digits_value numerals ds all is.2 (λ zero. absurd (is.1 zero)) (omega (arith, most)) in
    let some : digits_value 10 ds ≢ 0 = λ none.
    is.1 (ap (λ l. get_or l 0 0) (sym text ∙ ap decimal none ∙ decimal_digit 0 (omega arith))) in
    let bits = bits-accepted n.0 kind (omega (arith, some, is.0)) n.2 in
    let eight : digits_value 10 ds ≡ 8 * (n.0 / 8) = omega (arith, is.0, bits.0) in
    rw bits.2 (sym text ∙ ap decimal eight, refl, grind arith)
