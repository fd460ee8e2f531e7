-- The escape of a list of bytes, cut at its first special byte: a backslash, a newline or a carriage return. What is
-- escaped can be read back: both the definition and the code find the name. After that, the raw name in a line.
use Rattle.std.proofs.Common.{◌≡◌, ℕ, zero, suc, ◌+◌, ◌-◌, ◌<◌, ◌≤◌, true, not, List, []}
use Rattle.std.proofs.Common.{◌∷◌, ◌++◌, length, take, drop, get_or, Option, None, Some, MatchOption, refl, ap, sym}
use Rattle.std.proofs.Common.{◌∙◌, arith, is_some, length-append, length-drop, ◌↔◌, ◌==◌, Bool, false, cond, ◌≢◌}
use Rattle.std.proofs.Common.{append_assoc, All, nat_lt, rules, slice_range}
use Rattle.std.proofs.lemmas.{Slice.Eq.bytes_eq-Decides, Grind.flat_map-append, Grind.common_steps, Option.cond_some}
use Rattle.std.proofs.lemmas.{List.length-take-le, List.append-nil, List.append_cancel_left, List.drop-drop}
use Rattle.std.proofs.lemmas.{List.drop-take, List.take-append-drop}
use Rattle.std.{proofs.lemmas.List.Folds.list_all_at, proofs.lemmas.Bool.false_from_ne_true, specs.Option.is_some}
use Rattle.std.{proofs.Math.Seq.take-length, proofs.Math.Seq.take-append-add}
use Rattle.std.{proofs.lemmas.List.Sums.list_all-from_AllPass, specs.List.list_all}
use Rattle.memchr.specs.Find.{Nowhere, Passes, IsFirstByte, is_byte3, is_byte}
use Rattle.sum_lines.specs.grammar.{ParsedLines.unescaped_bytes, ParsedLines.unescape, ParsedLines.entry_of_parts}
use Rattle.sum_lines.specs.grammar.{ParsedLines.parts_with_raw_name, Entries.EntryValue, Form.Standard}
use Rattle.sum_lines.specs.grammar.{Form.begins_standard, LineParts.LinePartsValue}
use Rattle.sum_lines.specs.{declared.reading.line_parts.LineParts.LineParts, private.Beginnings.line_parts}
use Rattle.sum_lines.specs.{Escape.escape, Escape.escape_of, Escape.escape_differs}
use Rattle.digest_kinds.proofs.PrefixLemmas.{bind_some}

-- what precedes the first special byte is its own escape
pub escape-plain : (xs : List ℕ) (k : ℕ) → k ≤ length xs → Nowhere (Passes (is_byte3 92 10 13) xs) 0 k
    → escape (take k xs) ≡ take k xs
escape-plain xs zero le none = refl
escape-plain [] (suc k) le none = refl
escape-plain (x ∷ xs) (suc k) le none =
    let more = escape-plain xs k (omega arith) (λ j low high. none (suc j) (omega arith) (omega arith)) in
    let here = none 0 (omega arith) (omega arith) in grind arith

-- what a search for the first special byte says: what precedes it is its own escape
pub escape_cut : (xs : List ℕ) (r : Option ℕ) → IsFirstByte (is_byte3 92 10 13) xs r
    → MatchOption r (escape xs ≡ xs) (λ k. escape xs ≡ take k xs ++ escape (drop k xs))
escape_cut xs None none = rw (take-length xs) at (escape-plain xs (length xs) (omega arith) none)
escape_cut xs (Some k) first =
    let within = first.0.high in
    let split = ap escape (sym (take-append-drop k xs)) ∙ flat_map-append escape_of (take k xs) _ in
    rw (escape-plain xs k (omega arith) first.0.before) at split

-- an escape, cut at the first special byte, of the two parts of a slice that was split there
pub escape-parts : {prefix back : List ℕ} (xs : List ℕ) (k : ℕ) → prefix ≡ take k xs → back ≡ drop k xs
    → k < length xs → escape xs ≡ take k xs ++ escape (drop k xs)
    → escape xs ≡ prefix ++ (escape (get_or back 0 0 ∷ []) ++ escape (take (length back - 1) (drop 1 back)))
escape-parts xs k prefix_is back_is within cut = grind (arith, common_steps)

-- an escape is no shorter than its name
pub length-escape : (xs : List ℕ) → length xs ≤ length (escape xs)
length-escape [] = omega arith
length-escape (x ∷ xs) = grind (arith, length-append, length-escape xs)

-- a name without a special byte is its own escape, and any other name is shorter than its escape
pub differs_by : (xs : List ℕ) (r : Option ℕ) → IsFirstByte (is_byte3 92 10 13) xs r → is_some r ≡ escape_differs xs
differs_by xs None none = ap not (sym ((bytes_eq-Decides (escape xs) xs).1 (escape_cut xs None none)))
differs_by xs (Some k) first =
    let here : drop k xs ≡ get_or xs k 0 ∷ drop (k + 1) xs = grind (arith, common_steps, first.0.high) in
    let split = ap length (rw here at (escape_cut xs (Some k) first)) in
    let rest = length-escape (drop (k + 1) xs) in
    ap not (sym (false_from_ne_true _ (λ same.
    let equal = ap length ((bytes_eq-Decides (escape xs) xs).0 same) in
    grind (arith, length-append, length-take-le, length-drop))))

-- a byte that is its own escape
plain-first : (b : ℕ) (rest : List ℕ) → (b == 92) ≡ false → unescaped_bytes (b ∷ rest) ≡ b ∷ unescaped_bytes rest
plain-first b rest h = grind arith

-- unescaping what is escaped gives the name, and goes on after it
pub unescaped_bytes-append : (n rest : List ℕ) → unescaped_bytes (escape n ++ rest) ≡ n ++ unescaped_bytes rest
unescaped_bytes-append [] rest = refl
unescaped_bytes-append (b ∷ bs) rest = grind (arith, append_assoc, unescaped_bytes-append bs rest, plain-first)

-- unescaping the escape of a name gives the name
pub unescaped_bytes-escape : (n : List ℕ) → unescaped_bytes (escape n) ≡ n
unescaped_bytes-escape n = simp append-nil at (unescaped_bytes-append n [])

-- a name is read back from its escape
pub unescape-escape : (n : List ℕ) → unescape (escape n) ≡ Some n
unescape-escape n = search (rules, unescaped_bytes-escape)

-- ---- the entry of a line's parts

-- parts whose raw name spells a name spell an entry
pub spelled-is : (t : LinePartsValue) (n : List ℕ) → All (λ b. 0 < b) n → t.text ≡ cond t.escaped (escape n) n
    → entry_of_parts t ≡ Some (record { kind = t.kind; digest = t.digest; name = n })
spelled-is t n no_nul is =
    let all : list_all (nat_lt 0) n ≡ true = grind (arith, list_all-from_AllPass) in grind (arith, unescape-escape)

-- parts that spell an entry have a raw name that spells a name
pub is-spelled : (t : LinePartsValue) (s : EntryValue) → entry_of_parts t ≡ Some s
    → (n : List ℕ) × All (λ b. 0 < b) n × (t.text ≡ cond t.escaped (escape n) n)
    × (record { kind = t.kind; digest = t.digest; name = n } ≡ s)
is-spelled t s h =
    let n = bind_some (cond t.escaped (unescape t.text) (Some t.text)) _ h in
    let e = cond_some (list_all (nat_lt 0) n.0) _ s n.2 in
    (n.0, grind (arith, common_steps), search rules, e.1)

-- what follows the escape of a in the escape of a name is the escape of what follows a in it
pub escape-rest : (a n rest : List ℕ) → escape a ++ rest ≡ escape n → (m : List ℕ) × (n ≡ a ++ m) × (rest ≡ escape m)
escape-rest a n rest h =
    let is : n ≡ a ++ unescaped_bytes rest =
    rw (← unescaped_bytes-append a rest, h) (sym (unescaped_bytes-escape n)) in
    (unescaped_bytes rest, is, grind (arith, append_cancel_left, flat_map-append))

-- no two names have the same escape
pub escape-apart : (a b : List ℕ) → escape a ≡ escape b → a ≡ b
escape-apart a b h = simp unescaped_bytes-escape at (ap unescaped_bytes h)

-- what the loop keeps: the escape of what it wrote, and then what it has still to read, are the bytes at its start
pub record IsHalfUnescaped (start bytes : List ℕ) (read write : ℕ) : Type 0 where
  pub behind : write ≤ read
  pub within : read ≤ length bytes
  pub size : length bytes ≡ length start
  pub whole : escape (take write bytes) ++ drop read bytes ≡ start

-- if no escape begins what is left, the bytes are the escape of no name
pub IsHalfUnescaped-refused : {start bytes : List ℕ} {read write : ℕ} → IsHalfUnescaped start bytes read write
    → read < length bytes → ((b : ℕ) (rest : List ℕ) → drop read bytes ≢ escape (b ∷ []) ++ rest)
    → (n : List ℕ) → start ≢ escape n
IsHalfUnescaped-refused {bytes = bytes} {read = read} {write = write} h some none n e =
    let rest = escape-rest (take write bytes) n (drop read bytes) (h.whole ∙ e) in
    elim rest.0 as (λ m. drop read bytes ≡ escape m → ⊥) [
      | [] ↦ λ is. omega (arith, length-drop read bytes, ap length is)
      | b ∷ bs ↦ λ is. none b (escape bs) (is ∙ flat_map-append escape_of (b ∷ []) bs)
    ] rest.2

-- the bytes from a place on, which were replaced by the name whose escape they were
pub in_place : (line new : List ℕ) (from : ℕ) (name : List ℕ) → drop from line ≡ escape name
    → new ≡ take from line ++ name
    → (n : List ℕ) → (drop from line ≡ escape n) ↔ ((true ≡ true) × (new ≡ take from line ++ n))
in_place line new from name e is n = grind (arith, escape-apart, append_cancel_left)

-- a list cut at a place after the part that was written into it
pub cut_after : {line d : List ℕ} (len from n : ℕ) (part post more : List ℕ) → d ≡ line → from + n ≤ len
    → from ≤ length line → n ≤ length part
    → take (from + n) (take len (take from d ++ (part ++ post) ++ more)) ≡ take from line ++ take n part
cut_after len from n part post more e fits low le = grind (arith, common_steps, length-take-le, take-append-add)

-- a range of a vector that was cut at the range's end
pub part_of : (xs : List ℕ) (i j : ℕ) → i ≤ j → drop i (take j xs) ≡ slice_range xs i j
part_of xs i j le = let whole = drop-take i (j - i) xs in grind arith

-- the bytes from a place on are left as the name whose escape they are, or are none
pub replaced_by_name : (from : ℕ) (old new : List ℕ) (r : Bool)
    → ((n : List ℕ) → (drop from old ≡ escape n) ↔ ((r ≡ true) × (new ≡ take from old ++ n)))
    → take from new ≡ take from old → cond r (Some (drop from new)) None ≡ unescape (drop from old)
replaced_by_name from old new true h before = let is = h (drop from new) in grind (arith, common_steps, unescape-escape)
replaced_by_name from old new false h before = search rules

-- a search for NUL shows whether all bytes are above zero
pub no_nul : (xs : List ℕ) (r : Option ℕ) → IsFirstByte (is_byte 0) xs r → not (is_some r) ≡ list_all (nat_lt 0) xs
no_nul xs r h = search (rules, list_all-from_AllPass, list_all_at)

-- ---- the raw name of a Standard list's tail

-- the raw name begins one place further on
pub raw_standard : (line : List ℕ) (p : LineParts) → let parts = line_parts line p in
    begins_standard parts.text ≡ true
    → parts_with_raw_name Standard parts ≡ Some (record parts { text = slice_range line (p.start + 1) p.stop })
raw_standard line p h =
    let one = drop-take 1 (p.stop - (p.start + 1)) (drop p.start line) in grind (arith, drop-drop 1 p.start line)
