-- What a line spells can be written again.
use Rattle.std.proofs.Common.{ℕ, ◌≡◌, ◌<◌, cond, Bool, true, List, [], ◌∷◌, length, inl, inr, arith}
use Rattle.hex.{proofs.HexLemmas.decode_of-ok}
use Rattle.digest_kinds.specs.{Algo.has_len, Algo.full_len_of, Kind.KindValue, KindText.IsWidth}
use Rattle.digest_kinds.specs.{declared.algo.Algo.Algo}
use Rattle.sum_lines.specs.{Escape.escape, grammar.Entries.IsRawName, grammar.LineLaws.EntryIsWritable}
use Rattle.sum_lines.specs.grammar.Form.{Form, Undecided, Standard, Reversed}

-- a name whose raw name isn't empty isn't empty
some_name : (escaped : Bool) (name raw : List ℕ) → raw ≡ cond escaped (escape name) name → 0 < length raw
    → 0 < length name
some_name escaped [] raw is some = grind arith
some_name escaped (x ∷ xs) raw is some = omega arith

-- the raw name in a tail isn't empty
some_raw : (f : Form) (tail raw : List ℕ) → 0 < length tail → IsRawName f tail raw → 0 < length raw
some_raw Undecided tail raw some is = absurd is
some_raw Reversed tail raw some is = grind arith
some_raw Standard tail [] some (begins, b, are) = grind arith
some_raw Standard tail (x ∷ xs) some is = omega arith

-- an algorithm has its full length
has_full : (a : Algo) → has_len a (full_len_of a) ≡ true
has_full a = grind arith

-- a kind whose width a tag may have is of a length that its algorithm has
has_width : (kind : KindValue) (width : List ℕ) → IsWidth kind width → has_len kind.algo kind.len ≡ true
has_width kind width (inl full) = rw full.1 (has_full kind.algo)
has_width kind width (inr bits) = rw bits.1 bits.2

-- the law
pub entry_is_writable : EntryIsWritable
entry_is_writable algos f line found e = elim e.shape [
  | inl t ↦ record {
    some = some_name e.escaped found.name e.raw e.spells t.some;
    no_nul = e.no_nul;
    bytes = (decode_of-ok t.digits found.digest t.spelled).3;
    size = t.size;
    has = has_width found.kind t.width t.is_width;
  }
  | inr t ↦ let plain = t.1 in record {
    some = some_name e.escaped found.name e.raw e.spells (some_raw f t.0 e.raw plain.some t.2);
    no_nul = e.no_nul;
    bytes = (decode_of-ok plain.digits found.digest plain.spelled).3;
    size = plain.size;
    has = plain.has;
  }
]
