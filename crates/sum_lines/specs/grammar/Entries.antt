-- What the lines of a manifest say: a line is ignored, or it spells an entry.
use Rattle.std.specs.{Prelude.ℕ, Prelude.◌≡◌, Prelude.◌<◌, Prelude.◌⊎◌, Prelude.◌==◌, Prelude.Bool, Prelude.true}
use Rattle.std.specs.{Prelude.[], Prelude.◌∷◌, Prelude.IsTrue, Prelude.if◌then◌else◌, Prelude.All, Str.byte}
use Rattle.digest_kinds.specs.{Bytes.ByteString, Kind.KindValue, declared.algo.Algos.Algos}
use Rattle.sum_lines.specs.grammar.{Form.Form, Form.Undecided, Form.Standard, Form.Reversed, Form.begins_standard}
use Rattle.sum_lines.specs.grammar.{Shapes.IsPlain, Shapes.IsTagged}

-- whether a line is ignored: it is empty or begins with `#`
abbrev pub is_ignored : ByteString → Bool
is_ignored [] = true
is_ignored (b ∷ bs) = b == byte "#"

-- the raw name in a plain line's tail is the tail if the list is Reversed, and the tail past its first byte if Standard
abbrev pub IsRawName : Form → ByteString → ByteString → Type 0
IsRawName Undecided tail raw = ⊥
IsRawName Reversed tail raw = raw ≡ tail
IsRawName Standard tail raw = IsTrue (begins_standard tail) × (b : ℕ) × (tail ≡ b ∷ raw)

-- an entry: a digest of that kind, and the name of the file that has it
pub record EntryValue : Type 0 where
  pub kind : KindValue
  pub digest : ByteString
  pub name : ByteString

-- a line spells an entry in a list of that form: the line's raw name spells the entry's name, which has no NUL
pub record IsEntry (escaping : ByteString → ByteString) (algos : Algos) (form : Form) (line : ByteString)
    (listed : EntryValue) : Type 0 where
  pub escaped : Bool  -- whether a backslash begins the line, so that its name is escaped
  pub raw : ByteString  -- the name as it stands in the line
  pub shape : IsTagged algos line escaped listed.kind listed.digest raw
      ⊎ ((tail : ByteString) × IsPlain algos line escaped listed.kind listed.digest tail × IsRawName form tail raw)
  pub no_nul : All (λ b. 0 < b) listed.name
  pub spells : raw ≡ (if escaped then escaping listed.name else listed.name)
