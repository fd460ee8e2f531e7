-- What the laws of the line grammar say.
use Rattle.std.specs.{Prelude.◌≡◌, Prelude.◌≢◌, Prelude.◌<◌, Prelude.◌↔◌, Prelude.◌⊎◌, Prelude.Bool, Prelude.false}
use Rattle.std.specs.{Prelude.List, Prelude.[], Prelude.◌∷◌, Prelude.◌++◌, Prelude.length, Prelude.codes}
use Rattle.std.specs.{Prelude.IsTrue, Prelude.All, Str.byte}
use Rattle.hex.specs.Hex.{IsBytes}
use Rattle.digest_kinds.specs.{Algo.has_len, Bytes.ByteString, Kind.KindValue, declared.algo.Algo.Algo}
use Rattle.digest_kinds.specs.{declared.algo.Algos.Algos, declared.algo.Algos.TheVariants.One}
use Rattle.digest_kinds.specs.{declared.algo.Algos.TheVariants.Any}
use Rattle.sum_settings.specs.declared.style.Mode.{Mode, TheVariants.Tag}
use Rattle.sum_lines.specs.grammar.{Form.Form, Form.Undecided, Form.Standard, Form.IsForm, Form.form_of}
use Rattle.sum_lines.specs.grammar.{ParsedLines.ParsedLine}
use Rattle.sum_lines.specs.grammar.{ParsedLines.parse_line, Entries.EntryValue, Entries.IsEntry, Entries.is_ignored}
use Rattle.sum_lines.specs.{grammar.Shapes.IsPlain, grammar.Shapes.IsTagged, Escape.escape}
use Rattle.sum_lines.specs.writing.PutLine.{digest_line}

-- for given algorithms and a given form a line spells at most one entry
abbrev pub HasOneEntry : Type 0
HasOneEntry = (algos : Algos) (form : Form) (line : ByteString) (first second : EntryValue)
    → IsEntry escape algos form line first → IsEntry escape algos form line second → first ≡ second

-- no line has both shapes, whichever algorithms they name
abbrev pub HasOneShape : Type 0
HasOneShape = (algos others : Algos) (line : ByteString) (escaped marked : Bool) (first second : KindValue)
    (digest other tail raw : ByteString) → IsPlain algos line escaped first digest tail
    → ¬ IsTagged others line marked second other raw

-- a list of lines has one form, which is the computed one
abbrev pub HasOneForm : Type 0
HasOneForm = (algos : Algos) (lines : List ByteString) (form : Form) → IsForm algos lines form
    ↔ (form ≡ form_of algos lines)

-- what is said of a line fits the grammar: it is ignored, or an entry, each if and only if the grammar says so
pub record FitsGrammar (algos : Algos) (form : Form) (line : ByteString) (said : ParsedLine) : Type 0 where
  pub when_ignored : (said ≡ ParsedLine.ignored) ↔ IsTrue (is_ignored line)
  pub when_entry : (listed : EntryValue) → (said ≡ ParsedLine.entry listed) ↔ IsEntry escape algos form line listed

-- what is computed for a line is what the grammar says of it
abbrev pub ParsesByGrammar : Type 0
ParsesByGrammar = (algos : Algos) (form : Form) (line : ByteString)
    → FitsGrammar algos form line (parse_line algos form line)

-- these algorithms read a line of that mode back: its own algorithm or, in tagged mode, any
abbrev pub AllowsMode : Algos → Mode → Algo → Type 0
AllowsMode (One only) mode algo = only ≡ algo
AllowsMode Any mode algo = mode ≡ Tag

-- what can be read back: a name that isn't empty and has no NUL, and a digest of its kind's length
pub record IsWritable (kind : KindValue) (name digest : ByteString) : Type 0 where
  pub some : 0 < length name
  pub no_nul : All (λ b. 0 < b) name
  pub bytes : IsBytes digest
  pub size : length digest ≡ kind.len
  pub has : IsTrue (has_len kind.algo kind.len)

-- what a line spells can be written again
abbrev pub EntryIsWritable : Type 0
EntryIsWritable = (algos : Algos) (form : Form) (line : ByteString) (listed : EntryValue)
    → IsEntry escape algos form line listed → IsWritable listed.kind listed.name listed.digest

-- what precedes the text's newline is one line that spells only that entry; the form stays Undecided or Standard
pub record SpellsBack (algos : Algos) (before later : List ByteString) (text : ByteString) (kind : KindValue)
    (name digest : ByteString) : Type 0 where
  pub prefix : ByteString
  pub whole : text ≡ prefix ++ codes "\n"
  pub one_line : All (λ b. (b ≢ byte "\n") × (b ≢ byte "\r")) prefix
  pub spells : (listed : EntryValue) → IsEntry escape algos (form_of algos (before ++ (prefix ∷ later))) prefix listed
      ↔ (listed ≡ record { kind = kind; digest = digest; name = name })
  pub keeps : (form_of algos (before ++ (prefix ∷ [])) ≡ Undecided)
      ⊎ (form_of algos (before ++ (prefix ∷ [])) ≡ Standard)

-- a line that is written, but not in zero style, is read back after lines whose form is Undecided or Standard
abbrev pub IsReadBack : Type 0
IsReadBack = (algos : Algos) (mode : Mode) (kind : KindValue) (name digest : ByteString)
    (before later : List ByteString) → AllowsMode algos mode kind.algo → IsWritable kind name digest
    → (form_of algos before ≡ Undecided) ⊎ (form_of algos before ≡ Standard)
    → SpellsBack algos before later
    (digest_line (record { mode = mode; zero = false }) kind name digest) kind name digest
