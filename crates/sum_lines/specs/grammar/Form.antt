-- The form of a list of lines: its first plain line decides it.
use Rattle.std.specs.{Option.option_map_or, Prelude.◌≡◌, Prelude.◌⊎◌, Prelude.◌==◌, Prelude.◌||◌, Prelude.Bool}
use Rattle.std.specs.{Prelude.false, Prelude.List, Prelude.[], Prelude.◌∷◌, Prelude.if◌then◌else◌, Str.byte}
use Rattle.digest_kinds.specs.{Bytes.ByteString, Kind.KindValue, declared.algo.Algos.Algos}
use Rattle.sum_lines.specs.grammar.{LineParts.plain_parts, Shapes.IsPlain}
pub use Rattle.sum_lines.specs.declared.reading.read_line.Form.{Form, TheVariants.Undecided, TheVariants.Standard}
pub use Rattle.sum_lines.specs.declared.reading.read_line.Form.{TheVariants.Reversed}

-- whether a plain line's tail is that of a Standard list: it begins with a space or a star, and more follows
abbrev pub begins_standard : ByteString → Bool
begins_standard (b ∷ c ∷ bs) = b == byte " " || b == byte "*"
begins_standard tail = false

-- a list of lines has a form: the tail of its first plain line decides it; without a plain line it is Undecided
abbrev pub IsForm : Algos → List ByteString → Form → Type 0
IsForm algos [] form = form ≡ Undecided
IsForm algos (line ∷ later) form = ((escaped : Bool) × (kind : KindValue) × (digest tail : ByteString)
    × IsPlain algos line escaped kind digest tail × (form ≡ (if begins_standard tail then Standard else Reversed)))
    ⊎ (((escaped : Bool) (kind : KindValue) (digest tail : ByteString) → ¬ IsPlain algos line escaped kind digest tail)
    × IsForm algos later form)

-- the form of a list of lines, computed. By the law `one_form` it need not be believed
abbrev pub form_of : Algos → List ByteString → Form
form_of algos [] = Undecided
form_of algos (line ∷ later) = option_map_or (λ parts. if begins_standard parts.text then Standard else Reversed)
    (plain_parts algos line) (form_of algos later)

-- the form of one line
abbrev pub line_form : Algos → ByteString → Form
line_form algos line = form_of algos (line ∷ [])

-- a form, and then that of later lines: a form that is decided stays
abbrev pub form_then : Form → Form → Form
form_then Undecided later = later
form_then decided later = decided
