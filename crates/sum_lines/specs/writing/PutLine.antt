-- The line that is written for a name and its digest.
use Rattle.std.specs.{List.concat, Prelude.[], Prelude.◌∷◌, Prelude.◌++◌, Prelude.codes, Prelude.if◌then◌else◌}
use Rattle.hex.specs.Hex.{encode_lower}
use Rattle.digest_kinds.specs.{Bytes.ByteString, Kind.KindValue, KindText.kind_text}
use Rattle.sum_settings.specs.declared.style.{Mode.Mode, Mode.TheVariants.Text, Mode.TheVariants.Binary}
use Rattle.sum_settings.specs.declared.style.{Mode.TheVariants.Tag, Style.Style}
use Rattle.sum_lines.specs.{Escape.escape, Escape.escape_differs, grammar.Shapes.backslash_if}

-- a line without its end and without the backslash that may begin it
abbrev pub layout : Mode → KindValue → ByteString → ByteString → ByteString
layout Text kind name digits = concat (digits ∷ codes "  " ∷ name ∷ [])
layout Binary kind name digits = concat (digits ∷ codes " *" ∷ name ∷ [])
layout Tag kind name digits = concat (kind_text kind ∷ codes " (" ∷ name ∷ codes ") = " ∷ digits ∷ [])

-- the whole line: either it ends with a newline and its name is escaped, or it ends with NUL and its name isn't
abbrev pub digest_line : Style → KindValue → ByteString → ByteString → ByteString
digest_line style kind name digest = if style.zero then layout style.mode kind name (encode_lower digest) ++ codes "\0"
    else backslash_if (escape_differs name) ++ layout style.mode kind (escape name) (encode_lower digest) ++ codes "\n"
