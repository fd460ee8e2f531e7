-- Worked examples: what the definitions say of some contents, kinds, names, lines and texts, computed.
use Rattle.std.proofs.Common.{◌≡◌, [], ◌∷◌, Ok, Err, refl, codes, true, false}
use Rattle.std.specs.{Fmt.digits, Path.rsplit_once, Prelude.⊤, Str.chars, Str.is_utf8}
use lib.Utf8.{encode}
use Rattle.hex.specs.Hex.{encode_with, decode_pairs}
use Rattle.digest_kinds.specs.Kind.{full_kind, blake2b_kind, blake2b_of_bits}
use Rattle.digest_kinds.specs.KindText.{kind_text}
use Rattle.digest_kinds.specs.declared.{algo.Algo.TheVariants.Md5, algo.Algos.TheVariants.One}
use Rattle.digest_kinds.specs.declared.{algo.Algos.TheVariants.Any, kind.LengthFault.TheVariants.NotBytes}
use Rattle.digest_kinds.specs.declared.{kind.LengthFault.TheVariants.TooLong}
use Rattle.sum_settings.specs.declared.style.{Mode.TheVariants.Text, Mode.TheVariants.Tag}
use Rattle.sum_lines.specs.{Escape.escape, writing.PutLine.digest_line, sinks.Output.pieces_of}
use Rattle.sum_lines.specs.grammar.{Form.form_of, LineParts.plain_parts, LineParts.tagged_parts, ParsedLines.parse_line}
use Rattle.sum_lines.specs.grammar.{ParsedLines.ParsedLine, ParsedLines.entry_of}
use Rattle.sum_lines.specs.declared.reading.read_line.Form.TheVariants.{Undecided, Standard, Reversed}
use Rattle.sum_sources.specs.{inputs.Input.Content, LineReader.lines_in, LineReader.raw_lines}
use Rattle.sum_sources.specs.declared.fault.{Ending.TheVariants.Whole, Ending.TheVariants.Broken}
use Rattle.sum_sources.specs.declared.fault.{Fault.TheVariants.Other, Fault.TheVariants.NotFound}
use Rattle.sum_engine.specs.ToolLines.{name_fault_line}
use Rattle.sum_words.specs.{messages.FaultLines.fault_lines, parsing.WordFault.WordFaultValue}
use Rattle.sum_words.specs.{declared.tool.Tool.TheVariants.Md5sum}
use Prim.Native.String.{String}

-- what a worked example unfolds, so that its texts are computed
unfoldable lines_on_literals : ⊤
unfolding raw_lines entry_of plain_parts tagged_parts rsplit_once encode_with decode_pairs digits chars encode is_utf8
lines_on_literals = tt

-- a content that ends whole, and one that a fault breaks
abbrev whole : String → Content
whole text = record { bytes = codes text; ending = Whole }

abbrev broken : String → Content
broken text = record { bytes = codes text; ending = Broken Other }

-- the lines of contents, and the pieces of texts
contents :
    (lines_in (whole "a\r\n\nb") ≡ codes "a" ∷ [] ∷ codes "b" ∷ [])
    × (lines_in (broken "a\nb") ≡ codes "a" ∷ [])
    × (pieces_of (codes "abc") ≡ codes "abc" ∷ [])
    × (pieces_of [] ≡ [])
unfolding lines_on_literals
contents = (refl, refl, refl, refl)

-- kinds and their texts
kinds :
    (kind_text (blake2b_kind 32) ≡ codes "BLAKE2b-256")
    × (kind_text (full_kind Md5) ≡ codes "MD5")
    × (blake2b_of_bits 0 ≡ Ok (blake2b_kind 64))
    × (blake2b_of_bits 12 ≡ Err NotBytes)
    × (blake2b_of_bits 520 ≡ Err TooLong)
unfolding lines_on_literals
kinds = (refl, refl, refl, refl, refl)

-- names and digests in lines
written :
    (escape (codes "q\\\nz") ≡ codes "q\\\\\\nz")
    × (digest_line (record { mode = Text; zero = false }) (full_kind Md5) (codes "a") (0 ∷ 171 ∷ [])
    ≡ codes "00ab  a\n")
    × (digest_line (record { mode = Text; zero = false }) (full_kind Md5) (codes "q\nz") (0 ∷ 171 ∷ [])
    ≡ codes "\\00ab  q\\nz\n")
    × (digest_line (record { mode = Tag; zero = true }) (blake2b_kind 1) (codes "a") (171 ∷ [])
    ≡ codes "BLAKE2b-8 (a) = ab\0")
unfolding lines_on_literals
written = (refl, refl, refl, refl)

-- what lines say
read :
    (form_of (One Md5) (codes "900150983cd24fb0d6963f7d28e17f72 a" ∷ []) ≡ Reversed)
    × (parse_line (One Md5) Standard (codes "900150983cd24fb0d6963f7d28e17f72 a") ≡ ParsedLine.bad)
    × (parse_line (One Md5) Standard (codes "#") ≡ ParsedLine.ignored)
    × (parse_line Any Undecided (codes "BLAKE2b-8 (a) = 2e")
    ≡ ParsedLine.entry (record { kind = blake2b_kind 1; digest = 46 ∷ []; name = codes "a" }))
unfolding lines_on_literals
read = (refl, refl, refl, refl)

-- lines of a tool
reported :
    (fault_lines Md5sum (WordFaultValue.ambiguous_long (codes "s"))
    ≡ codes "md5sum: option '--s' is ambiguous\nTry 'md5sum --help' for more information.\n")
    × (name_fault_line (codes "md5sum") (codes "a\nb") NotFound ≡ codes "md5sum: a\\nb: No such file or directory\n")
unfolding lines_on_literals
reported = (refl, refl)
