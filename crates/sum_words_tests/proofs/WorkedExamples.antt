-- Worked examples: what the definitions say of some command lines, computed.
use Rattle.std.proofs.Common.{rules, ◌≡◌, ◌==◌, ◌≤◌, List, ℕ, [], ◌∷◌, None, Some, Result, Ok, Err, refl, codes, true}
use Rattle.std.proofs.Common.{false, length}
use Rattle.std.specs.{List.slice_split, Prelude.⊤, Str.byte, Str.chars, Str.is_utf8}
use Prim.Native.String.{String}
use lib.Utf8.{encode}
use Rattle.digest_kinds.specs.Bytes.{ByteString}
use Rattle.digest_kinds.specs.declared.algo.{Algo.Algo, Algo.TheVariants.Md5, Algo.TheVariants.Sha256}
use Rattle.digest_kinds.specs.declared.algo.{Algo.TheVariants.Blake2b, Algos.TheVariants.One, Algos.TheVariants.Any}
use Rattle.sum_settings.specs.declared.style.Mode.{Mode}
use Rattle.sum_words.specs.{CommandLine.command_line, CommandLine.NeedsMemory}
use Rattle.sum_words.specs.CommandLine.{tool_called}
use Rattle.sum_words.specs.{declared.parsing.options.Spelling.TheVariants.Long}
use Rattle.sum_words.specs.{declared.parsing.options.Spelling.TheVariants.Short}
use Rattle.sum_words.specs.{declared.parsing.request.Request.Request}
use Rattle.sum_words.specs.declared.parsing.request.Request.TheVariants.{Generate, Check, Help, Version}
use Rattle.sum_words.specs.declared.tool.Tool.TheVariants.{Md5sum, Sha256sum, B2sum, Anysum}
use Rattle.sum_words.specs.parsing.{Options.name_or_fault, Options.option_of_letter, Request.request}
use Rattle.sum_words.specs.parsing.{WordFault.WordFaultValue}
use Rattle.sum_settings.specs.declared.style.Mode.TheVariants as modes
use Rattle.sum_settings.specs.declared.settings.Report.TheVariants as reports
use Rattle.sum_words.specs.declared.parsing.options.Flag.TheVariants as flags

-- what unfolds if words are read
unfoldable pub words_on_literals : ⊤
unfolding chars encode name_or_fault option_of_letter tool_called is_utf8
words_on_literals = tt

-- the words of a line that has one blank between each two
abbrev pub words : String → List ByteString
words line = slice_split (λ b. b == byte " ") (codes line)

-- what a tool generates in a mode, each line with a newline
abbrev pub generates : Algo → ℕ → Mode → List ByteString → Result Request WordFaultValue
generates algo len mode operands = Ok (Generate
    (record { kind = record { algo = algo; len = len }; style = record { mode = mode; zero = false } }) operands)

-- lengths, and their faults
lengths :
    (request B2sum (words "-l 520 e") ≡ Err (WordFaultValue.length_invalid (codes "520")))
    × (request B2sum (words "-l 513 e") ≡ Err (WordFaultValue.length_invalid (codes "513")))
    × (request B2sum (words "-l 12 e") ≡ Err (WordFaultValue.length_not_bytes (codes "12")))
    × (request B2sum (words "-l 12 -l 8 e") ≡ generates Blake2b 1 modes.Text (words "e"))
    × (request B2sum (words "e -l") ≡ Err (WordFaultValue.value_missing Short))
    × (request Md5sum (words "-l 8 a") ≡ Err (WordFaultValue.unknown_short 108))
    × (request B2sum (words "-l --help") ≡ Err (WordFaultValue.length_invalid (codes "--help")))
    × (request B2sum (words "--help -l") ≡ Ok Help)
    × (request B2sum (words "--len 256 e") ≡ generates Blake2b 32 modes.Text (words "e"))
    × (request B2sum (words "-bl256 e") ≡ generates Blake2b 32 modes.Binary (words "e"))
    × (request B2sum (words "-l 0256 e") ≡ generates Blake2b 32 modes.Text (words "e"))
    × (request B2sum (words "-l 0 --tag e") ≡ generates Blake2b 64 modes.Tag (words "e"))
    × (request B2sum (words "-l 512 --tag e") ≡ generates Blake2b 64 modes.Tag (words "e"))
    × (request B2sum (words "--length= e") ≡ Err (WordFaultValue.length_invalid []))
    × (request B2sum (words "-l +8 e") ≡ Err (WordFaultValue.length_invalid (codes "+8")))
    × (request B2sum (words "e --len") ≡ Err (WordFaultValue.value_missing Long))
    × (request B2sum (words "-l 18446744073709551624 e")
    ≡ Err (WordFaultValue.length_invalid (codes "18446744073709551624")))
    × (request B2sum (words "-l 0000000000000000000000000000008 e") ≡ generates Blake2b 1 modes.Text (words "e"))
unfolding words_on_literals
lengths = (refl, refl, refl, refl, refl, refl, refl, refl, refl, refl, refl, refl, refl, refl, refl, refl, refl, refl)

-- options, abbreviated ones among them, and their faults
options :
    (request Sha256sum (words "--st l") ≡ Err (WordFaultValue.ambiguous_long (codes "st")))
    × (request Sha256sum (words "--str l") ≡ Err (WordFaultValue.without_check flags.Strict))
    × (request Sha256sum (words "-cq l") ≡ Err (WordFaultValue.unknown_short 113))
    × (request Md5sum (words "--status --quiet a") ≡ Err (WordFaultValue.without_check flags.Quiet))
    × (request Md5sum (words "--foo --help") ≡ Err (WordFaultValue.unknown_long (codes "foo")))
    × (request Md5sum (words "--help --foo") ≡ Ok Help)
    × (request Md5sum (words "--tag=1 a") ≡ Err (WordFaultValue.value_not_allowed (codes "tag")))
    × (request Md5sum (words "--foo=1 a") ≡ Err (WordFaultValue.unknown_long (codes "foo")))
    × (request Md5sum (words "--s a") ≡ Err (WordFaultValue.ambiguous_long (codes "s")))
    × (request Md5sum (words "--t a") ≡ Err (WordFaultValue.ambiguous_long (codes "t")))
    × (request Md5sum (words "--=x a") ≡ Err (WordFaultValue.ambiguous_long []))
    × (request Md5sum (words "--ta a") ≡ generates Md5 16 modes.Tag (words "a"))
    × (request Md5sum (words "--help=1") ≡ Err (WordFaultValue.value_not_allowed (codes "help")))
    × (request Sha256sum (words "-- -b") ≡ generates Sha256 32 modes.Text (words "-b"))
    × (request Md5sum (words "--version a") ≡ Ok Version)
unfolding words_on_literals
options = (refl, refl, refl, refl, refl, refl, refl, refl, refl, refl, refl, refl, refl, refl, refl)

-- which of several options or faults counts
order :
    (request Md5sum (words "--tag -t a") ≡ Err WordFaultValue.tag_with_text)
    × (request Md5sum (words "-t --tag a") ≡ generates Md5 16 modes.Tag (words "a"))
    × (request Md5sum (words "--tag -b a") ≡ generates Md5 16 modes.Tag (words "a"))
    × (request Md5sum (words "-c --tag -z l") ≡ Err WordFaultValue.zero_with_check)
    × (request Md5sum (words "-c --tag l") ≡ Err WordFaultValue.tag_with_check)
    × (request Md5sum (words "-c -b l") ≡ Err WordFaultValue.mode_with_check)
    × (request Md5sum (words "--strict --ignore-missing a") ≡ Err (WordFaultValue.without_check flags.IgnoreMissing))
    × (request Md5sum (words "--quiet -w --status a") ≡ Err (WordFaultValue.without_check flags.Status))
    × (request Md5sum (words "--status -w a") ≡ Err (WordFaultValue.without_check flags.Warn))
    × (request Md5sum (words "-c -t --tag -t l") ≡ Err WordFaultValue.tag_with_text)
unfolding words_on_literals
order = (refl, refl, refl, refl, refl, refl, refl, refl, refl, refl)

-- what anysum is asked, and what is checked, and how
checking :
    (request Anysum [] ≡ Err WordFaultValue.check_needed)
    × (request Anysum (words "m") ≡ Err WordFaultValue.check_needed)
    × (request Anysum (words "-b m") ≡ Err WordFaultValue.check_needed)
    × (request Anysum (words "--quiet m") ≡ Err (WordFaultValue.without_check flags.Quiet))
    × (request Anysum (words "-z -c m") ≡ Err WordFaultValue.zero_with_check)
    × (request Anysum (words "-c -l 8 m") ≡ Err (WordFaultValue.unknown_short 108))
    × (request Anysum (words "-c --length=8 m") ≡ Err (WordFaultValue.unknown_long (codes "length")))
    × (request Anysum (words "-c --strict -w m n") ≡ Ok (Check
    (record { algo = Any; report = reports.Warn; strict = true; ignore_missing = false }) (words "m n")))
    × (request B2sum (words "-c -l 8 --status --quiet --ignore-missing - l") ≡ Ok (Check
    (record { algo = One Blake2b; report = reports.Quiet; strict = false; ignore_missing = true }) (words "- l")))
unfolding words_on_literals
checking = (refl, refl, refl, refl, refl, refl, refl, refl, refl)

-- words of any bytes
odd_words :
    (request Md5sum (codes "a" ∷ (233 ∷ []) ∷ codes "--" ∷ (255 ∷ []) ∷ [])
    ≡ generates Md5 16 modes.Text (codes "a" ∷ (233 ∷ []) ∷ (255 ∷ []) ∷ []))
    × (request B2sum (codes "-l" ∷ (255 ∷ []) ∷ []) ≡ Err (WordFaultValue.length_invalid (255 ∷ [])))
    × (request B2sum (codes "-l" ∷ (45 ∷ 255 ∷ []) ∷ []) ≡ Err (WordFaultValue.length_invalid (45 ∷ 255 ∷ [])))
    × (request Md5sum (codes "a" ∷ (45 ∷ 255 ∷ []) ∷ codes "--help" ∷ [])
    ≡ Err (WordFaultValue.not_text (45 ∷ 255 ∷ [])))
    × (request Md5sum (codes "--help" ∷ (45 ∷ 255 ∷ []) ∷ []) ≡ Ok Help)
    × (request B2sum ((45 ∷ 108 ∷ 252 ∷ []) ∷ []) ≡ Err (WordFaultValue.not_text (45 ∷ 108 ∷ 252 ∷ [])))
    × (request Md5sum (codes "--" ∷ (45 ∷ 255 ∷ []) ∷ []) ≡ generates Md5 16 modes.Text ((45 ∷ 255 ∷ []) ∷ []))
    × (command_line (codes "digests" ∷ codes "md5sum" ∷ (45 ∷ 233 ∷ []) ∷ []) ≡ Some (Md5sum, (45 ∷ 233 ∷ []) ∷ []))
    × (command_line (codes "digests" ∷ (255 ∷ []) ∷ []) ≡ None)
    × (command_line (codes "digests" ∷ (45 ∷ 255 ∷ []) ∷ codes "a" ∷ []) ≡ None)
unfolding words_on_literals
odd_words = (refl, refl, refl, refl, refl, refl, refl, refl, refl, refl)

-- a command line without a word is always read, if the name is no longer than the page; a word that names the tool
-- needs no memory
no_words : ((name : ByteString) → length name ≤ 4096 → NeedsMemory (name ∷ []) → ⊥)
    × (NeedsMemory (words "digests md5sum") → ⊥)
unfolding tool_called
no_words = search rules
