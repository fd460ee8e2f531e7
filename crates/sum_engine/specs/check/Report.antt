-- What checking writes about a line.
use Rattle.std.specs.{List.concat, Prelude.ℕ, Prelude.[], Prelude.◌∷◌, Prelude.decimal, Prelude.codes}
use Rattle.digest_kinds.specs.{Algo.tag_of, Bytes.ByteString, declared.algo.Algos.Algos}
use Rattle.digest_kinds.specs.{declared.algo.Algos.TheVariants.One, declared.algo.Algos.TheVariants.Any}
use Rattle.sum_lines.specs.{Escape.escape, Escape.escape_differs, grammar.Shapes.backslash_if}
use Rattle.sum_settings.specs.declared.settings.Report.{Report, TheVariants.Quiet, TheVariants.Warn, TheVariants.Status}
use Rattle.sum_engine.specs.{ToolLines.name_fault_line, check.Judge.Verdict, check.Judge.Bad, check.Judge.Right}
use Rattle.sum_engine.specs.{check.Judge.Wrong, check.Judge.Unread, check.Judge.LineVerdictValue}
use Rattle.sum_engine.specs.{check.Rules.LabelsValue, check.Rules.CheckRules}

-- NAME: TEXT, after a backslash if the name's escape differs from it
abbrev pub name_line : ByteString → ByteString → ByteString
name_line name text = concat (backslash_if (escape_differs name) ∷ escape name ∷ codes ": " ∷ text ∷ codes "\n" ∷ [])

-- the report of a verdict on this name on standard output
abbrev pub out_by : Report → Verdict → ByteString → ByteString
out_by Status verdict name = []
out_by Quiet Right name = []
out_by report Right name = name_line name (codes "OK")
out_by report Wrong name = name_line name (codes "FAILED")
out_by report (Unread fault) name = name_line name (codes "FAILED open or read")
out_by report verdict name = []

-- a line's report on standard output
abbrev pub out_of : LabelsValue → LineVerdictValue → ByteString
out_of labels found = out_by labels.report found.verdict found.name

-- the word for the tag in a report
abbrev pub tag_word : Algos → ByteString
tag_word (One algo) = tag_of algo
tag_word Any = codes "tagged"

-- TOOL: MANIFEST: N: improperly formatted TAG checksum line
abbrev pub bad_line : CheckRules → LabelsValue → ℕ → ByteString
bad_line rules labels n = concat (labels.tool ∷ codes ": " ∷ escape labels.manifest ∷ codes ": "
    ∷ decimal n ∷ codes ": improperly formatted " ∷ tag_word rules.algo ∷ codes " checksum line\n" ∷ [])

-- the report of line n, with this verdict and name, on standard error. A bad line is reported only under `Warn`
abbrev pub err_by : CheckRules → LabelsValue → ℕ → Verdict → Report → ByteString → ByteString
err_by rules labels n Bad Warn name = bad_line rules labels n
err_by rules labels n (Unread fault) report name = name_fault_line labels.tool name fault
err_by rules labels n verdict report name = []

-- a line's report on standard error
abbrev pub err_of : CheckRules → LabelsValue → LineVerdictValue → ByteString
err_of rules labels found = err_by rules labels found.number found.verdict labels.report found.name
