-- What checking writes at the end of a manifest.
use Rattle.std.specs.{List.concat, Prelude.ℕ, Prelude.◌==◌, Prelude.◌&&◌, Prelude.[], Prelude.◌∷◌, Prelude.◌++◌}
use Rattle.std.specs.{Prelude.decimal, Prelude.codes, Prelude.if◌then◌else◌}
use Rattle.sum_settings.specs.declared.settings.Report.{Report, TheVariants.Status}
use Rattle.digest_kinds.specs.Bytes.{ByteString}
use Rattle.sum_sources.specs.declared.fault.Ending.{Ending, TheVariants.Whole, TheVariants.Broken}
use Rattle.sum_engine.specs.{ToolLines.tool_line, ToolLines.name_fault_line, check.Counts.Counts}
use Rattle.sum_engine.specs.{check.Counts.entry_count, check.Rules.LabelsValue, check.Rules.CheckRules}

-- TOOL: WARNING: N TEXT, unless the count is 0
abbrev pub warning : ByteString → ℕ → ByteString → ByteString → ByteString
warning tool n one many = if n == 0 then []
    else concat (tool ∷ codes ": WARNING: " ∷ decimal n ∷ (if n == 1 then one else many) ∷ codes "\n" ∷ [])

-- the line which says that no file was verified, under `--ignore-missing`
abbrev pub unverified_line : CheckRules → LabelsValue → Counts → ByteString
unverified_line rules labels counts = if rules.ignore_missing && (counts.right == 0)
    then tool_line labels.tool labels.manifest (codes "no file was verified") else []

-- the warnings at a manifest's end
abbrev pub warnings : CheckRules → LabelsValue → Counts → ByteString
warnings rules labels counts = let tool = labels.tool in
    warning tool counts.bad (codes " line is improperly formatted") (codes " lines are improperly formatted")
    ++ (warning tool counts.unread (codes " listed file could not be read") (codes " listed files could not be read")
    ++ (warning tool counts.wrong (codes " computed checksum did NOT match") (codes " computed checksums did NOT match")
    ++ unverified_line rules labels counts))

-- a text, or nothing under `Status`
abbrev pub text_unless_status : Report → ByteString → ByteString
text_unless_status Status text = []
text_unless_status report text = text

-- the end of a manifest on standard error: its summary, or the line of the fault that broke it
abbrev pub end_text : CheckRules → LabelsValue → Ending → Counts → ByteString
end_text rules labels Whole counts = if entry_count counts == 0
    then tool_line labels.tool labels.manifest (codes "no properly formatted checksum lines found")
    else text_unless_status labels.report (warnings rules labels counts)
end_text rules labels (Broken fault) counts = name_fault_line labels.tool labels.manifest fault
