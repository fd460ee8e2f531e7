-- The rules by which a manifest's lines are judged, and what its reports show.
use Rattle.std.specs.Prelude.{Bool, codes, if◌then◌else◌}
use Rattle.digest_kinds.specs.Bytes.{ByteString}
use Rattle.sum_settings.specs.declared.settings.{CheckSettings.CheckSettings, Report.Report}
use Rattle.sum_sources.specs.sources.WithStdin.{is_dash}
pub use Rattle.sum_engine.specs.declared.check.rules.CheckRules.{CheckRules}

-- what the reports of a manifest show: the tool's name, the manifest's, and which lines
pub record LabelsValue : Type 0 where
  pub tool : ByteString
  pub manifest : ByteString
  pub report : Report

-- the rules of these settings, depending on whether the manifest came from standard input
abbrev pub rules_of : CheckSettings → Bool → CheckRules
rules_of settings from_stdin = record {
  algo = settings.algo;
  ignore_missing = settings.ignore_missing;
  strict = settings.strict;
  from_stdin = from_stdin;
}

-- what the tool's reports of a manifest of that name show
abbrev pub labels_of : CheckSettings → ByteString → ByteString → LabelsValue
labels_of settings tool name =
    record { tool = tool; manifest = if is_dash name then codes "standard input" else name; report = settings.report }
