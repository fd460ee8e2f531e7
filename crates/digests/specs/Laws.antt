-- The laws of a run and of the program: what they do over files in memory; and what generation wrote is good.
use Rattle.digest_kinds.specs.Bytes.{LIMIT}
use Rattle.std.specs.Prelude.{ℕ, ◌≡◌, ◌⊎◌, List, Option, Some, Result, Ok, ◌<◌, false, [], ◌∷◌, ◌++◌, IsTrue, length}
use Rattle.std.specs.Prelude.{map, flat_map, codes, All, if◌then◌else◌, option_to_list}
use Rattle.digest_kinds.specs.Bytes.{ByteString}
use Rattle.sum_settings.specs.declared.stop.Stop.{Stop}
use Rattle.sum_sources.specs.sources.Source.{Answers, ToldAnswers, TellsAll, AnswerValue}
use Rattle.sum_engine.specs.Behavior.{World, Behavior, answer_to, out_text, err_text}
use Rattle.sum_engine.specs.Execution.{opened_names, ReadsToEndIf, PerformsSteps, Performs}
use Rattle.sum_engine.specs.Streams.{StreamsState}
use Rattle.sum_words.specs.Arguments.{ArgumentsState}
use Rattle.sum_words.specs.CommandLine.{command_line, NeedsMemory}
use Rattle.sum_words.specs.declared.tool.Tool.{Tool}
use Rattle.digests.specs.Program.{CallRefuses, CommandRuns, ProgramPerforms, not_read_line}
use Rattle.digests.specs.ToolRun.{meaning, status_of, operands_behavior}
use Rattle.digest_kinds.specs.Algo.{has_len}
use Rattle.digest_kinds.specs.declared.algo.Algos.{Algos}
use Rattle.sum_settings.specs.declared.settings.CheckSettings.{CheckSettings}
use Rattle.sum_settings.specs.declared.settings.Report.{Report}
use Rattle.sum_settings.specs.declared.settings.Settings.{Settings}
use Rattle.sum_lines.specs.grammar.LineLaws.{AllowsMode}
use Rattle.sum_sources.specs.declared.fault.Ending.TheVariants.{Whole}
use Rattle.sum_sources.specs.sources.WithStdin.{is_dash}
use Rattle.sum_engine.specs.Generate.{generate_behavior}
use Rattle.sum_engine.specs.check.Report.{out_by}
use Rattle.sum_engine.specs.declared.check.judge.Verdict.TheVariants.{Right}
use Rattle.sum_words.specs.Tool.{algos_of}
use Rattle.sum_words.specs.declared.parsing.options.Flag.{Flag}
use Rattle.sum_words.specs.parsing.Options.{full_name}
use Rattle.sum_words.specs.parsing.Request.{report_flag}
use Rattle.sum_words.specs.declared.parsing.options.Flag.TheVariants as flags

-- suppose that a tool ran on some words, as its contract says, and left the streams in this state. If its source tells
-- all answers, it performed exactly the behavior that the words mean by these answers
abbrev pub MeansInMemory : ToldAnswers → StreamsState → Type 0
MeansInMemory tells after = (tool : Tool) (words : List ByteString) (answer : Answers) (before : StreamsState)
    (result : Result ℕ Stop) → TellsAll tells before.inputs.told answer
    → Performs (meaning tool words) status_of before after result
    → ReadsToEndIf (result ≡ Ok 0) before.inputs after.inputs
    → let all = meaning tool words (record { answer = answer; opened = opened_names before.inputs }) in
    PerformsSteps all.steps (status_of all.good) before after result

-- in this world the tool did what its words mean; or there is none, and the line for an unknown tool was written
abbrev pub CommandPerformsIn : World → Option (Tool × List ByteString) → StreamsState → StreamsState → ℕ → Type 0
CommandPerformsIn world =
    CommandRuns (λ behavior. let all = behavior world in PerformsSteps all.steps (status_of all.good))

-- suppose that the program was called, as its contract says, with arguments in memory, and left the streams in this
-- state. If its source tells all answers, it did exactly what the arguments ask for by these answers; or they need
-- memory, and weren't read
abbrev pub MeansProgramInMemory : ToldAnswers → ArgumentsState → StreamsState → Type 0
MeansProgramInMemory tells given after = (arguments : List ByteString) (answer : Answers) (before : StreamsState)
    (status : ℕ) → given.told ≡ Some arguments → TellsAll tells before.inputs.told answer
    → ProgramPerforms given before after status → ReadsToEndIf (status ≡ 0) before.inputs after.inputs
    → CommandPerformsIn (record { answer = answer; opened = opened_names before.inputs }) (command_line arguments)
    before after status ⊎ (NeedsMemory arguments × CallRefuses not_read_line before after status)

-- a name can be listed: it isn't empty, has no NUL and isn't `-`, and its file is whole and not too long
pub record IsListable (files : ByteString → AnswerValue) (name : ByteString) : Type 0 where
  pub some : 0 < length name
  pub no_nul : All (λ b. 0 < b) name
  pub no_dash : is_dash name ≡ false
  pub bytes : ByteString
  pub content : files name ≡ Ok (record { bytes = bytes; ending = Whole })
  pub fits : length bytes < LIMIT

-- a run of generation
pub record GenerationRun : Type 0 where
  pub settings : Settings
  pub tool : ByteString  -- the tool's name
  pub names : List ByteString

-- the text that a run writes to standard output in a world
abbrev pub generation_output : World → GenerationRun → ByteString
generation_output world run = out_text (operands_behavior (generate_behavior run.settings run.tool) world run.names)

-- what a run wrote of these files can be checked later with these algorithms
pub record IsCheckable (algos : Algos) (files later : ByteString → AnswerValue) (run : GenerationRun) : Type 0 where
  pub newlines : run.settings.style.zero ≡ false  -- its lines end with newlines
  pub has : IsTrue (has_len run.settings.kind.algo run.settings.kind.len)
  pub read_by : AllowsMode algos run.settings.style.mode run.settings.kind.algo  -- its lines are read back
  pub listable : All (IsListable files) run.names
  pub same : All (λ name. later name ≡ files name) run.names  -- its files are the same later

-- a world has these files, whatever was opened
abbrev pub HasFiles : World → (ByteString → AnswerValue) → Type 0
HasFiles world files = (name : ByteString) (k : ℕ) → is_dash name ≡ false → world.answer name k ≡ files name

-- the options that ask for a check with these settings
abbrev pub check_options : CheckSettings → List Flag
check_options settings = flags.Check ∷ option_to_list (report_flag settings.report)
    ++ (if settings.strict then flags.Strict ∷ [] else [])
    ++ (if settings.ignore_missing then flags.IgnoreMissing ∷ [] else [])

-- the words of a check of one manifest with these settings, as in `--check --quiet -- SUMS`
abbrev pub check_words : CheckSettings → ByteString → List ByteString
check_words settings manifest =
    map (λ flag. codes "--" ++ full_name flag) (check_options settings) ++ codes "--" ∷ manifest ∷ []

-- a run ends with status 0, and writes `NAME: OK` for each name, if the report setting shows that, and nothing else
pub record ReportsAllOk (report : Report) (behavior : Behavior) (names : List ByteString) : Type 0 where
  pub status : status_of behavior.good ≡ 0
  pub out : out_text behavior ≡ flat_map (out_by report Right) names
  pub err : err_text behavior ≡ []

-- what these runs wrote, one after another, is good as a manifest, if they have a name and it isn't too long
abbrev pub IsAccepted : List GenerationRun → Type 0
IsAccepted runs = let names = flat_map (λ run. run.names) runs in
    (tool : Tool) (settings : CheckSettings) (manifest : ByteString) (files later : ByteString → AnswerValue)
    (world later_world : World) → HasFiles world files → HasFiles later_world later → settings.algo ≡ algos_of tool
    → All (IsCheckable settings.algo files later) runs → 0 < length names
    → let sums = flat_map (generation_output world) runs in length sums < LIMIT
    → answer_to later_world manifest ≡ Ok (record { bytes = sums; ending = Whole })
    → ReportsAllOk settings.report (meaning tool (check_words settings manifest) later_world) names
