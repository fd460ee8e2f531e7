-- The behavior of hashing one name.
use Rattle.std.specs.Prelude.{true, false, [], ◌∷◌, Result, Ok, Err}
use Rattle.sum_settings.specs.declared.settings.Settings.{Settings}
use Rattle.digest_kinds.specs.Bytes.{ByteString}
use Rattle.sum_lines.specs.writing.PutLine.{digest_line}
use Rattle.sum_sources.specs.declared.fault.Fault.{Fault}
use Rattle.sum_engine.specs.{Behavior.World, Behavior.answer_to, Behavior.digest_or_fault, Behavior.Behavior}
use Rattle.sum_engine.specs.{Behavior.single_step, ToolLines.name_fault_line}

-- the behavior for a name with this digest or fault: its line is written, or that of the fault
abbrev pub generate_behavior_by : Settings → ByteString → ByteString → Result ByteString Fault → Behavior
generate_behavior_by settings tool name (Ok digest) =
    single_step (name ∷ []) [] (digest_line settings.style settings.kind name digest) true
generate_behavior_by settings tool name (Err fault) = single_step (name ∷ []) (name_fault_line tool name fault) [] false

-- the behavior of hashing a name in a world
abbrev pub generate_behavior : Settings → ByteString → World → ByteString → Behavior
generate_behavior settings tool world name =
    generate_behavior_by settings tool name (digest_or_fault settings.kind (answer_to world name))
