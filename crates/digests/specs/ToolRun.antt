-- What a tool's words mean: a behavior, and its status.
use Rattle.std.specs.Prelude.{ℕ, Bool, true, false, List, [], ◌∷◌, Result, Ok, Err, codes, if◌then◌else◌}
use Rattle.digest_kinds.specs.Bytes.{ByteString}
use Rattle.sum_engine.specs.{Behavior.World, Behavior.world_after, Behavior.Behavior, Behavior.behavior_then}
use Rattle.sum_engine.specs.{Behavior.single_step, Behavior.names_in, Generate.generate_behavior}
use Rattle.sum_engine.specs.{check.CheckOne.check_behavior}
use Rattle.sum_words.specs.declared.parsing.request.Request.TheVariants.{Generate, Check, Help, Version}
use Rattle.sum_words.specs.{messages.Help.help, messages.Help.version, Tool.name_of}
use Rattle.sum_words.specs.{declared.parsing.request.Request.Request, declared.tool.Tool.Tool}
use Rattle.sum_words.specs.{messages.FaultLines.fault_lines, parsing.Request.request, parsing.WordFault.WordFaultValue}

-- the behavior of names, one after another. Each begins in the world that the earlier ones leave
abbrev pub operands_behavior : (World → ByteString → Behavior) → World → List ByteString → Behavior
operands_behavior behavior_of world [] = record { steps = []; good = true }
operands_behavior behavior_of world (name ∷ names) = let first = behavior_of world name in
    behavior_then first (operands_behavior behavior_of (world_after world (names_in first)) names)

-- the operands; `-` if there is none
abbrev pub names_or_dash : List ByteString → List ByteString
names_or_dash [] = codes "-" ∷ []
names_or_dash names = names

-- the behavior that a request, or a fault of the words, asks for
abbrev pub request_behavior : Tool → Result Request WordFaultValue → World → Behavior
request_behavior tool (Err fault) world = single_step [] (fault_lines tool fault) [] false
request_behavior tool (Ok Help) world = single_step [] [] (help tool) true
request_behavior tool (Ok Version) world = single_step [] [] (version tool) true
request_behavior tool (Ok (Generate settings names)) world =
    operands_behavior (generate_behavior settings (name_of tool)) world (names_or_dash names)
request_behavior tool (Ok (Check settings names)) world =
    operands_behavior (check_behavior settings (name_of tool)) world (names_or_dash names)

-- the behavior that a tool's words mean
abbrev pub meaning : Tool → List ByteString → World → Behavior
meaning tool words world = request_behavior tool (request tool words) world

-- the status: 0 if all is good, otherwise 1
abbrev pub status_of : Bool → ℕ
status_of good = if good then 0 else 1
