-- What a call can open in its source, and what it does: a list of steps, between which memory may run out.
use Rattle.std.specs.Prelude.{ℕ, ◌&&◌, Bool, List, [], ◌∷◌, ◌++◌, map, flat_map, Result, Ok, Err}
use Rattle.digest_kinds.specs.{Bytes.ByteString, Kind.KindValue, Kind.message_digest}
use Rattle.sum_lines.specs.sinks.Output.{OutputEvent, output_events}
use Rattle.sum_sources.specs.{declared.fault.Ending.Ending, declared.fault.Ending.TheVariants.Whole}
use Rattle.sum_sources.specs.{declared.fault.Ending.TheVariants.Broken, declared.fault.Fault.Fault, inputs.Input.clip}
use Rattle.sum_sources.specs.{sources.Source.AnswerValue, sources.Source.times}

-- a world: what the outside may be. A file may change between two openings of it
pub record World : Type 0 where
  pub answer : ByteString → ℕ → AnswerValue  -- to each opening, by its name and how many of that name came before
  pub opened : List ByteString  -- the names that were opened before

-- the answer to the next opening of a name
abbrev pub answer_to : World → ByteString → AnswerValue
answer_to world name = world.answer name (times name world.opened)

-- the world after these names were opened, one after another
abbrev pub world_after : World → List ByteString → World
world_after world names = record world { opened = world.opened ++ names }

-- the digest of bytes with this ending: of all of them, or in its place the fault that broke them
abbrev pub digest_by_ending : KindValue → ByteString → Ending → Result ByteString Fault
digest_by_ending kind bytes Whole = Ok (message_digest kind bytes)
digest_by_ending kind bytes (Broken fault) = Err fault

-- the digest of an answer, or in its place the fault of opening or reading it
abbrev pub digest_or_fault : KindValue → AnswerValue → Result ByteString Fault
digest_or_fault kind (Err fault) = Err fault
digest_or_fault kind (Ok content) = digest_by_ending kind (clip content).bytes (clip content).ending

-- an event: a name is opened, or an output is offered a piece or writes a byte
pub data Event : Type 0 where
  open_name : ByteString → Event
  to_err to_out : OutputEvent → Event

-- a step, between two points at which memory may run out: at most one name is opened, then `err` is written, then
-- `out`. While bytes of a manifest remain before it, memory for a line may be what runs out
pub record Step : Type 0 where
  pub names : List ByteString
  pub err : ByteString  -- a text to standard error
  pub out : ByteString  -- a text to standard output
  pub manifest_left : ℕ  -- how many bytes of a manifest remain before it: those of its own line, if any, and later ones

-- a behavior: a list of steps, and whether all is good
pub record Behavior : Type 0 where
  pub steps : List Step
  pub good : Bool

-- the events of a step, in their order. Each text is offered in its pieces (`pieces_of`), an empty one not at all
abbrev pub events_of : Step → List Event
events_of step =
    map Event.open_name step.names
    ++ (map Event.to_err (output_events step.err) ++ map Event.to_out (output_events step.out))

-- the events of steps, one step after another
abbrev pub trace : List Step → List Event
trace steps = flat_map events_of steps

-- a behavior, and then another
abbrev pub behavior_then : Behavior → Behavior → Behavior
behavior_then first second = record { steps = first.steps ++ second.steps; good = first.good && second.good }

-- a behavior of one step, which opens these names, and writes a text to standard error and one to standard output
abbrev pub single_step : List ByteString → ByteString → ByteString → Bool → Behavior
single_step names err out good =
    record { steps = record { names = names; err = err; out = out; manifest_left = 0 } ∷ []; good = good }

-- a behavior's text on standard output
abbrev pub out_text : Behavior → ByteString
out_text behavior = flat_map (λ step. step.out) behavior.steps

-- a behavior's text on standard error
abbrev pub err_text : Behavior → ByteString
err_text behavior = flat_map (λ step. step.err) behavior.steps

-- the names that a behavior opens, in their order
abbrev pub names_in : Behavior → List ByteString
names_in behavior = flat_map (λ step. step.names) behavior.steps
