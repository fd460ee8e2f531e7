-- The state of a list of arguments in memory.
use Rattle.std.specs.Prelude.{Some, map}
use Rattle.sum_words.specs.{Arguments.ArgumentsState}
use Rattle.sum_words.specs.declared.told_arguments.ToldArguments.{ToldArguments}

-- the arguments in memory, and what the calls for them gave
abbrev pub told_arguments_state : ToldArguments → ArgumentsState
told_arguments_state list = record list.log { told = Some (map (λ a. a.now) list.arguments.now) }
