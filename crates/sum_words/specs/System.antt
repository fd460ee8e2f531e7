-- The state of the arguments that the system gives.
use Rattle.std.specs.Prelude.{None}
use Rattle.sum_words.specs.{Arguments.ArgumentsState, declared.system.SystemArguments.SystemArguments}

-- what the calls for the system's arguments gave: the list isn't in memory
abbrev pub system_arguments_state : {R : Type 0} → SystemArguments R → ArgumentsState
system_arguments_state arguments = record arguments.log { told = None }
