-- Standard input: before, when and after it is taken.
use Rattle.std.specs.Prelude.{pos, Bool, true, false, not, ◌≡◌, [], Option, None, Some}
use Rattle.sum_sources.specs.{inputs.Input.Unfinished, inputs.Input.Content, inputs.Input.InputState}
use Rattle.sum_sources.specs.{inputs.Input.empty_reads, Fault.Fault, Fault.Os, Fault.Whole}
use Rattle.sum_sources.specs.inputs.InputLog.{told_reads}
use Rattle.sum_sources.specs.declared.inputs.stdin.Closable.{TheVariants.Open, TheVariants.Closed, Closable}

-- the fault of a descriptor that isn't open, EBADF
abbrev pub bad_descriptor : Fault
bad_descriptor = Os (pos 9)

-- the state of an input that may be closed. A closed one has no bytes, and the ending that it holds
abbrev pub closable_state : {I : Type 0} → (I → InputState) → Closable I → InputState
closable_state state_of (Open input) = state_of input
closable_state state_of (Closed ending phase) = let content : Content = record { bytes = []; ending = ending } in
    record { nth = 0; name = []; told = Some content; reads = told_reads content 0 phase }

-- standard input: whether it was taken, and the input, unless it is taken and wasn't put back
abbrev pub StdinValue : Type 0 → Type 0
StdinValue I = Bool × Option (Closable I)

-- whether it hasn't been taken yet
abbrev pub is_untaken : {I : Type 0} → StdinValue I → Bool
is_untaken stdin = not stdin.0

-- what taking gives: the input the first time, and an empty one afterwards
abbrev pub given_input : {I : Type 0} → StdinValue I → Closable I
given_input (false, Some input) = input
given_input stdin = Closed Whole Unfinished

-- nothing has been read of what taking gives
abbrev pub GivesUnread : {I : Type 0} → (I → InputState) → StdinValue I → Type 0
GivesUnread state_of stdin = (closable_state state_of (given_input stdin)).reads ≡ empty_reads

-- standard input after it was taken
abbrev pub stdin_after_taking : {I : Type 0} → StdinValue I → StdinValue I
stdin_after_taking (false, input) = (true, None)
stdin_after_taking stdin = stdin

-- standard input after what was taken is put back: it is kept if nothing was put back before
abbrev pub stdin_after_put_back : {I : Type 0} → StdinValue I → Closable I → StdinValue I
stdin_after_put_back (true, None) input = (true, Some input)
stdin_after_put_back stdin input = stdin
