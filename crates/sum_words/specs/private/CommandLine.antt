-- Relates what was read of the command line to what the calls for arguments gave.
use Rattle.std.specs.Prelude.{ℕ, ◌≡◌, ◌<◌, ◌≤◌, List, [], ◌∷◌, ◌++◌, length, take, slice_get, Option, None, Some}
use Rattle.std.specs.Prelude.{IsSomeAnd, Result, Ok, Err}
use Rattle.std.specs.declared.env.FillError.{FillError, TheVariants.NotPresent, TheVariants.TooLong}
use Rattle.digest_kinds.specs.Bytes.{ByteString}
use Rattle.sum_words.specs.{Arguments.ArgumentsState, Arguments.FitsArguments, CommandLine.command_line}
use Rattle.sum_words.specs.{declared.tool.Tool.Tool}

-- what a `fill` returns: the buffer starts with the argument at the place, or that is longer, or there is none
abbrev pub Fills : List ByteString → ℕ → ByteString → Result ℕ FillError → Type 0
Fills all place buffer (Ok n) = slice_get all place ≡ Some (take n buffer)
Fills all place buffer (Err TooLong) = IsSomeAnd (slice_get all place) (λ argument. length buffer < length argument)
Fills all place buffer (Err NotPresent) = slice_get all place ≡ None

-- no argument was given: the last call had this fault, with a buffer of at least this many bytes
pub record Fails (fault : FillError) (least : ℕ) (before after : ArgumentsState) : Type 0 where
  pub size : ℕ
  pub state : after ≡ record before { fault = Some (fault, size) }
  pub at_least : least ≤ size

-- this argument was given, or there is none
abbrev pub Gives : ArgumentsState → ArgumentsState → Option ByteString → Type 0
Gives before after (Some argument) = after ≡ record before { given = before.given ++ argument ∷ []; fault = None }
Gives before after None = Fails NotPresent 0 before after

-- the tool and the place of its words, by the arguments that were given; or no list that agrees names a tool
abbrev pub FindsTool : ArgumentsState → Option (Tool × ℕ) → Type 0
FindsTool state (Some (tool, first)) =
    (first ≡ length state.given) × ((rest : List ByteString) → command_line (state.given ++ rest) ≡ Some (tool, rest))
FindsTool state None = (all : List ByteString) → FitsArguments state all → command_line all ≡ None
