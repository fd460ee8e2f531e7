-- What the calls for arguments gave, and which lists of arguments agree with that.
use Rattle.std.proofs.Common.{ℕ, ◌≡◌, ◌<◌, ◌+◌, List, [], ◌∷◌, ◌++◌, Option, None, Some, Result, Ok, Err, refl, arith}
use Rattle.std.specs.Prelude.{length, take, drop, replicate, slice_get, IfSome, IsSomeAnd}
use Rattle.std.{specs.declared.env.FillError.TheVariants.NotPresent, specs.declared.env.FillError.TheVariants.TooLong}
use Rattle.std.{proofs.Math.Seq.drop-append_seam, proofs.Props.props, proofs.lemmas.List.length-replicate}
use Rattle.std.{specs.declared.env.FillError.FillError}
use Rattle.digest_kinds.specs.Bytes.{ByteString}

-- the state of a list of arguments
pub record ArgumentsState : Type 0 where
  pub told : Option (List ByteString)  -- all arguments, if they are in memory
  pub given : List ByteString  -- those that the calls gave, in order
  pub fault : Option (FillError × ℕ)  -- the fault of the last call and the length of its buffer, if it gave none

-- the state after one more call, which left this buffer and returned this
abbrev pub state_after_fill : ArgumentsState → ByteString → Result ℕ FillError → ArgumentsState
state_after_fill before buffer (Ok n) = record before { given = before.given ++ take n buffer ∷ []; fault = None }
state_after_fill before buffer (Err fault) = record before { fault = Some (fault, length buffer) }

-- these arguments, if they were left, explain a call's fault: the first is longer than its buffer, or there is none
abbrev pub Explains : List ByteString → FillError × ℕ → Type 0
Explains rest (TooLong, size) = IsSomeAnd (slice_get rest 0) (λ argument. size < length argument)
Explains rest (NotPresent, size) = rest ≡ []

-- a list of all arguments agrees with what the calls gave so far
pub record FitsArguments (state : ArgumentsState) (all : List ByteString) : Type 0 where
  pub told : IfSome state.told (λ told. all ≡ told)  -- it is the list in memory, if there is one
  pub given : all ≡ state.given ++ drop (length state.given) all  -- it begins with the arguments that were given
  pub fault : IfSome state.fault (Explains (drop (length state.given) all))  -- its rest explains the last call's fault

-- ---- the law: some list agrees

-- a list that begins with the arguments that were given agrees, if its rest explains the fault
pub FitsArguments-append : (state : ArgumentsState) (all rest : List ByteString)
    → IfSome state.told (λ told. all ≡ told) → all ≡ state.given ++ rest → IfSome state.fault (Explains rest)
    → FitsArguments state all
FitsArguments-append state all rest told is explains = let seam = drop-append_seam state.given rest in
    let others : drop (length state.given) all ≡ rest = Prim.rw (is, seam) refl in
    record { told = told; given = Prim.rw others is; fault = Prim.rw others explains }

-- that a fault is explained has at most one proof
pub Explains-prop : (rest : List ByteString) (fault : FillError × ℕ) → IsProp (Explains rest fault)
Explains-prop rest (TooLong, size) = Prim.hlevel props
Explains-prop rest (NotPresent, size) = Prim.hlevel props

-- that a list agrees has at most one proof
pub FitsArguments-prop : (state : ArgumentsState) (all : List ByteString) → IsProp (FitsArguments state all)
FitsArguments-prop state all = Prim.hlevel (props, Explains-prop)

-- arguments that explain a fault
pub explanation : (fault : Option (FillError × ℕ)) → (rest : List ByteString) × IfSome fault (Explains rest)
explanation None = ([], tt)
explanation (Some (TooLong, size)) = (replicate (size + 1) 0 ∷ [], Prim.grind (arith, length-replicate))
explanation (Some (NotPresent, size)) = ([], refl)

-- the law of arguments that aren't in memory
pub untold_has_list : (state : ArgumentsState)
    → (all : List ByteString) × FitsArguments (record state { told = None }) all
untold_has_list state = let (rest, explains) = explanation state.fault in (
  state.given ++ rest,
  FitsArguments-append (record state { told = None }) (state.given ++ rest) rest tt refl explains,
)
