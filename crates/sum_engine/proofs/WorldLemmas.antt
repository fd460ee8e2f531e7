-- Names opened one after another, and the worlds that agree with one call after another.
use Rattle.std.proofs.Common.{rules, ◌≡◌, ap, refl, ℕ, zero, suc, List, [], ◌∷◌, ◌++◌, Option, None, Some, Result}
use Rattle.std.proofs.Common.{IfSome, IfOk, append_assoc, append-nil, bytes_eq}
use Rattle.std.proofs.lemmas.List.Elements.{All-nil, All-cons, All-append, All-weaker}
use Rattle.std.{proofs.lemmas.List.map-append, proofs.lemmas.Result.IfOk-weaker, specs.Option.option_flatten}
use Rattle.std.{specs.Prelude.slice_get}
use Rattle.sum_sources.{proofs.GaveLemmas.true_or_false, proofs.GaveLemmas.gave-append, proofs.GaveLemmas.gave-seam}
use Rattle.sum_sources.{specs.declared.fault.Fault.Fault, specs.inputs.Input.Reads}
use Rattle.sum_sources.specs.sources.Source.{Opening, FitsAnswer, state_with_opening, results_of, names_of, times}
use Rattle.sum_sources.specs.sources.Source.{SourceState}
use Rattle.sum_engine.specs.{Behavior.World, Behavior.world_after, Execution.OpensNames, Execution.Agrees}
use Rattle.sum_engine.specs.{Execution.world_at, Execution.IsAtEndIf, Execution.ReadsFile, Execution.ReadsToEndIf}

-- ---- names asked

-- no name was opened
pub asks_none : (a : SourceState) → OpensNames a a []
asks_none a = search (rules, append-nil)

-- some names were opened, and then others
pub asks_then : {a b c : SourceState} {names more : List (List ℕ)} → OpensNames a b names → OpensNames b c more
    → OpensNames a c (names ++ more)
asks_then h k = search (rules, append_assoc)

-- one name was opened
pub asks_one : (a b : SourceState) (name : List ℕ) (gave : Option (Result Reads Fault)) → b
    ≡ state_with_opening a name gave
    → OpensNames a b (name ∷ [])
asks_one a b name gave is = search (rules, map-append)

-- ---- what was read

-- what was read to its end if G holds was read to its end if H holds, from which G follows
pub reads_weaker : {G H : Type 0} {a b : SourceState} → (H → G) → ReadsToEndIf G a b → ReadsToEndIf H a b
reads_weaker {G = G} {H = H} f h =
    let one : (o : Opening) → ReadsFile G o → ReadsFile H o =
    λ o (gave, is, read). (gave, is, IfOk-weaker gave _ _ (λ r h. (h.0, λ x. h.1 (f x))) read) in
    let all = All-weaker (ReadsFile G) (ReadsFile H) one h.openings.0 h.openings.2 in search (rules, all)

-- nothing was opened, so nothing was to be read
pub reads_none : {Whole : Type 0} (a : SourceState) → ReadsToEndIf Whole a a
reads_none {Whole} a = let none = All-nil (ReadsFile Whole) in search (rules, append-nil, none)

-- what two calls opened, one after the other, was read to its end
pub reads_then : {G H K : Type 0} {a b c : SourceState} → (K → G × H) → ReadsToEndIf G a b → ReadsToEndIf H b c
    → ReadsToEndIf K a c
reads_then {K = K} {a = a} {b = b} {c = c} f g h =
    let g : ReadsToEndIf K a b = reads_weaker (λ x. (f x).0) g in
    let h : ReadsToEndIf K b c = reads_weaker (λ x. (f x).1) h in
    let all = All-append (ReadsFile K) g.openings.0 h.openings.0 g.openings.2 h.openings.2 in
    search (rules, append_assoc, all)

-- a name was opened, which gave this
pub reads_one : {Whole : Type 0} (a b : SourceState) (name : List ℕ) (gave : Result Reads Fault)
    → b ≡ state_with_opening a name (Some gave) → IfOk gave (IsAtEndIf Whole) → ReadsToEndIf Whole a b
reads_one {Whole} a b name gave is read =
    let o : Opening = record { name = name; gave = Some gave } in
    let all = All-cons (ReadsFile Whole) o [] (gave, refl, read) (All-nil (ReadsFile Whole)) in search (rules, all)

-- ---- worlds

-- the world after a call is the one after the names that the call opened
pub world_at_after : (w : World) (a b : SourceState) (names : List (List ℕ)) → OpensNames a b names
    → world_at w b ≡ world_after (world_at w a) names
world_at_after w a b names asks = ap (λ opened. record w { opened = opened }) asks.opened

-- what the openings of a name gave
abbrev Gave : Type 0
Gave = List (Option (Result Reads Fault))

-- what opening k gave, if it is known
abbrev at : Gave → ℕ → Option (Result Reads Fault)
at gs k = option_flatten (slice_get gs k)

-- what holds of an opening holds before later ones
gave-front : (P : Result Reads Fault → Type 0) (gs more : Gave) (k : ℕ) → IfSome (at (gs ++ more) k) P
    → IfSome (at gs k) P
gave-front P [] more k h = tt
gave-front P (g ∷ gs) more zero h = h
gave-front P (g ∷ gs) more (suc k) h = gave-front P gs more k h

-- it holds as long as one of them is open
gave-open : (P : Result Reads Fault → Type 0) (gs more : Gave) (g : Option (Result Reads Fault)) (k : ℕ)
    → IfSome (at (gs ++ g ∷ more) k) P → IfSome (at (gs ++ None ∷ more) k) P
gave-open P [] more g zero h = tt
gave-open P [] more g (suc k) h = h
gave-open P (x ∷ gs) more g zero h = h
gave-open P (x ∷ gs) more g (suc k) h = gave-open P gs more g k h

-- a world that agrees with what was read after a call agrees with what was read before it
pub agrees_before : {Whole : Type 0} {w : World} {b c : SourceState} → Agrees w c → ReadsToEndIf Whole b c → Agrees w b
agrees_before {w = w} {b = b} {c = c} h reads = record {
  gave = λ name k.
      let both = rw (reads.openings.1, gave-append b.openings reads.openings.0 name) at (h.gave name k) in
      gave-front (FitsAnswer (w.answer name k)) (results_of b.openings name) (results_of reads.openings.0 name) k both;
}

-- a world that agrees with what was read after a file was closed agrees with what was read before
pub agrees_open : {w : World} {b c : SourceState} (before later : List Opening) (o : Opening) → Agrees w c
    → b.openings ≡ before ++ record o { gave = None } ∷ later → c.openings ≡ before ++ o ∷ later
    → Agrees w b
agrees_open {w} {b} {c} before later o h was is = record {
  gave = λ name k.
      let here = rw (is, gave-append before (o ∷ later) name) at (h.gave name k) in
      rw (was, gave-append before (record o { gave = None } ∷ later) name) (true_or_false (bytes_eq o.name name)
      (λ same. rw same (gave-open (FitsAnswer (w.answer name k)) (results_of before name)
      (results_of later name) o.gave k
      (rw same at here)))
      (λ apart. rw apart (rw apart at here)));
}

-- ---- what an opening gave

-- what an opening gave fits the answer of each world that agrees
pub opening_agrees : {w : World} {b : SourceState} → Agrees w b → (before later : List Opening) (name : List ℕ)
    (gave : Result Reads Fault) → b.openings ≡ before ++ record { name = name; gave = Some gave } ∷ later
    → FitsAnswer (w.answer name (times name (names_of before))) gave
opening_agrees {w} {b} h before later name gave is =
    rw (is, gave-seam before later name (Some gave)) at (h.gave name (times name (names_of before)))
