-- What was written and opened, if a behavior was performed: all of it or, after a stop, a prefix.
use Rattle.std.proofs.Common.{◌≡◌, ◌∙◌, true, List, ◌∷◌, ◌++◌, Result, Ok, Err, ap, filter_map, flat_map, sym}
use Rattle.std.{proofs.lemmas.Grind.flat_map-append, proofs.lemmas.List.Elements.filter_map-append, specs.Prelude.OnErr}
use Rattle.std.{specs.Prelude.OnOk}
use Rattle.digest_kinds.specs.Bytes.{ByteString}
use Rattle.sum_engine.proofs.BehaviorLemmas.{kinds, events_extend}
use Rattle.sum_engine.specs.{Behavior.Behavior, Behavior.Event, Behavior.Step, Behavior.names_in, Streams.StreamsState}
use Rattle.sum_engine.specs.Execution.{PerformsSteps, err_event, opened_name, opened_names, out_event}
use Rattle.sum_lines.{specs.sinks.Output.written_byte}
use Rattle.theorems.specs.WritesTexts.{WritesTexts}
use Rattle.sum_settings.specs.declared.stop.Stop.{Stop, TheVariants.Memory, TheVariants.Write}

-- the bytes of some kind of events, and then of others
bytes-append : (kind : Event → _) (front rest : List Event)
    → filter_map written_byte (filter_map kind (front ++ rest))
    ≡ filter_map written_byte (filter_map kind front) ++ filter_map written_byte (filter_map kind rest)
bytes-append kind front rest =
    ap (filter_map written_byte) (filter_map-append kind front rest) ∙ filter_map-append written_byte
    (filter_map kind front) (filter_map kind rest)

-- what a call wrote that performed a behavior
pub texts_written : {A : Type 0} (all : Behavior) (x : A) (a b : StreamsState) (r : Result A Stop)
    → PerformsSteps all.steps x a b r → WritesTexts all x a b r
texts_written all x a b (Ok y) did = let (asked, err, out) = events_extend all a b did.1 in (did.0, out, err)
texts_written all x a b (Err Write) (front, rest, are, did) =
    let (names, err, out) = kinds all.steps in (
      _,
      _,
      _,
      _,
      sym out ∙ ap (λ es. filter_map written_byte (filter_map out_event es)) are ∙ bytes-append out_event front rest,
      sym err ∙ ap (λ es. filter_map written_byte (filter_map err_event es)) are ∙ bytes-append err_event front rest,
      did.out.written,
      did.err.written,
    )
texts_written all x a b (Err Memory) did =
    let (asked, err, out) = events_extend (record { steps = did.done; good = true }) a _ did.happened in (
      _,
      _,
      _,
      _,
      ap (flat_map (λ (s : Step). s.out)) did.are ∙ flat_map-append (λ (s : Step). s.out) did.done
          (did.next ∷ did.later),
      ap (flat_map (λ (s : Step). s.err)) did.are ∙ flat_map-append (λ (s : Step). s.err) did.done
          (did.next ∷ did.later),
      out,
      err,
    )

-- the names that were opened
pub all_opened : {A : Type 0} (all : Behavior) (x : A) (a b : StreamsState) (r : Result A Stop)
    → PerformsSteps all.steps x a b r → OnOk r (opened_names b.inputs ≡ opened_names a.inputs ++ names_in all)
all_opened all x a b (Ok y) did = (events_extend all a b did.1).0.opened
all_opened all x a b (Err stop) did = tt

-- after a stop, the first of them
pub first_opened : {A : Type 0} (all : Behavior) (x : A) (a b : StreamsState) (r : Result A Stop)
    → PerformsSteps all.steps x a b r → OnErr r ((names later : List ByteString) × (names_in all ≡ names ++ later)
    × (opened_names b.inputs ≡ opened_names a.inputs ++ names))
first_opened all x a b (Ok y) did = tt
first_opened all x a b (Err Write) (front, rest, are, did) =
    let (names, err, out) = kinds all.steps in
    (_, _, sym names ∙ ap (filter_map opened_name) are ∙ filter_map-append opened_name front rest, did.inputs.opened)
first_opened all x a b (Err Memory) did =
    let (asked, err, out) = events_extend (record { steps = did.done; good = true }) a _ did.happened in (
      _,
      _,
      ap (flat_map (λ (s : Step). s.names)) did.are ∙ flat_map-append (λ (s : Step). s.names) did.done
          (did.next ∷ did.later),
      asked.opened,
    )
