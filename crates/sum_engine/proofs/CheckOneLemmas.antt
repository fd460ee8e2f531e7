-- `check_one`: a manifest is opened, its checker runs to its end, and it is closed.
use Rattle.std.proofs.Common.{rules, ◌≡◌, ◌≢◌, ℕ, Bool, false, List, [], ◌∷◌, Result, Ok, Err, None, Some, refl, subst}
use Rattle.std.proofs.Common.{length, codes, if◌then◌else◌, arith}
use Rattle.std.{proofs.lemmas.Option.slice_get_past, specs.Prelude.IfErr}
use Rattle.sum_sources.{proofs.GaveLemmas.gave-times, specs.declared.fault.Fault.Fault, specs.inputs.Input.empty_reads}
use Rattle.sum_sources.{specs.inputs.Input.Content, specs.inputs.Input.InputState, specs.inputs.Input.Fits}
use Rattle.sum_sources.{specs.inputs.Input.clip}
use Rattle.sum_sources.specs.sources.{Source.state_with_opening, Source.results_of, Source.result_at, Source.times}
use Rattle.sum_sources.specs.sources.{Source.AnswerValue, Source.SourceState, WithStdin.is_dash}
use Rattle.sum_lines.proofs.EventLemmas.{Gets-none}
use Rattle.sum_engine.proofs.{BehaviorLemmas.Performs-step, BehaviorLemmas.Performs-refused}
use Rattle.sum_engine.proofs.{CheckLinesLemmas.runs_behind, CheckLinesLemmas.runs_performs}
use Rattle.sum_engine.proofs.{ExecutionLemmas.Happened-by, ExecutionLemmas.kept_performs, OpenedNameLemmas.WasOpened}
use Rattle.sum_engine.proofs.{OpenedNameLemmas.fault_answer, WorldLemmas.asks_one, WorldLemmas.world_at_after}
use Rattle.sum_engine.specs.Behavior.{World, answer_to, world_after, Behavior, Step, events_of}
use Rattle.sum_engine.specs.{Execution.Agrees, Execution.opened_names, Execution.world_at, Execution.Happened}
use Rattle.sum_engine.specs.{Execution.Performs, Execution.RefusesMemory, Streams.BothOutputs, Streams.StreamsState}
use Rattle.sum_engine.specs.{Streams.WritesAndReturns}
use Rattle.sum_engine.specs.{ToolLines.name_fault_line}
use Rattle.sum_engine.specs.{check.CheckOne.check_behavior_by, check.CheckOne.check_behavior}
use Rattle.sum_engine.specs.{check.CheckOne.StopsAtLine, check.CheckOne.content_behavior, check.Checker.behavior_from}
use Rattle.sum_engine.specs.{check.Judge.all_verdicts, check.Rules.rules_of}
use Rattle.sum_engine.specs.{check.Rules.labels_of, private.CheckOne.RunsManifest, private.CheckOne.RunsTo}
use Rattle.sum_settings.specs.declared.{settings.CheckSettings.CheckSettings, stop.Stop.Stop}
use Rattle.sum_settings.specs.declared.{stop.Stop.TheVariants.Memory}

-- the step that opens a manifest of that name
abbrev pub opening : List ℕ → Step
opening name = record { names = name ∷ []; err = []; out = []; manifest_left = 0 }

-- the name that reports show
abbrev pub shown : List ℕ → List ℕ
shown name = if is_dash name then codes "standard input" else name

-- what a call did stays after a closing, which opens nothing and is refused no memory
runs_closed : (all : Behavior) (c : Content) (k : ℕ) (a b : StreamsState) (n : SourceState) (x : Result Bool Stop)
    → opened_names n ≡ opened_names b.inputs → n.refusals ≡ b.inputs.refusals
    → RunsTo all c k a b x → RunsTo all c k a (record b { inputs = n }) x
runs_closed all c k a b n (Ok good) asked refusals ran =
    kept_performs all.steps all.good a b n (Ok good) asked refusals ran
runs_closed all c k a b n (Err stop) asked refusals ran =
    let stopped = kept_performs (ran.next ∷ []) (tt {0}) ran.between b n (Err stop) asked refusals ran.stopped in
    search (ran, stopped)

-- the manifest of that name is checked, from the streams a
module _ (settings : CheckSettings) (tool name : List ℕ) (a : StreamsState) where
  -- what a call that checks this manifest performs
  abbrev Performed : StreamsState → Result Bool Stop → Type 0
  Performed b x = Performs (λ w. check_behavior settings tool w name) (λ g. g) a b x

  -- the same streams with other inputs
  abbrev from_inputs : SourceState → StreamsState
  from_inputs inputs = record a { inputs = inputs }

  -- where a call stopped
  abbrev StoppedAt : StreamsState → Result Bool Stop → Type 0
  StoppedAt b x = IfErr x (λ stop. StopsAtLine stop (λ w. check_behavior settings tool w name) name a b)

  -- it was opened, run and closed: the opening happened, and the behavior of the content comes behind it, or a stop
  module _ {Whole : Type 0} (m n : SourceState) (s t : InputState) (b : StreamsState) (fresh : s.reads ≡ empty_reads)
      (o : WasOpened Whole a.inputs m b.inputs n name t)
    where
      -- the checker ran to its end, and returned this
      abbrev Ran : Result Bool Stop → Type 0
      Ran x = RunsManifest (rules_of settings (is_dash name)) (labels_of settings tool name) s t (from_inputs m) b x

      -- the opening happened
      did : Happened a (from_inputs m) (events_of (opening name))
      did = Happened-by (name ∷ []) [] [] o.asks Gets-none Gets-none

      -- the behavior of this content, behind the opening
      abbrev all : Content → World → Behavior
      all c w =
          let rules = rules_of settings (is_dash name) in
          content_behavior rules (labels_of settings tool name) (clip c) (all_verdicts rules (world_at w m) (clip c))

      -- so the call did what the checker did, behind the opening
      ran : (x : Result Bool Stop) → Ran x → (w : World) → Agrees w n → (c : Content)
          → answer_to (world_at w a.inputs) name ≡ Ok c
          → RunsTo (check_behavior settings tool (world_at w a.inputs) name) (clip c) (length t.reads.bytes) a
          (record b { inputs = n }) x
      ran x run w agrees c answer =
          let (d, is, of) = o.answer w agrees in
          let same : d ≡ c = search (rules, is, answer) in
          let ran = (rw fresh at run.runs) refl c (subst (λ c. Fits t.reads c) same of) w (o.agrees w agrees) in
          let k = length t.reads.bytes in
          let rest = all c w in
          rw (answer, ← world_at_after w a.inputs m (name ∷ []) o.asks)
          (runs_closed (behavior_from (opening name) rest) (clip c) k a b n x o.opened o.refusals
          (runs_behind b (opening name) rest (clip c) k x did ran))

      -- it performed the whole behavior, if the checker performed that of the content
      pub check_opened : (x : Result Bool Stop) → Ran x → Performed (record b { inputs = n }) x
      check_opened x run = λ w agrees.
          let (c, answer, of) = o.answer w agrees in
          runs_performs (check_behavior settings tool (world_at w a.inputs) name) (clip c) (length t.reads.bytes) a
          (record b { inputs = n }) x (ran x run w agrees c answer)

      -- and stopped where the checker did
      pub check_stops : (x : Result Bool Stop) → Ran x → StoppedAt (record b { inputs = n }) x
      check_stops (Ok good) run = tt {0}
      check_stops (Err stop) run = λ w agrees c answer r gave.
          let read : t.reads ≡ r = search (rules, o.gave, gave) in
          rw (← read) (ran (Err stop) run w agrees c answer)

  -- the manifest could not be opened, and the line of its fault was written, or a prefix of it
  pub refused : (m : SourceState) (f : Fault) (outputs : BothOutputs) (x : Result Bool Stop)
      → m ≡ state_with_opening a.inputs name (Some (Err f))
      → WritesAndReturns a.outputs outputs (name_fault_line tool (shown name) f) [] false x
      → Performed (record a { inputs = m; outputs = outputs }) x
  refused m f outputs x opens said =
      Performs-step (λ w. check_behavior settings tool w name) (λ g. g) false a
      (record a { inputs = m; outputs = outputs }) (asks_one a.inputs m name (Some (Err f)) opens)
      (λ w agrees. let answer = fault_answer a.inputs m name f opens w agrees in rw answer refl) said

  -- nothing was read of a manifest that could not be opened
  pub not_read : (m : SourceState) (f : Fault) (outputs : BothOutputs) (x : Result Bool Stop)
      → m ≡ state_with_opening a.inputs name (Some (Err f)) → StoppedAt (record a { inputs = m; outputs = outputs }) x
  not_read m f outputs (Ok good) opens = tt {0}
  not_read m f outputs (Err stop) opens = λ w agrees c answer r gave.
      let fault = fault_answer a.inputs m name f opens w agrees in cc

  -- there was no memory to open the manifest
  pub no_room : (m : SourceState) → RefusesMemory a.inputs m → Performed (from_inputs m) (Err Memory)
  no_room m refused =
      Performs-refused (λ w. check_behavior settings tool w name) (λ g. g) a (from_inputs m)
      (λ w. begins (world_after w (name ∷ [])) (answer_to w name)) refused refl
    where
      -- checking begins with a step, which opens the name
      begins : (w : World) (answer : AnswerValue) → (next : Step) × (rest : List Step) × ((check_behavior_by
          (rules_of settings (is_dash name)) (labels_of settings tool name) name w answer).steps ≡ next ∷ rest)
          × (next.names ≢ [])
      begins w (Err f) = (_, [], refl, λ none. cc)
      begins w (Ok c) = (opening name, _, refl, λ none. cc)

  -- so it gave nothing
  pub not_asked : (m : SourceState) → RefusesMemory a.inputs m → StoppedAt (from_inputs m) (Err Memory)
  not_asked m refused = λ w agrees c answer r gave.
      let past = slice_get_past (results_of a.inputs.openings name) (times name (opened_names a.inputs))
      (rw gave-times (omega arith)) in
      let none : result_at a.inputs.openings name (times name (opened_names a.inputs)) ≡ None = rw past refl in
      let some = rw refused at gave in
      cc
