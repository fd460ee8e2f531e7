use Rattle.std.proofs.Common.{refl, ◌≡◌, ap, ◌∙◌, Ok, Err, true}
use Rattle.sum_engine.proofs.{CheckOneLemmas.check_opened, CheckOneLemmas.check_stops, CheckOneLemmas.not_read}
use Rattle.sum_engine.proofs.{CheckOneLemmas.not_asked, CheckOneLemmas.no_room, CheckOneLemmas.refused}
use Rattle.sum_engine.proofs.{OpenedNameLemmas.WasOpened, OpenedNameLemmas.was_opened}
use Rattle.sum_engine.{proofs.OpenedNameLemmas.still_open, proofs.WorldLemmas.reads_one}
use Rattle.sum_engine.{proofs.check.check_one.check_one.Goals.After-close, specs.check.Rules.labels_of}
use Rattle.sum_engine.{specs.check.Rules.rules_of, specs.private.CheckOne.RunsManifest}
use Rattle.sum_sources.specs.{inputs.Input.InputState, sources.WithStdin.is_dash}
use Rattle.sum_engine.proofs.check.check_one.check_one.Given as given
use Rattle.sum_engine.proofs.check.check_one.check_one.Goals as goal

-- ---- there was no memory to open the name

pub returns-in-Err-Memory-clause-behavior : goal.returns-in-Err-Memory-clause-behavior
returns-in-Err-Memory-clause-behavior g c =
    rw (← c.streams.view_is) (no_room _ _ _ _ _ (rw c.in-Err-Memory.field-0-is at c.in-Err-Memory.ensures.state))

pub returns-in-Err-Memory-clause-ahead : goal.returns-in-Err-Memory-clause-ahead
returns-in-Err-Memory-clause-ahead g c =
    rw (← c.streams.view_is) (not_asked _ _ _ _ _ (rw c.in-Err-Memory.field-0-is at c.in-Err-Memory.ensures.state))

-- ---- it could not be opened, and the line of its fault was written, or a prefix of it

pub returns-in-Err-Fault-clause-behavior : goal.returns-in-Err-Fault-clause-behavior
returns-in-Err-Fault-clause-behavior g c =
    let failed = rw c.in-Err-Fault.field-0-is at c.in-Err-Fault.ensures.state in
    let written = rw (c.in-Err-Fault.fault-is, c.shown_name-shown.ensures) at c.write_err.ensures.text in
    rw (← c.streams.view_is) (refused _ _ _ _ _ _ _ _ failed written)

-- nothing was read of a manifest that could not be opened
pub returns-in-Err-Fault-clause-ahead : goal.returns-in-Err-Fault-clause-ahead
returns-in-Err-Fault-clause-ahead g c =
    rw (← c.streams.view_is) (not_read _ _ _ _ _ _ _ _ (rw c.in-Err-Fault.field-0-is at c.in-Err-Fault.ensures.state))

pub returns-in-Err-Fault-clause-reads : goal.returns-in-Err-Fault-clause-reads
returns-in-Err-Fault-clause-reads g c =
    rw (← c.streams.view_is) (reads_one _ _ _ (Err _) (rw c.in-Err-Fault.field-0-is at c.in-Err-Fault.ensures.state) tt)

-- ---- it was opened, checked and closed

pub close-requires : goal.close-requires
close-requires g c =
    let start = c.new-checker.ensures.start.reader in
    let checked = rw (start, ← c.streams-2.view_is) at c.run_to_end-result.ensures in
    still_open _ c.in-Ok.ensures.file c.in-Ok.ensures.state checked.same checked.reads

-- the opening and the closing
opened : (g : given.Over) (c : After-close g) → WasOpened (c.run_to_end-result.result.0 ≡ Ok true)
    c.streams.inside.inputs c.open.new.self c.streams-2.inside.inputs c.close.new.self
    c.args.name.now (g.S.File.Input.state c.run_to_end-result.result.1)
opened g c =
    let checked = rw (← c.streams-2.view_is) at c.run_to_end-result.ensures in
    let start = c.new-checker.ensures.start.reader in
    let unread = ap (λ (s : InputState). s.reads) c.in-Ok.ensures.file in
    was_opened g.S.Source.tells c.in-Ok.ensures.file c.in-Ok.ensures.state (rw start at checked.same)
    ((rw (start, unread) at checked.manifest) refl) checked.reads c.close.ensures

-- and what its checker did between them
ran : (g : given.Over) (c : After-close g)
    → RunsManifest (rules_of c.args.settings (is_dash c.args.name.now))
    (labels_of c.args.settings c.args.tool.now c.args.name.now) (g.S.File.Input.state c.in-Ok.opened)
    (g.S.File.Input.state c.run_to_end-result.result.1)
    (record { inputs = c.open.new.self; outputs = c.streams.inside.outputs })
    (record { inputs = c.streams-2.inside.inputs; outputs = c.streams-2.inside.outputs }) c.run_to_end-result.result.0
ran g c =
    let made = c.new-checker.ensures in
    let settings = c.args.settings in
    let tool = c.args.tool.now in
    let rules = made.rules ∙ ap (rules_of settings) c.is_dash-from_stdin.ensures.value in
    let labels : c.new-checker.result.labels ≡ labels_of settings tool c.args.name.now =
    made.labels ∙ ap (λ shown. record { tool = tool; manifest = shown; report = settings.report })
    c.shown_name-shown.ensures in
    rw (rules, labels, made.start.reader, ← c.streams-2.view_is) at c.run_to_end-result.ensures

pub returns-clause-behavior : goal.returns-clause-behavior
returns-clause-behavior g c =
    let at = (goal.at.returns-clause-behavior g c).After-close in
    rw (← c.streams.view_is)
    (check_opened _ _ _ _ _ _ _ _ _ (ap (λ (s : InputState). s.reads) c.in-Ok.ensures.file) (opened g at) _ (ran g at))

pub returns-clause-ahead : goal.returns-clause-ahead
returns-clause-ahead g c =
    let at = (goal.at.returns-clause-ahead g c).After-close in
    rw (← c.streams.view_is)
    (check_stops _ _ _ _ _ _ _ _ _ (ap (λ (s : InputState). s.reads) c.in-Ok.ensures.file) (opened g at) _ (ran g at))

pub returns-clause-reads : goal.returns-clause-reads
returns-clause-reads g c = rw (← c.streams.view_is) (opened g (goal.at.returns-clause-reads g c).After-close).reads
