use Rattle.std.proofs.{Common.◌∙◌, Common.refl, Common.sym, Common.ap, Math.Logic.∥∥₁_elim, Math.Logic.∥∥₁_map}
use Rattle.std.proofs.{Props.props}
use Rattle.sum_sources.{proofs.WithStdinLemmas.kept_opening, proofs.WithStdinLemmas.kept_stdin}
use Rattle.sum_sources.{proofs.WithStdinLemmas.stdin_opened, proofs.WithStdinLemmas.file_opened}
use Rattle.sum_sources.{specs.sources.StdinOrFile.stdin_or_file_state}
use Rattle.sum_sources.proofs.sources.with_stdin.WithStdinSource.open_file.Goals as goal

-- ---- `-`

pub returns-then-is_dash-clause-parts : goal.returns-then-is_dash-clause-parts
returns-then-is_dash-clause-parts g c =
    rw (sym c.is_dash.ensures.value ∙ c.if-is_dash.true, c.from_stdin-opened.ensures)
    ((c.take.ensures.given, c.take.ensures.taken), refl)

pub invariant_of-self : goal.invariant_of-self
invariant_of-self g c = record {
  is = rw c.with_note-self.ensures.state (∥∥₁_map c.args.self.now.is (λ kept.
      kept_stdin kept c.args.name.now _ (sym c.is_dash.ensures.value ∙ c.if-is_dash.true) c.take.ensures.taken));
}

pub returns-then-is_dash-clause-file : goal.returns-then-is_dash-clause-file
returns-then-is_dash-clause-file g c = ∥∥₁_elim c.args.self.now.is (hlevel props) (λ kept.
    ap (stdin_or_file_state g.I.Input.state g.S.File.Input.state) c.from_stdin-opened.ensures
    ∙ rw c.next_file.ensures.file (stdin_opened g.S.Source.tells c.args.self.now.log
    (g.S.Source.state c.args.self.now.source) kept c.args.name.now c.take.result
    (sym c.is_dash.ensures.value ∙ c.if-is_dash.true) c.take.ensures.given c.take.ensures.unread))

-- ---- another name

pub invariant_of-self-in-Ok : goal.invariant_of-self-in-Ok
invariant_of-self-in-Ok g c = record {
  is = rw (c.with_note-self-in-Ok.ensures.state, c.in-Ok.ensures.state) (∥∥₁_map c.args.self.now.is (λ kept.
      kept_opening kept c.args.name.now _ (sym c.is_dash.ensures.value ∙ c.if-is_dash.false)));
}

pub invariant_of-self-in-Err-Fault : goal.invariant_of-self-in-Err-Fault
invariant_of-self-in-Err-Fault g c = record {
  is = rw (c.with_note-self-in-Err-Fault.ensures.state, rw c.in-Err-Fault.field-0-is at c.in-Err-Fault.ensures.state)
      (∥∥₁_map c.args.self.now.is (λ kept.
      kept_opening kept c.args.name.now _ (sym c.is_dash.ensures.value ∙ c.if-is_dash.false)));
}

pub returns-in-Ok-clause-file : goal.returns-in-Ok-clause-file
returns-in-Ok-clause-file g c = ∥∥₁_elim c.args.self.now.is (hlevel props) (λ kept.
    c.from_file.ensures ∙ c.in-Ok.ensures.file
    ∙ file_opened g.S.Source.tells c.args.self.now.log
    (g.S.Source.state c.args.self.now.source) kept c.args.name.now (sym c.is_dash.ensures.value ∙ c.if-is_dash.false))
