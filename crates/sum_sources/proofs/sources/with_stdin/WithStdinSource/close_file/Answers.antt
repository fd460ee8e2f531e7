use Rattle.std.proofs.{Common.◌≡◌, Common.◌∙◌, Common.ap, Common.true, Common.false, Math.Logic.∥∥₁_elim}
use Rattle.std.proofs.{Math.Logic.∥∥₁_map, Props.props}
use Rattle.sum_sources.proofs.WithStdinLemmas.{kept_closing, kept_back, open_there, stdin_gives}
use Rattle.sum_sources.specs.{inputs.InputLaws.opened_has_content, sources.StdinOrFile.is_stdin}
use Rattle.sum_sources.specs.{sources.StdinOrFile.stdin_or_file_state, sources.WithStdin.is_dash}
use Rattle.sum_sources.proofs.sources.with_stdin.WithStdinSource.close_file.Goals as goal

-- standard input was put back
pub invariant_of-self : goal.invariant_of-self
invariant_of-self g c =
    let file = stdin_or_file_state g.I.Input.state g.S.File.Input.state c.args.file.input in
    let dash : is_dash file.name ≡ true = c.args.file.named ∙ ap is_stdin c.in-Stdin.is in
    let has = opened_has_content g.I.Input.state g.S.File.Input.state g.met.I.Input.has_content
    g.met.S.File.Input.has_content c.args.file.input in
    record {
      is = rw (c.with_note-self.ensures.state, c.put_back.ensures.state) (∥∥₁_map c.args.self.now.is (λ kept.
          kept_back kept file.name file.nth file.reads c.in-Stdin.given dash c.requires.is_open
          (stdin_gives g.S.Source.tells c.args.self.now.log
          (g.S.Source.state c.args.self.now.source) kept file has dash c.requires)));
    }

-- a file of the source is open in the source
pub close_file-requires : goal.close_file-requires
close_file-requires g c =
    let file = stdin_or_file_state g.I.Input.state g.S.File.Input.state in
    let other : is_dash (file c.args.file.input).name ≡ false = c.args.file.named ∙ ap is_stdin c.in-File.is in
    rw c.in-File.is at (∥∥₁_elim c.args.self.now.is (hlevel props) (λ kept.
    open_there g.S.Source.tells c.args.self.now.log
    (g.S.Source.state c.args.self.now.source) kept (file c.args.file.input) other c.requires))

-- a file of the source is closed in the source
pub invariant_of-self-in-File : goal.invariant_of-self-in-File
invariant_of-self-in-File g c =
    let file = stdin_or_file_state g.I.Input.state g.S.File.Input.state in
    let other : is_dash (file c.args.file.input).name ≡ false = c.args.file.named ∙ ap is_stdin c.in-File.is in
    record {
      is = rw (c.with_note-self.ensures.state, c.close_file.ensures.state, c.in-File.is)
          (∥∥₁_map c.args.self.now.is (λ kept.
          kept_closing kept (g.S.File.Input.state c.in-File.file).name (g.S.File.Input.state c.in-File.file).nth
          (g.S.File.Input.state c.in-File.file).reads (rw c.in-File.is at other)));
    }
