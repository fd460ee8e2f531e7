use Rattle.std.proofs.Common.{◌≡◌, ◌∙◌, ◌++◌, ◌∷◌, [], None, List, ℕ, refl, ap, sym, arith}
use Rattle.std.{proofs.lemmas.List.map-append, specs.Prelude.MatchBool}
use Rattle.sum_sources.{proofs.GaveLemmas.is_open_last, proofs.GaveLemmas.names-closed}
use Rattle.sum_sources.specs.declared.sources.stdin_or_file.StdinOrFile.{StdinOrFile}
use Rattle.sum_sources.specs.declared.sources.stdin_or_file.StdinOrFile.TheVariants.{File, Stdin}
use Rattle.sum_sources.specs.inputs.{Input.InputState, Stdin.StdinValue, Stdin.given_input, Stdin.stdin_after_put_back}
use Rattle.sum_sources.specs.inputs.{Stdin.stdin_after_taking}
use Rattle.sum_sources.specs.sources.{StdinOrFile.is_stdin, WithStdin.parts_after_closing, WithStdin.TakesStdin}
use Rattle.sum_sources.specs.sources.{WithStdin.answer_of_both, WithStdin.is_dash, Source.SourceState}
use Rattle.sum_sources.specs.sources.{Source.state_with_opening, Source.names_of}
use Rattle.sum_sources_tests.proofs.standard_input.visit.Goals as goal

-- what was opened last is open
pub close_file-requires : goal.close_file-requires
close_file-requires g c =
    is_open_last (answer_of_both g.S.Source.tells) _ _ _ _ _ c.in_ok-file.ensures.file c.in_ok-file.ensures.state refl

-- standard input was opened and closed, or a file was
closes : {I F : Type 0} (state : F → InputState) (p : StdinOrFile I F) (name : List ℕ) (old mid new : StdinValue I)
    (a m n : SourceState) → is_dash name ≡ is_stdin p
    → MatchBool (is_dash name) (TakesStdin old mid p × (m ≡ a)) ((mid ≡ old) × (m ≡ state_with_opening a name None))
    → (new, n) ≡ parts_after_closing state p mid m
    → MatchBool (is_dash name) ((new ≡ stdin_after_put_back (stdin_after_taking old) (given_input old)) × (n ≡ a))
    ((new ≡ old) × (names_of n.openings ≡ names_of a.openings ++ name ∷ []))
closes state (Stdin given log) name old mid new a m n is opens back =
    let ((gives, takes), same) = rw is at opens in
    rw is (ap (λ x. x.0) back ∙ rw (gives, takes) refl, ap (λ x. x.1) back ∙ same)
closes state (File f) name old mid new a m n is opens back =
    let (same, opened) = rw is at opens in
    rw is (
      ap (λ x. x.0) back ∙ same,
      ap (λ x. names_of x.1.openings) back ∙ names-closed m.openings _ _ _ ∙ ap (λ s. names_of s.openings) opened
          ∙ map-append _ a.openings _,
    )

pub returns : goal.returns
returns g c =
    let file = c.in_ok-file in
    let name = ap (λ s. is_dash s.name) file.ensures.file in
    closes g.S.File.Input.state file.file.input c.args.name.now _ _ _ _ _ _ (sym name ∙ file.file.named)
    (grind (arith, file.ensures.parts)) c.close_file.ensures.parts
