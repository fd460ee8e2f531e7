-- The law of sources, with its proofs: what an opening gave fits the answer, if one is told.
use Rattle.std.proofs.Common.{◌≡◌, ◌∙◌, ℕ, Bool, true, false, List, [], ◌∷◌, Option, None, Some, Result, Ok, Err, refl}
use Rattle.std.proofs.Common.{IfSome, ap, sym, codes, bytes_eq, arith}
use Rattle.std.{proofs.Math.Logic.∥∥₁_elim, proofs.Props.props, proofs.lemmas.List.append_cancel_left}
use Rattle.std.{proofs.lemmas.Slice.Eq.bytes_eq-Decides, specs.Coded.×_prop}
use std.HLevel.{Π_prop, Σ_prop_path}
use Rattle.digest_kinds.specs.Bytes.{ByteString}
use Rattle.sum_sources.specs.inputs.Input.{Content, Phase, Unfinished, Ended, Past, Reads, InputState, IsReadTo, Fits}
use Rattle.sum_sources.specs.sources.Source.{AnswerValue, ToldAnswers, SourceState, Opening, FitsAnswer, GivesTold}
use Rattle.sum_sources.specs.sources.Source.{results_of, result_at}
use Rattle.sum_sources.specs.sources.SourceLog.{no_answer}
use Rattle.sum_sources.specs.{sources.WithStdin.is_dash, sources.WithStdin.other_openings}
use Rattle.sum_sources.specs.{sources.WithStdin.answer_of_both, sources.WithStdin.with_stdin_state}
use Rattle.sum_sources.specs.{sources.WithStdin.IsSoundWithStdin, Fault.Fault, inputs.Stdin.StdinValue}

-- a source that isn't in memory has it
pub untold_gives : (s : SourceState) → GivesTold no_answer (record s { told = [] })
untold_gives s name k = tt

-- it has one proof at most
pub IsReadTo-prop : (phase : Phase) (bytes : ByteString) (content : Content) → IsProp (IsReadTo phase bytes content)
IsReadTo-prop Unfinished bytes content =
    λ p q. Σ_prop_path (λ rest. Prim.hlevel props) (append_cancel_left bytes p.0 q.0 (sym p.1 ∙ q.1))
IsReadTo-prop (Ended ending) bytes content = Prim.hlevel props
IsReadTo-prop Past bytes content = Prim.hlevel props

pub FitsAnswer-prop : (answer : AnswerValue) (result : Result Reads Fault) → IsProp (FitsAnswer answer result)
FitsAnswer-prop answer (Ok r) p q =
    let flat : (c : Content) × ((answer ≡ Ok c) × Fits r c) → FitsAnswer answer (Ok r) = λ x. (x.0, x.1.0, x.1.1) in
    let same : p.0 ≡ q.0 = let both = sym p.1 ∙ q.1 in cc in
    ap flat (Σ_prop_path (λ c. ×_prop (Prim.hlevel props) (IsReadTo-prop r.phase r.bytes c)) same)
FitsAnswer-prop answer (Err f) p q = Prim.hlevel props

pub gives-prop : (told : Option AnswerValue) (gave : Option (Result Reads Fault))
    → IsProp (IfSome told (λ told. IfSome gave (FitsAnswer told)))
gives-prop None gave = Prim.hlevel props
gives-prop (Some told) None = Prim.hlevel props
gives-prop (Some told) (Some gave) = FitsAnswer-prop told gave

pub GivesTold-prop : (tells : ToldAnswers) (s : SourceState) → IsProp (GivesTold tells s)
GivesTold-prop tells s = Π_prop λ name. Π_prop λ k. gives-prop (tells s.told name k) (result_at s.openings name k)

-- what another name than `-` gave, of openings without those of `-`
pub other_openings-results : (os : List Opening) (name : ByteString) → is_dash name ≡ false
    → results_of (other_openings os) name ≡ results_of os name
other_openings-results [] name apart = refl
other_openings-results (o ∷ os) name apart = by (other_openings-results os name apart) (is_dash o.name) refl
  where
    by : results_of (other_openings os) name ≡ results_of os name → (b : Bool) → is_dash o.name ≡ b
        → results_of (other_openings (o ∷ os)) name ≡ results_of (o ∷ os) name
    by later true is =
        let other : bytes_eq o.name name ≡ false = rw (← (bytes_eq-Decides (codes "-") o.name).0 is) apart in
        rw (is, other) later
    by later false is = grind (arith, later)

-- it gave the same in both
pub results-both : (os fs : List Opening) → other_openings os ≡ other_openings fs → (name : ByteString)
    → is_dash name ≡ false → results_of os name ≡ results_of fs name
results-both os fs same name apart =
    sym (other_openings-results os name apart) ∙ ap (λ (xs : List Opening). results_of xs name) same
    ∙ other_openings-results fs name apart

-- the law of both
pub with_stdin_gives : {I : Type 0} (state_of : I → InputState) (tells : ToldAnswers) (first stdin : StdinValue I)
    (log source : SourceState)
    → ∥ IsSoundWithStdin state_of first stdin log.openings source.openings ∥₁ → GivesTold tells source
    → GivesTold (answer_of_both tells) (with_stdin_state state_of first log source)
with_stdin_gives state_of tells first stdin log source kept law =
    ∥∥₁_elim kept (GivesTold-prop (answer_of_both tells) (with_stdin_state state_of first log source))
    (λ kept name k. by name k kept (is_dash name) refl)
  where
    by : (name : ByteString) (k : ℕ) → IsSoundWithStdin state_of first stdin log.openings source.openings
        → (b : Bool) → is_dash name ≡ b
        → IfSome (answer_of_both tells (with_stdin_state state_of first log source).told name k)
        (λ told. IfSome (result_at log.openings name k) (FitsAnswer told))
    by name k kept true is = rw (← (bytes_eq-Decides (codes "-") name).0 is) (kept.given k)
    by name k kept false is = rw (is, results-both log.openings source.openings kept.files name is) (law name k)
