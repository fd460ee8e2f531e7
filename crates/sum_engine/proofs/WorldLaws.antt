-- The law that some world agrees with what was read and what is told: by the law of sources.
use Rattle.std.proofs.Common.{arith, ◌≡◌, [], Option, None, Some, Result, Ok, Err, IfSome, refl}
use Rattle.sum_sources.specs.{declared.fault.Fault.Fault, declared.fault.Fault.TheVariants.NotFound, inputs.Input.Reads}
use Rattle.sum_sources.specs.{inputs.InputLaws.some_content}
use Rattle.sum_sources.specs.sources.Source.{Answers, ToldAnswers, TellsAll, result_at, FitsAnswer, GivesTold}
use Rattle.sum_sources.specs.sources.Source.{AnswerValue, SourceState}
use Rattle.sum_engine.specs.{Execution.Agrees, Laws.ToldAgree}

-- an answer that gave this
abbrev answer_of : Option (Result Reads Fault) → AnswerValue
answer_of None = Err NotFound
answer_of (Some (Ok r)) = Ok (some_content r.bytes r.phase).0
answer_of (Some (Err f)) = Err f

-- what an opening gave fits that answer
is_given : (gave : Option (Result Reads Fault)) → IfSome gave (FitsAnswer (answer_of gave))
is_given None = tt
is_given (Some (Ok r)) = let (c, of) = some_content r.bytes r.phase in (c, refl, of)
is_given (Some (Err f)) = refl

-- the answer that is told, if there is one
abbrev told_or : Option AnswerValue → Option (Result Reads Fault) → AnswerValue
told_or None gave = answer_of gave
told_or (Some told) gave = told

-- the world of these answers agrees, and has each that is told
pub told_agree : (tells : ToldAnswers) (a : SourceState) → GivesTold tells a → ToldAgree tells a
told_agree tells a gives = (
  record { answer = λ name k. told_or (tells a.told name k) (result_at a.openings name k); opened = [] },
  record { gave = λ name k. agrees (tells a.told name k) (result_at a.openings name k) (gives name k) },
  λ name k. is_told (tells a.told name k) (result_at a.openings name k),
)
  where
    -- it agrees, whether an answer is told or not
    agrees : (told : Option AnswerValue) (gave : Option (Result Reads Fault))
        → IfSome told (λ told. IfSome gave (FitsAnswer told)) → IfSome gave (FitsAnswer (told_or told gave))
    agrees told gave fits = grind (arith, is_given gave)

    -- it has the answer that is told
    is_told : (told : Option AnswerValue) (gave : Option (Result Reads Fault)) → IfSome told
        (λ t. told_or told gave ≡ t)
    is_told told gave = grind arith

-- answers that are all told are a world that agrees
pub all_agree : (tells : ToldAnswers) (a : SourceState) (answer : Answers) → ToldAgree tells a
    → TellsAll tells a.told answer → Agrees (record { answer = answer; opened = [] }) a
all_agree tells a answer (w, agrees, are) all = record {
  gave = λ name k. let is : w.answer name k ≡ answer name k = rw (all name k) at (are name k) in
      rw is at (agrees.gave name k);
}
