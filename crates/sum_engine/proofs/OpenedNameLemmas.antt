-- `check_one`: a name is opened, read and closed, and in between other calls may open names.
use Rattle.std.proofs.Common.{rules, refl, ◌≡◌, ◌∙◌, [], ◌∷◌, ◌++◌, ℕ, List, Ok, Err, None, Some, append_assoc}
use Rattle.std.proofs.lemmas.List.{map-append, Elements.All-cons}
use Rattle.sum_sources.{proofs.GaveLemmas.closed-seam, proofs.GaveLemmas.gave-seam, specs.declared.fault.Fault.Fault}
use Rattle.sum_sources.{specs.inputs.Input.Fits, specs.inputs.Input.IsSameInput, specs.inputs.Input.Content}
use Rattle.sum_sources.{specs.inputs.Input.InputState}
use Rattle.sum_sources.specs.sources.Source.{Opening, ToldAnswers, opened_file, state_with_opening, state_after_closing}
use Rattle.sum_sources.specs.sources.Source.{IsOpen, SourceState, times, result_at}
use Rattle.sum_engine.{proofs.WorldLemmas.agrees_open, proofs.WorldLemmas.opening_agrees, proofs.WorldLemmas.asks_one}
use Rattle.sum_engine.{specs.Behavior.World, specs.Behavior.answer_to}
use Rattle.sum_engine.specs.Execution.{Agrees, world_at, opened_names, OpensNames, IsAtEndIf, ReadsFile, ReadsToEndIf}

-- the name was opened; over the opening, some calls and the closing all was read as `ReadsToEndIf` says; and what was
-- read of it fits its answer, in each world that agrees
pub record WasOpened (Whole : Type 0) (a m b n : SourceState) (name : List ℕ) (t : InputState) : Type 0 where
  pub asks : OpensNames a m (name ∷ [])
  pub reads : ReadsToEndIf Whole a n
  pub gave : result_at n.openings name (times name (opened_names a)) ≡ Some (Ok t.reads)
  -- what the closing leaves as it is
  pub opened : opened_names n ≡ opened_names b
  pub refusals : n.refusals ≡ b.refusals
  pub agrees : (w : World) → Agrees w n → Agrees w b
  pub answer : (w : World) → Agrees w n
      → (c : Content) × (answer_to (world_at w a) name ≡ Ok c) × Fits t.reads c

-- a name was opened and closed, and between the two some calls opened other names
pub was_opened : {Whole : Type 0} (tells : ToldAnswers) {a m b n : SourceState} {name : List ℕ} {s t : InputState}
    → s ≡ opened_file tells a name → m ≡ state_with_opening a name None → IsSameInput s t → IsAtEndIf Whole t.reads
    → ReadsToEndIf Whole m b → n ≡ state_after_closing b t → WasOpened Whole a m b n name t
was_opened {Whole} tells {a} {m} {b} {n} {name} {s} {t} is opens same read reads closes =
    let before = a.openings in
    let later = reads.openings.0 in
    let unclosed : Opening = record { name = name; gave = None } in
    let closed : Opening = record { name = name; gave = Some (Ok t.reads) } in
    let now : b.openings ≡ before ++ unclosed ∷ later = reads.openings.1 ∙ rw (opens, append_assoc) refl in
    let then : n.openings ≡ before ++ closed ∷ later =
    rw (closes, now, same, is) (closed-seam before later unclosed t.reads) in
    let all = All-cons (ReadsFile Whole) closed later (Ok t.reads, refl, read) reads.openings.2 in
    record {
      asks = asks_one a m name None opens;
      reads = search (rules, all, then);
      opened = rw (then, now) (simp map-append);
      refusals = rw closes refl;
      agrees = λ w agrees. agrees_open before later closed agrees now then;
      gave = rw (then, gave-seam before later name (Some (Ok t.reads))) refl;
      answer = λ w agrees. opening_agrees agrees before later name (Ok t.reads) then;
    }

-- what was opened is still open after some calls
pub still_open : {Whole : Type 0} {tells : ToldAnswers} (a : SourceState) {m b : SourceState} {name : List ℕ}
    {s t : InputState} → s ≡ opened_file tells a name → m ≡ state_with_opening a name None → IsSameInput s t
    → ReadsToEndIf Whole m b → IsOpen tells b t
still_open a {name = name} is opens same reads =
    let still = gave-seam a.openings reads.openings.0 name None in search (rules, append_assoc, still)

-- ---- a fault of opening

-- the world's answer is the fault with which opening the name failed
pub fault_answer : (a m : SourceState) (name : List ℕ) (f : Fault) → m ≡ state_with_opening a name (Some (Err f))
    → (w : World) → Agrees w m → answer_to (world_at w a) name ≡ Err f
fault_answer a m name f opens w agrees = opening_agrees agrees a.openings [] name (Err f) (rw opens refl)
