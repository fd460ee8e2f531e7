use Rattle.std.{proofs.Common.◌∷◌, proofs.Common.[], proofs.Common.inl, proofs.Common.inr}
use Rattle.std.{proofs.lemmas.Result.on_ok_weaker}
use Rattle.sum_engine.specs.{Behavior.answer_to, Behavior.digest_or_fault, Execution.opened_names, Execution.world_at}
use Rattle.theorems.proofs.StdinLemmas.{among, name_opened, only_dash}
use Rattle.theorems.proofs.one_operand.hash_takes_stdin.Goals as goal

-- in the world that agrees with what was read by the end
pub returns : goal.returns
returns g c =
    let name = c.args.name.now in
    let old = c.args.streams.now in
    let settings = c.args.settings.now in
    let x = digest_or_fault settings.kind (answer_to (world_at c.told_agree.ensures.world.0 old.inputs) name) in
    let did = (rw (← c.streams.view_is, ← c.streams-inside.view_is) at c.generate_one-result.ensures.behavior) _
    (rw (← c.streams-inside.view_is) at c.told_agree.ensures.world.1) in
    let opened = name_opened settings c.args.tool.now name x old _ c.generate_one-result.result did in
    let taken = among (opened_names old.inputs) (name ∷ []) in
    rw c.stdin_is_taken.ensures.taken (on_ok_weaker c.generate_one-result.result (λ asked. rw asked (
      λ some. elim (taken.0 some) [ inl before ↦ inl before | inr here ↦ inr ((only_dash name).0 here) ],
      λ some. taken.1 (elim some [ inl before ↦ inl before | inr is ↦ inr ((only_dash name).1 is) ]),
    )) opened)
