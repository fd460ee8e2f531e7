use Rattle.std.proofs.Common.{ℕ, List, [], Option, None, Some, inl, inr}
use Rattle.digest_kinds.specs.Bytes.{ByteString}
use Rattle.sum_engine.{proofs.WorldLaws.all_agree, specs.Behavior.World, specs.Execution.world_at}
use Rattle.sum_engine.{specs.Execution.Agrees, specs.Streams.StreamsState}
use Rattle.sum_words.specs.{CommandLine.command_line, declared.tool.Tool.Tool}
use Rattle.digests.specs.{Program.CommandPerforms}
use Rattle.digests.specs.Laws.{CommandPerformsIn}
use Rattle.digests.proofs.laws.told_program_performs.Goals as goal

-- a call of the tool, or of none, in a world that agrees
command_in : (w : World) (line : Option (Tool × List ByteString)) (a b : StreamsState) (status : ℕ) → Agrees w b.inputs
    → CommandPerforms line a b status → CommandPerformsIn (world_at w a.inputs) line a b status
command_in w None a b status agrees did = did
command_in w (Some (tool, words)) a b status agrees did = record {
  result = did.result;
  between = did.between;
  runs = did.runs w (rw did.inputs at agrees);
  failures = did.failures;
  inputs = did.inputs;
  end = did.end;
}

-- that of the files and the arguments in memory is one
pub returns : goal.returns
returns g c = record {
  meaning = rw (← c.streams.view_is) (λ arguments answer a status are all did reads.
      let listed = c.some_list_agrees.ensures.list.1 in
      let w : World = record { answer = answer; opened = [] } in
      let told = c.told_agree.ensures.world in
      let agrees = all_agree g.S.Source.tells c.streams.inside.inputs answer told (rw (← reads.told) at all) in
      elim (did arguments (rw (rw are at listed.told) at listed)) [
        | inl done ↦ inl (command_in w (command_line arguments) a _ status agrees done)
        | inr refused ↦ inr refused
      ]);
}
