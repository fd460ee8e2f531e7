use Rattle.std.proofs.lemmas.Grind.{merely}
use Rattle.sum_sources.proofs.WithStdinLemmas.{kept_new}
use Rattle.sum_sources.proofs.sources.with_stdin.WithStdin.new.Goals as goal

-- the invariant holds at first: nothing was read of standard input
pub invariant_of-result : goal.invariant_of-result
invariant_of-result g c = record {
  is = rw (c.of-first.ensures.state, c.with_note-log.ensures.state)
      (merely (kept_new g.I.Input.state c.args.stdin (g.S.Source.state c.args.source) c.requires));
}
