use Rattle.std.{proofs.Common.◌≡◌, proofs.Common.ap, proofs.Common.fold, proofs.Common.refl, proofs.Common.◌∙◌}
use Rattle.std.{specs.List.range_with_len}
use Rattle.blake2b_core.specs.{Compression.compress, Compression.round, Compression.work_vector}
use Rattle.blake2b_core.specs.{private.Columns.block_words, private.Columns.next_state, private.Columns.words}
use Rattle.blake2b_core.proofs.compression.advance.Goals as goal

-- twelve rounds, and the new state
pub returns : goal.returns
unfolding compress
returns c =
    let v : words c.round-v-12.result ≡ fold (round (block_words c.args.block.now))
    (work_vector c.args.h.now c.args.t c.args.last) (range_with_len 0 12) =
    rw (
      c.round-v-12.ensures,
      c.round-v-11.ensures,
      c.round-v-10.ensures,
      c.round-v-9.ensures,
      c.round-v-8.ensures,
      c.round-v-7.ensures,
      c.round-v-6.ensures,
      c.round-v-5.ensures,
      c.round-v-4.ensures,
      c.round-v-3.ensures,
      c.round-v-2.ensures,
      c.round-v.ensures,
      c.work_vector-v.ensures,
      c.block_words-m.ensures,
    ) refl in
    c.feed_forward.ensures ∙ ap (next_state c.args.h.now) v
