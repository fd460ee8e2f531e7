use Rattle.sum_words.proofs.WordBytesLemmas.{piece_read}
use Rattle.sum_words.proofs.words.piece_at.Goals as goal

-- a piece begins before it ends
pub slice_bounds-result-count : goal.slice_bounds-result-count
slice_bounds-result-count c =
    let found = c.in_ok-end.ensures.lookup in
    (piece_read c.args.bytes.now 0 _ _ c.start_of-start.ensures found.3.0 found.1 c.requires).order

-- the same, of its start
pub slice_bounds-result-start : goal.slice_bounds-result-start
slice_bounds-result-start c = slice_bounds-result-count c

-- a piece ends within the bytes
pub slice_bounds-result-end : goal.slice_bounds-result-end
slice_bounds-result-end c =
    let found = c.in_ok-end.ensures.lookup in
    (piece_read c.args.bytes.now 0 _ _ c.start_of-start.ensures found.3.0 found.1 c.requires).within
