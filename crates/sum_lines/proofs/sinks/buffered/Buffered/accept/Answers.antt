use Rattle.std.proofs.{Common.refl, Common.length-take, Common.arith, lemmas.Result.err_from_is_err_and}
use Rattle.sum_lines.proofs.SinkLemmas.{accepts_some, accept_failed}
use Rattle.sum_lines.proofs.sinks.buffered.Buffered.accept.Goals as goal

-- the sink failed when room was to be made
pub returns-in_err-make_room : goal.returns-in_err-make_room
returns-in_err-make_room g c =
    let stop = err_from_is_err_and c.from_residual.result c.from_residual.ensures.1 in
    rw stop.1 (accept_failed c.args.piece.now c.in_err-make_room.ensures c.requires)

-- there was room for bytes of the piece
pub returns : goal.returns
returns g c =
    let room = rw (← c.self.view_is) at c.in_ok-make_room.ensures in
    let kept = length-take c.self.inside.len c.self.inside.buffer in
    accepts_some _ c.args.piece.now c.copy_after-count.result room c.requires
    (omega (arith, c.copy_after-count.ensures.count, kept)) refl c.copy_after-count.ensures.bytes
