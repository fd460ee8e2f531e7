use Rattle.std.proofs.Common.{All, [], ◌∷◌, append-nil}
use Rattle.std.proofs.lemmas.List.Elements.{All-cons, All-nil}
use Rattle.digests.specs.Laws.{IsCheckable}
use Rattle.theorems.proofs.runs.written_accepted.Goals as goal

pub returns : goal.returns
returns c = λ written tool settings manifest files later world later_world has has_later algos checkable some fits is.
    let Fits = IsCheckable settings.algo files later in
    let all : All Fits (written ∷ []) = All-cons Fits written [] checkable (All-nil Fits) in
    let accepted = c.written_is_good.ensures.accepted in
    let good = accepted written tool settings manifest files later world later_world has has_later algos
    all (rw append-nil some) (rw append-nil fits) (rw append-nil is) in
    (good.status, rw append-nil at good.out, good.err)
