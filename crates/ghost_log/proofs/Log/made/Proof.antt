-- `made` makes the empty struct, with the state that its argument gives.
use Rattle.std.proofs.{Common.[], Common.◌∷◌, Common.refl, raw_atomic.Walks.proved}
use mir.Syntax.{a_type, dcons, dnil, named}
use mir.MapTy.{inst_fn}
use mir.Val.{vstruct, vcons, vnil}
use types.Kit.{‵, raw, ◌⊛◌, ◌$◌, ◌∵◌, !, qed, move, keep, split, suffices, done}
use types.Part.{agg}
use types.Run.{no_more, and_then, returns, enter}
use types.ByLocal.{alloc_all, pass_all, free_all, look_at, get, sets}
use denote.Exit.{yes}
use denote.Param.{param, bounded}
use denote.RattleType.{RattleType, owns, Valss}
use denote.Ref.{shr_vals, shr_Tells}
use denote.Shadow.{pure_i}
use denote.Signature.{plain, types_at}
use denote.Triple.{Entry.alive, Walked.says, Walked.stay_none_ref, Walked.Stays, Walked.ends_at, Walked.Goes-none_ref}
use Rattle.ghost_log.{proofs.Log.made.Statement.statement, specs.contracts.Log.made.ended}
use Rattle.ghost_log.{specs.contracts.Log.made.clauses}
use Rattle.ghost_log.specs.contracts.Log.{the_row as Row}
use Rattle.ghost_log.specs.contracts.Log.made.Key.{name as #self}
use Rattle.ghost_log.proofs.Log.made.Code as code

pub made_spec : {M : Type 1} → statement M
made_spec 𝓤 𝓛 𝓜 𝓡 wired T X Y L LX LY g d _ =
    let R : RattleType = param 1 X in
    let inst = bounded (a_type ∷ a_type ∷ a_type ∷ []) (T, (X, (Y, tt))) (dcons d dnil) in
    let En = ended T X Y g d in
    let c = clauses T X Y g d 𝓛 𝓜.mem 𝓡.returns in
    let stayed : Stays En.signature.params En.kept = (stay_none_ref (0 ∷ []) tt (plain (λ _. R)) yes, tt) in
    proved 𝓛 En stayed c 𝓜 𝓡 (Goes-none_ref 𝓛 4 (0 ∷ []) tt (plain (λ _. R)) yes, tt) (#self inst)
    (inst_fn inst code.function) (code.unfolded 𝓤 𝓛.H 𝓜 𝓡 wired (T, (X, (Y, tt))) d)
    (λ κs. (shr_vals, tt)) (λ κs. (shr_Tells (named 0) κs.0 R, tt))
    (λ κs qs bounds a gh are.
    let made : (Row (param 0 T)).Denot = g.state_of a.0.now in
    let vss : Valss (types_at En.signature.params κs) = (shr_vals a.0, tt) in
    qed 𝓛 ((raw (alive 𝓛 En.signature κs qs) ⊛ ‵ (owns (types_at En.signature.params κs) a vss))
    ∷ raw ((c κs a).requires gh) ∷ []) ∵
    keep ! (0 ∷ []) $ split ! $ enter ! _ _ _ _ _ $ alloc_all ! (λ l. pass_all ! refl ((tt, tt), tt) $
    sets ! (agg ! (no_more !)) refl (tt, tt) $
    sets ! (agg ! (and_then ! (get ! refl) (no_more !))) refl (tt, (tt, tt)) $
    returns ! (look_at ! 0 refl) $ free_all ! refl $
    suffices ! _ (ends_at 𝓛 En stayed c ((κs, qs, bounds, a, vss), gh) (vstruct (vcons (vstruct vnil) vnil)) made (tt, tt) (tt, tt)) $
    says ! refl $
    pure_i ! ((Row (param 0 T)).own_val made (vstruct (vcons (vstruct vnil) vnil) ∷ [])) (λ x. (((λ vss. (tt, ((λ uss. (tt, tt)), tt))), tt), tt))
    ((record { of = record {}; state = made }, (refl, tt)), ((((vstruct vnil ∷ [], tt), (refl, ((tt, (refl, tt)), tt))), tt), tt)) $
    move ! (1 ∷ 2 ∷ 0 ∷ []) $ done !))
