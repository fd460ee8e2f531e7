use Rattle.std.proofs.Common.{rules, All, [], ◌∷◌, codes, append-nil, refl}
use Rattle.digest_kinds.specs.declared.algo.{Algo.TheVariants.Md5, Algos.TheVariants.One}
use Rattle.sum_settings.specs.declared.style.Mode.TheVariants.{Text}
use Rattle.sum_words.specs.declared.tool.Tool.TheVariants.{Md5sum}
use Rattle.sum_words_tests.proofs.WorkedExamples.{words_on_literals}
use Rattle.digests.specs.Laws.{IsCheckable}
use Rattle.digests_tests.proofs.WorkedExamples.{lines_of, plain_check}
use Rattle.digests_tests.proofs.laws.one_name_is_good.Goals as goal

-- the list is what the run wrote
pub returns : goal.returns
unfolding words_on_literals
returns c = λ files later w v has same a kept fits given.
    let run = lines_of Md5 Text (codes "md5sum") (codes "a") in
    let checkable : All (IsCheckable (One Md5) files later) (run ∷ []) = search rules in
    let good = c.written_is_good.ensures.accepted run Md5sum (plain_check (One Md5))
    (codes "SUMS") files later w v has same refl
    checkable (search rules) (rw append-nil fits) (rw append-nil given) in
    (good.status, good.out, good.err)
