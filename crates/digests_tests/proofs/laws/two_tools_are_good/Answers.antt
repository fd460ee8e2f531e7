use Rattle.std.proofs.Common.{rules, All, [], ◌∷◌, codes, append-nil, refl}
use Rattle.digest_kinds.specs.declared.algo.{Algo.TheVariants.Md5, Algo.TheVariants.Sha256, Algos.TheVariants.Any}
use Rattle.sum_settings.specs.declared.style.Mode.TheVariants.{Tag}
use Rattle.sum_words.specs.declared.tool.Tool.TheVariants.{Anysum}
use Rattle.sum_words_tests.proofs.WorkedExamples.{words_on_literals}
use Rattle.digests.specs.Laws.{IsCheckable}
use Rattle.digests_tests.proofs.WorkedExamples.{lines_of, plain_check}
use Rattle.digests_tests.proofs.laws.two_tools_are_good.Goals as goal

-- the list is what both runs wrote
pub returns : goal.returns
unfolding words_on_literals
returns c = λ files later w v has same a kept b kept_b fits given.
    let runs = lines_of Md5 Tag (codes "md5sum") (codes "a") ∷ lines_of Sha256 Tag (codes "sha256sum") (codes "b")
    ∷ [] in
    let checkable : All (IsCheckable Any files later) runs = search rules in
    let good = c.joined_is_good.ensures.accepted runs Anysum (plain_check Any)
    (codes "SUMS") files later w v has same refl
    checkable (search rules) (simp append-nil (simp append-nil at fits))
    (simp append-nil (simp append-nil at given)) in
    (good.status, good.out, good.err)
