use Rattle.std.{proofs.Common.refl, specs.Fmt.digits}
use Rattle.theorems.proofs.moved_on.older_texts.Goals as goal

pub returns-clause-unread : goal.returns-clause-unread
unfolding digits
returns-clause-unread c = λ rules ignored. rw ignored refl

pub returns-clause-bad : goal.returns-clause-bad
unfolding digits
returns-clause-bad c = λ rules any. rw any refl
