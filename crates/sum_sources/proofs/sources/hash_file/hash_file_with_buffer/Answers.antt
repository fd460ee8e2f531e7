use Rattle.std.{proofs.Common.◌≡◌, proofs.Common.List, proofs.Common.ℕ, proofs.Common.Result, proofs.Common.Ok}
use Rattle.std.{proofs.Common.Err, specs.Result.IsErrAnd}
use Rattle.digest_kinds.specs.Kind.{KindValue}
use Rattle.sum_sources.{proofs.GaveLemmas.is_open_last, proofs.GaveLemmas.hashed_last, specs.Fault.Fault}
use Rattle.sum_sources.{specs.sources.HashFile.HashFault, specs.sources.HashFile.HashesFile}
use Rattle.sum_sources.{specs.sources.HashFile.HashesOpened, specs.sources.Source.SourceState}
use Rattle.sum_sources.specs.declared.sources.hash_file.HashFault.TheVariants as hashing
use Rattle.sum_sources.proofs.sources.hash_file.hash_file_with_buffer.Goals as goal

-- the file is open when it is closed
pub close_file-requires : goal.close_file-requires
close_file-requires g c =
    is_open_last _ _ _ _ _ _ c.in_ok-file.ensures.file c.in_ok-file.ensures.state
    c.hash_input_with_buffer-found.ensures.hashed.same

-- the file was hashed
pub returns-clause-hashed : goal.returns-clause-hashed
returns-clause-hashed g c =
    hashed_last g.S.Source.tells c.in_ok-file.ensures.file c.in_ok-file.ensures.state c.in_ok-found.ensures.hashed
    c.close_file.ensures.state

-- reading the file failed, so that is the fault
failed : {kind : KindValue} {name : List ℕ} {a b : SourceState} {f : Fault} (r : Result (List ℕ) HashFault)
    → IsErrAnd r (λ e. e ≡ hashing.Read f) → HashesOpened kind name a b (Err f) → HashesFile kind name a b r
failed (Ok d) never hashes = absurd never
failed (Err e) is hashes = rw is hashes

pub returns-in_err-found-clause-hashed : goal.returns-in_err-found-clause-hashed
returns-in_err-found-clause-hashed g c = failed _ c.from_residual-in_err-found.ensures.1
    (hashed_last g.S.Source.tells c.in_ok-file.ensures.file c.in_ok-file.ensures.state c.in_err-found.ensures.hashed
    c.close_file.ensures.state)
