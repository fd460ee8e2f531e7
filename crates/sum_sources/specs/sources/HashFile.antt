-- What a call does that hashes the file of a name.
use Rattle.std.specs.Prelude.{◌≡◌, Some, Result, Ok, Err}
use Rattle.digest_kinds.specs.{Bytes.ByteString, Kind.KindValue}
use Rattle.sum_sources.specs.{Fault.Fault, inputs.HashInput.HashesInput, inputs.Input.Reads, sources.Source.SourceState}
use Rattle.sum_sources.specs.{sources.Source.opened_file, sources.Source.state_with_opening}
use Rattle.sum_sources.specs.sources.SourceLog.{no_answer}
use Rattle.sum_sources.specs.{sources.Source.state_after_opening}
pub use Rattle.sum_sources.specs.declared.sources.hash_file.HashFault.{HashFault}
use Rattle.sum_sources.specs.declared.sources.hash_file.HashFault.TheVariants as hashing

-- the file of a name was opened, hashed from its beginning, and closed
pub record HashesOpened (kind : KindValue) (name : ByteString) (before after : SourceState)
    (result : Result ByteString Fault) : Type 0 where
  pub reads : Reads
  pub closed : after ≡ state_with_opening before name (Some (Ok reads))
  pub hashes : HashesInput kind (opened_file no_answer before name)
      (record (opened_file no_answer before name) { reads = reads }) result

-- a call hashes the file of a name
abbrev pub HashesFile : KindValue → ByteString → SourceState → SourceState → Result ByteString HashFault → Type 0
HashesFile kind name before after (Ok digest) = HashesOpened kind name before after (Ok digest)
HashesFile kind name before after (Err (hashing.Read fault)) = HashesOpened kind name before after (Err fault)
HashesFile kind name before after (Err (hashing.Open fault)) =
    after ≡ state_after_opening {F = ByteString} before name (Err fault)
