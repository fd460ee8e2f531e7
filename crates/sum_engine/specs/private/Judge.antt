-- Relates an entry in the code, and what hashing its file gave, to the entry and its verdict.
use Rattle.std.specs.Prelude.{Bool, Result, Ok, Err, if◌then◌else◌, bytes_eq}
use Rattle.digest_kinds.specs.Bytes.{ByteString}
use Rattle.sum_settings.specs.declared.stop.NoRoom.{NoRoom}
use Rattle.sum_lines.specs.grammar.Entries.{EntryValue}
use Rattle.sum_sources.specs.declared.{fault.Fault.TheVariants.NotFound, sources.hash_file.HashFault.HashFault}
use Rattle.sum_engine.specs.{check.Judge.Verdict, check.Judge.Right, check.Judge.Wrong, check.Judge.Missing}
use Rattle.sum_engine.specs.{check.Judge.Unread, declared.check.judge.ListedEntry.ListedEntry}
use Rattle.sum_sources.specs.declared.sources.hash_file.HashFault.TheVariants as hashing
use Rattle.sum_sources.specs.declared.sources.source.OpenFault.TheVariants as faults

-- the entry that a line spells
abbrev pub listed_entry : ListedEntry → EntryValue
listed_entry listed = record { kind = listed.kind; digest = listed.digest.now; name = listed.name.now }

-- the verdict, according to what hashing the name gave
abbrev pub verdict_of_hash : Bool → ByteString → Result ByteString HashFault → Result Verdict NoRoom
verdict_of_hash ignore digest (Ok found) = Ok (if bytes_eq found digest then Right else Wrong)
verdict_of_hash ignore digest (Err (hashing.Open (faults.Fault NotFound))) =
    Ok (if ignore then Missing else Unread NotFound)
verdict_of_hash ignore digest (Err (hashing.Open (faults.Fault fault))) = Ok (Unread fault)
verdict_of_hash ignore digest (Err (hashing.Read fault)) = Ok (Unread fault)
verdict_of_hash ignore digest (Err (hashing.Open faults.Memory)) = Err (record {})
