-- The law of inputs, with its proofs: what was read of an input fits a content, the one in memory if there is one.
use Rattle.std.proofs.{Common.rules, Common.ℕ, Common.[], Common.None, Common.refl, Common.drop}
use Rattle.std.proofs.{lemmas.List.take-append-drop}
use Rattle.digest_kinds.specs.Bytes.{ByteString}
use Rattle.sum_sources.specs.declared.{inputs.stdin.Closable.Closable, inputs.stdin.Closable.TheVariants.Open}
use Rattle.sum_sources.specs.declared.{inputs.stdin.Closable.TheVariants.Closed}
use Rattle.sum_sources.specs.declared.sources.stdin_or_file.StdinOrFile.{StdinOrFile}
use Rattle.sum_sources.specs.declared.sources.stdin_or_file.StdinOrFile.TheVariants.{Stdin}
use Rattle.sum_sources.specs.{inputs.Told.ToldValue, inputs.Told.told_state, inputs.Stdin.closable_state, Fault.Whole}
use Rattle.sum_sources.specs.{sources.StdinOrFile.stdin_or_file_state}
use Rattle.sum_sources.specs.declared.sources.stdin_or_file.StdinOrFile.TheVariants.{File}
use Rattle.sum_sources.specs.inputs.Input.{Content, InputState, HasContent, Fits, IsReadTo}
use Rattle.sum_sources.specs.inputs.InputLog.{told_reads, empty_content}
use Rattle.sum_sources.specs.inputs.Input.{Phase, Unfinished, Ended, Past}

-- what reads of a content gave fits it
pub told_reads_fit : (content : Content) (n : ℕ) (phase : Phase) → Fits (told_reads content n phase) content
told_reads_fit content n Unfinished = (drop n content.bytes, Prim.search (rules, take-append-drop))
told_reads_fit content n (Ended ending) = refl
told_reads_fit content n Past = tt

-- the law of an input in memory
pub told_has_content : (told : ToldValue) → HasContent (told_state told)
told_has_content told = (told.content, refl, told_reads_fit told.content told.given told.phase)

-- the law of an input that may be closed
pub closable_has_content : {I : Type 0} (state : I → InputState) (has : (i : I) → HasContent (state i))
    (s : Closable I) → HasContent (closable_state state s)
closable_has_content state has (Open i) = has i
closable_has_content state has (Closed e phase) = (_, refl, told_reads_fit (record { bytes = []; ending = e }) 0 phase)

-- the law of what was opened beside standard input
pub opened_has_content : {I F : Type 0} (stdin : I → InputState) (file : F → InputState)
    → ((i : I) → HasContent (stdin i)) → ((f : F) → HasContent (file f)) → (p : StdinOrFile I F)
    → HasContent (stdin_or_file_state stdin file p)
opened_has_content stdin file has has_file (Stdin given log) = closable_has_content stdin has given
opened_has_content stdin file has has_file (File f) = has_file f

-- a content that these reads fit
pub some_content : (bytes : ByteString) (phase : Phase) → (content : Content) × IsReadTo phase bytes content
some_content bytes Unfinished = (record { bytes = bytes; ending = Whole }, ([], Prim.search rules))
some_content bytes (Ended ending) = (_, refl)
some_content bytes Past = (empty_content, tt)

-- the law of any other input
pub untold_has_content : (s : InputState) → HasContent (record s { told = None })
untold_has_content s = let (c, of) = some_content s.reads.bytes s.reads.phase in (c, tt, of)
