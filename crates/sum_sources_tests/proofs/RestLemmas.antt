-- An input of which the first three bytes, its header, don't count.
use Rattle.std.proofs.Common.{◌≡◌, ◌∷◌, ◌-◌, ◌≤◌, ℕ, [], List, length, drop, take, None, Ok, Err, Result, refl, ap, ◌∙◌}
use Rattle.std.proofs.Common.{arith}
use Rattle.std.{proofs.Math.Seq.take-append_seam, proofs.Math.Seq.take-length, proofs.lemmas.List.drop-append-le}
use Rattle.std.{specs.Prelude.IfOk}
use Rattle.digest_kinds.specs.{Bytes.ByteString, Kind.message_digest, Kind.KindValue}
use Rattle.sum_sources.specs.{LineReader.remaining_content, LineReader.AdvancesLines, LineReader.IsReading}
use Rattle.sum_sources.specs.{LineReader.LineReaderValue, LineReader.ReadsOn, LineReader.TakesNextLine}
use Rattle.sum_sources.specs.{LineReader.content_past, declared.fault.Ending.TheVariants.Whole}
use Rattle.sum_sources.specs.LineReader.{lines_in}
use Rattle.sum_sources.specs.declared.{fault.Fault.Fault, inputs.input.Phase.Phase}
use Rattle.sum_sources.specs.declared.{inputs.input.Phase.TheVariants.Unfinished, inputs.input.Phase.TheVariants.Ended}
use Rattle.sum_sources.specs.declared.{inputs.input.Phase.TheVariants.Past, line_reader.Next.TheVariants.Line}
use Rattle.sum_sources.specs.inputs.{HashInput.HashesInput, Input.Content, Input.InputState, Input.Reads, Input.Fits}
use Rattle.sum_sources.specs.inputs.{Input.state_after_read, Input.clip, Input.reads_past, Input.empty_reads}

-- if reads fit a content, those past the first bytes fit its rest
rest_fits : (m : ℕ) (r : Reads) (c : Content) → m ≤ length r.bytes → Fits r c → Fits (reads_past m r) (content_past m c)
rest_fits m r c low of = by r.phase refl
  where
    by : (phase : Phase) → r.phase ≡ phase → Fits (reads_past m r) (content_past m c)
    by Unfinished is =
        let (rest, begins) = rw is at of in rw is (rest, ap (drop m) begins ∙ drop-append-le m r.bytes rest low)
    by (Ended e) is = let all = rw is at of in rw is (ap (content_past m) all)
    by Past is = rw is tt

-- what ends whole isn't cut
clip_whole : (c : Content) → (clip c).ending ≡ Whole → clip c ≡ c
clip_whole c whole = grind arith

-- after the header
pub header_read : (a m : InputState) (buf : List ℕ) (n : ℕ) → a.reads ≡ empty_reads → m ≡ state_after_read a buf (Ok n)
    → length buf ≡ 3 → n ≡ 3 → m.reads ≡ record { bytes = buf; phase = Unfinished }
header_read a m buf n new is size all = rw (is, new, all, size, ← size, take-length) refl

-- the header, and the digest of the rest
pub digest_past_header : {kind : KindValue} {m e : InputState} (result : Result ByteString Fault) (header : List ℕ)
    → length header ≡ 3 → m.reads ≡ record { bytes = header; phase = Unfinished } → HashesInput kind m e result
    → (c : Content) → Fits e.reads c
    → IfOk result (λ d. (take 3 c.bytes ≡ header) × (d ≡ message_digest kind (drop 3 c.bytes)))
digest_past_header (Err f) header size at hashes c of = tt
digest_past_header {kind = kind} {e = e} (Ok d) header size at hashes c of =
    let going = ap (λ (r : Reads). r.phase) at in
    let read = hashes.reads going in
    let (rest, begins) = rw at at (read.before c of) in
    let end = read.end in
    let all = rw end at of in
    let (whole, is) = read.digest (content_past 3 c) (rw (at, size, end) (ap (content_past 3) all)) in (
      rw (begins, ← size) (take-append_seam header rest),
      is ∙ ap (λ (c : Content). message_digest kind c.bytes) (clip_whole _ whole),
    )

-- the first line of the rest
pub line_past_header : {I : Type 0} {state : I → InputState} {m : I} (old new : LineReaderValue I) {bytes : List ℕ}
    → ((state m).reads.phase ≡ Unfinished) × (length (state m).reads.bytes ≡ 3)
    → old ≡ record { input = m; ahead = []; taken = 0; lines = 0; final_answer = None }
    → ((state m).reads.phase ≡ Unfinished → IsReading state old)
    → (IsReading state old → ReadsOn state old new (TakesNextLine old new (Ok Line) bytes))
    → AdvancesLines state old new (Ok Line)
    → (c : Content) → Fits (state new.input).reads c
    → lines_in (clip (content_past 3 c)) ≡ bytes ∷ lines_in (remaining_content new (content_past 3 c))
line_past_header {state = state} old new at is reading reads advances c of =
    let sum = rw (is, at.1) at advances.taken in
    let low : 3 ≤ length (state new.input).reads.bytes = omega (arith, sum) in
    let past_three : length (state new.input).reads.bytes - new.taken ≡ 3 = omega (arith, sum) in
    let rest = rest_fits 3 (state new.input).reads c low of in
    let next = (reads (reading at.0)).holds (content_past 3 c) (rw past_three rest) in
    rw is at next.line.0
