-- What was read so far of a line, and what reading on adds to it.
use Rattle.std.specs.Str.{byte}
use Rattle.digest_kinds.specs.Bytes.{LIMIT}
use Rattle.std.proofs.Common.{rules, ◌≡◌, ℕ, zero, suc, ◌+◌, ◌-◌, ◌<◌, ◌≤◌, true, false, List, [], ◌∷◌, ◌++◌, length}
use Rattle.std.proofs.Common.{take, drop, None, Some, Result, subst, length-drop, Ok, Err, refl, ap, sym, ◌∙◌}
use Rattle.std.proofs.Common.{append_assoc, arith, length-append}
use Rattle.std.proofs.{Math.Seq.take-append-add, Math.Seq.drop-append_seam, lemmas.List.drop_all}
use Rattle.std.proofs.{lemmas.List.Elements.All-append}
use Rattle.std.specs.{Char.is_newline, Prelude.nat_lt, Prelude.if◌then◌else◌, Str.Lines.strip_carriage_return}
use Rattle.sum_sources.specs.LineReader.{LineReaderValue, consumed_count, content_past, reads_of, remaining_content}
use Rattle.sum_sources.specs.LineReader.{IsUnderWay, IsReading, ReadsOn, TakesNextLine}
use Rattle.sum_sources.specs.private.LineReader.{FillsReader, TakesPiece}
use Rattle.sum_sources.specs.inputs.Input.{Content, InputState, Reads, Fits, Ended, Past, clip, limit, reads_past}
use Rattle.sum_sources.specs.LineReader.{Next, Line, NoMore, LineStop, HasNoNewline, IsNextLine, past_line}
use Rattle.sum_sources.specs.{Fault.Ending, Fault.Whole, Fault.Broken, Fault.Fault, Fault.Other}
use Rattle.sum_sources.specs.{private.SizeLimit.FindsEnding, private.SizeLimit.AddsLimited, private.SizeLimit.AddsPast}
use Rattle.sum_sources.specs.{private.SizeLimit.CountsBytes}
use Rattle.sum_sources.proofs.{LineLemmas.lines-nil, LineLemmas.past_line-piece, LineLemmas.IsNextLine-ended}
use Rattle.sum_sources.proofs.{ContentLemmas.with_prefix, ContentLemmas.limit-value, LimitLemmas.before_more}
use Rattle.sum_sources.specs.declared.line_reader.LineStop.TheVariants as stops

-- the content without bytes that has this ending
abbrev just : Ending → Content
just e = record { bytes = []; ending = e }

-- a content keeps its front, if that is shorter than the limit
clip-prefix : (front : List ℕ) (rest : Content) → length front < LIMIT
    → (d : Content) × (clip (with_prefix front rest) ≡ with_prefix front d)
clip-prefix front rest few =
    let k = limit - length front in
    let size : limit - 1 ≡ length front + (k - 1) = rw limit-value (omega (arith, limit-value)) in
    let cut : take (limit - 1) (front ++ rest.bytes) ≡ front ++ take (k - 1) rest.bytes =
    rw (size, take-append-add) refl in
    let short : Content = record { bytes = take (k - 1) rest.bytes; ending = Broken Other } in
    let d = if nat_lt (length rest.bytes) k then rest else short in
    (d, grind (arith, limit-value, length-append {A = ℕ}, cut))

-- past all its bytes, a content is its ending alone
over : {k : Content} (n : ℕ) (bytes : List ℕ) (e : Ending) → k ≡ record { bytes = bytes; ending = e } → length bytes ≤ n
    → content_past n k ≡ just e
over n bytes e is low = rw (is, drop_all n bytes low) refl

-- bytes that are consumed no longer remain, so both counts add up to the same
adds_up : (x y : Content) {m : ℕ} (n : ℕ) (a : List ℕ) → x ≡ with_prefix a y → m ≡ n + length a
    → m + length y.bytes ≡ n + length x.bytes
adds_up x y n a is count = rw is (simp length-append (omega (arith, count)))

-- ---- a line is being read

module _ {I : Type 0} {state : I → InputState} {r : LineReaderValue I} (u : IsUnderWay state r) where
  few_ahead : length r.ahead ≤ r.taken
  few_ahead = omega (arith, u.taken, ap length u.ahead.1, length-append {A = ℕ})

  -- what remains begins with what is ahead
  begins_at : (k d : Content) → k ≡ with_prefix (reads_of state r).bytes d
      → content_past (consumed_count r) k ≡ with_prefix r.ahead (content_past r.taken k)
  begins_at k d is =
      let (consumed, read) = u.ahead in
      let at : consumed_count r ≡ length consumed =
      omega (arith, u.taken, ap length read, length-append consumed r.ahead) in
      let keeps : drop (consumed_count r) ((reads_of state r).bytes ++ d.bytes) ≡ r.ahead ++ d.bytes =
      rw (at, read, append_assoc, drop-append_seam) refl in
      let over : drop r.taken ((reads_of state r).bytes ++ d.bytes) ≡ d.bytes =
      ap (λ n. drop n ((reads_of state r).bytes ++ d.bytes)) (sym u.taken)
      ∙ drop-append_seam (reads_of state r).bytes d.bytes in
      rw (is, keeps, over) refl

  begins : r.taken < LIMIT → (c : Content) → Fits (reads_of state r) c
      → remaining_content r c ≡ with_prefix r.ahead (content_past r.taken (clip c))
  begins few c of =
      let (rest, is) = rw u.phase at of in
      let (d, keeps) = clip-prefix _ (record { bytes = rest; ending = c.ending }) (rw u.taken few) in
      begins_at (clip c) d (ap (λ bs. clip (record { bytes = bs; ending = c.ending })) is ∙ keeps)

-- a read adds the same to what was read since the reader was made
pub adds_of : {I : Type 0} {state : I → InputState} (s s' : LineReaderValue I) {result : Result ℕ Fault}
    → IsUnderWay state s → CountsBytes s.taken s'.taken (state s.input) (state s'.input)
    → AddsPast s.taken (state s.input).reads (state s'.input).reads s'.ahead result
    → AddsLimited s.taken (reads_of state s) (reads_of state s') s'.ahead result
adds_of {state = state} s s' {result} u counts adds =
    let before = length (state s.input).reads.bytes - s.taken in
    let low : s.taken ≤ length (state s.input).reads.bytes =
    omega (arith, u.taken, length-drop before (state s.input).reads.bytes) in
    let same : before ≡ length (state s'.input).reads.bytes - s'.taken = omega (arith, counts.bytes, low) in
    subst (λ m. AddsLimited s.taken (reads_of state s) (reads_past m (state s'.input).reads) s'.ahead result) same
    (adds.adds before (omega arith) u.phase)

-- the reader went from `old` to s by consuming these bytes of what remained
pub record HasRead {I : Type 0} (state : I → InputState) (old s : LineReaderValue I) (bytes : List ℕ) : Type 0 where
  pub under_way : IsUnderWay state s
  pub count : consumed_count s ≡ consumed_count old + length bytes
  pub remains : (c : Content) → Fits (reads_of state s) c
      → remaining_content old c ≡ with_prefix bytes (remaining_content s c)
  pub before : (c : Content) → Fits (reads_of state s) c → Fits (reads_of state old) c

-- a piece goes from one part of a content's bytes to another
regroup : (a b c : List ℕ) (d : Content) → with_prefix a (with_prefix (b ++ c) d)
    ≡ with_prefix (a ++ b) (with_prefix c d)
regroup a b c d = simp append_assoc refl

module _ {I : Type 0} {state : I → InputState} {old s s' : LineReaderValue I} {bytes : List ℕ}
    (h : HasRead state old s bytes)
  where
    -- a piece that was ahead was consumed, too
    pub HasRead-more : (more ahead : List ℕ) → s'.taken < LIMIT → s' ≡ record s { ahead = ahead }
        → s.ahead ≡ more ++ ahead → HasRead state old s' (bytes ++ more)
    HasRead-more more ahead below moved is =
        let u = h.under_way in
        let few : s.taken < LIMIT = rw moved at below in
        let size = few_ahead u in
        let count : s.taken - length ahead ≡ consumed_count s + length more =
        omega (arith, size, ap length is, length-append more ahead) in
        let under_way : IsUnderWay state (record s { ahead = ahead }) = record {
          phase = u.phase;
          taken = u.taken;
          ahead = (u.ahead.0 ++ more, u.ahead.1 ∙ rw (is, append_assoc) refl);
        } in
        rw moved (record {
          under_way = under_way;
          count = omega (arith, count, h.count, length-append bytes more);
          remains = λ c of. h.remains c of ∙ ap (with_prefix bytes) (begins u few c of ∙ rw is refl)
              ∙ regroup bytes more ahead _ ∙ ap (with_prefix (bytes ++ more)) (sym (begins under_way few c of));
          before = h.before;
        })

    -- bytes were read of the input, and are ahead
    pub HasRead-filled : (n : ℕ) → 0 < n → s.ahead ≡ []
        → AddsLimited s.taken (reads_of state s) (reads_of state s') s'.ahead (Ok n) → FillsReader s s' (Ok n)
        → HasRead state old s' bytes
    HasRead-filled zero some none fills counts = absurd (omega arith)
    HasRead-filled (suc n) some none fills counts =
        let u = h.under_way in
        let earlier = before_more _ _ s'.ahead u.phase fills in
        let at : consumed_count s' ≡ length (reads_of state s).bytes = omega (arith, counts.0, counts.1, u.taken) in
        let same : consumed_count s ≡ consumed_count s' = omega (arith, at, u.taken, ap length none) in
        record {
          under_way = record {
            phase = ap (λ (r : Reads). r.phase) fills ∙ u.phase;
            taken = ap (λ (r : Reads). length r.bytes) fills
                ∙ simp length-append (omega (arith, counts.0, counts.1, u.taken));
            ahead = ((reads_of state s).bytes, ap (λ (r : Reads). r.bytes) fills);
          };
          count = omega (arith, same, h.count);
          remains = λ c of. h.remains c (earlier c of) ∙ ap (λ n. with_prefix bytes (content_past n (clip c))) same;
          before = λ c of. h.before c (earlier c of);
        }

-- ---- a line ends

-- the next line is the same of equal contents
next_of : {c c' d d' : Content} (r : Result Next LineStop) (line : List ℕ) → c ≡ c' → d ≡ d'
    → IsNextLine c' d' r line → IsNextLine c d r line
next_of r line p q h = rw (p, q) h

-- a newline in the buffer ended the line
pub ends_line : {I : Type 0} {state : I → InputState} {old s s' : LineReaderValue I} {line line' : List ℕ}
    → HasRead state old s line → HasNoNewline line → s' ≡ record s { ahead = s'.ahead } → s'.taken < LIMIT
    → s'.final_answer ≡ None → TakesPiece true s.ahead s'.ahead line line'
    → ReadsOn state old s' (TakesNextLine old s' (Ok Line) (strip_carriage_return line'))
ends_line {state = state} {old = old} {s' = s'} {line = line} {line' = line'} h none same few going
    (piece, plain, cut, is) =
    let read : HasRead state old s' (line' ++ byte "\n" ∷ []) =
    rw (is, append_assoc) (HasRead-more h (piece ++ byte "\n" ∷ []) s'.ahead few same (rw append_assoc cut)) in
    record {
      reading = record {
        under_way = λ going. read.under_way;
        final = λ answer final. cc;
        end = λ final. cc;
        past = rw read.under_way.phase (λ past. cc);
      };
      before = read.before;
      holds = λ c of. record {
        line = next_of (Ok Line) _ (read.remains c of) refl
            (IsNextLine-ended _ line' (rw is (All-append (λ b. is_newline b ≡ false) line piece none plain)));
        sum = λ no_fault. adds_up _ _ _ _ (read.remains c of) read.count;
      };
    }

-- ---- an answer is final

-- a reader whose final answer is right
settled : {I : Type 0} {state : I → InputState} {n : LineReaderValue I} (answer : Result Next LineStop)
    → n.final_answer ≡ Some answer
    → ((line : List ℕ) (c : Content) → Fits (reads_of state n) c
    → IsNextLine (remaining_content n c) (remaining_content n c) answer line)
    → (answer ≡ Ok NoMore → (reads_of state n).phase ≡ Ended Whole) → ¬ ((reads_of state n).phase ≡ Past)
    → IsReading state n
settled answer final right end past = record {
  under_way = λ going. cc;
  final = λ other is bytes c of. let same : other ≡ answer = cc in rw same (right bytes c of);
  end = λ is. end cc;
  past = past;
}

-- memory was refused for a line without a newline so far, and something remained
pub ends_memory : {I : Type 0} {state : I → InputState} {old s n : LineReaderValue I} {line : List ℕ}
    → HasRead state old s line → HasNoNewline line → s.taken < LIMIT → 0 < length s.ahead
    → n ≡ record s { final_answer = Some (Err stops.Memory) } → (bytes : List ℕ)
    → ReadsOn state old n (TakesNextLine old n (Err stops.Memory) bytes)
ends_memory {state = state} {s = s} {line = begun} h none few some is bytes =
    let left : (c : Content) → Fits (reads_of state s) c → 0 < length (remaining_content s c).bytes = λ c of.
    omega (arith, some, ap (λ (c : Content). length c.bytes) (begins h.under_way few c of), length-append {A = ℕ}) in
    rw is (record {
      reading = settled (Err stops.Memory) refl (λ bytes c of. (left c of, refl)) (λ is. cc)
          (rw h.under_way.phase (λ past. cc));
      before = h.before;
      holds = λ c of. let sum = adds_up _ _ _ _ (h.remains c of) h.count in record {
        line = (
          omega (arith, left c of, h.count, sum),
          past_line-piece begun (remaining_content s c) none ∙ sym (ap past_line (h.remains c of)),
        );
        sum = λ no_fault. sum;
      };
    })

-- what every later call returns after an ending
abbrev answer_by : Ending → Result Next LineStop
answer_by Whole = Ok NoMore
answer_by (Broken f) = Err (stops.Fault f)

-- of a content without bytes there is no line, but its ending
pub no_line : (e : Ending) (line : List ℕ) → IsNextLine (just e) (just e) (answer_by e) line
no_line e line = grind (arith, lines-nil)

-- only a whole ending gives the answer that no line remains
whole_by : (e : Ending) → answer_by e ≡ Ok NoMore → e ≡ Whole
whole_by e is = grind arith

-- the input ended with this ending, after these bytes
pub ReadsOn-ending : {I : Type 0} {state : I → InputState} {old s : LineReaderValue I} (m : LineReaderValue I)
    {n : LineReaderValue I} {line bytes : List ℕ} (e : Ending) (answer : Result Next LineStop)
    → HasRead state old s line → s.ahead ≡ []
    → FindsEnding s.taken (reads_of state s) (reads_of state m) e → length m.ahead ≡ 0 → s.taken ≤ m.taken
    → n ≡ record m { final_answer = Some (answer_by e) } → IsNextLine (with_prefix line (just e)) (just e) answer bytes
    → (((f : Fault) → ¬ (answer ≡ Err (stops.Fault f))) → m.taken ≡ s.taken)
    → ReadsOn state old n (TakesNextLine old n answer bytes)
ReadsOn-ending {state = state} {old = old} {s = s} m {line = line} e answer h none finds none' more is next same =
    let taken = h.under_way.taken in
    let now : (c : Content) → Fits (reads_of state m) c → remaining_content m c ≡ just e =
    λ c of. over _ _ e (finds.content taken c of) (omega (arith, taken, none', more)) in
    let was : (c : Content) → Fits (reads_of state m) c → remaining_content old c ≡ with_prefix line (just e) =
    λ c of. h.remains c (finds.before c of) ∙ ap (with_prefix line)
    (over _ _ e (finds.content taken c of) (omega (arith, taken, ap length none))) in
    rw is (record {
      reading = settled (answer_by e) refl
          (λ line c of. next_of (answer_by e) line (now c of) (now c of) (no_line e line))
          (λ is. finds.end (whole_by e is)) finds.past;
      before = λ c of. h.before c (finds.before c of);
      holds = λ c of. record {
        line = next_of answer _ (was c of) (now c of) next;
        sum = λ no_fault. adds_up _ _ _ line (was c of ∙ ap (with_prefix line) (sym (now c of)))
            (omega (arith, h.count, same no_fault, none', ap length none));
      };
    })

-- counting a line changes nothing else
pub counted : {I : Type 0} {state : I → InputState} {old new : LineReaderValue I} {result : Result Next LineStop}
    {bytes : List ℕ} (n : ℕ) → ReadsOn state old new (TakesNextLine old new result bytes)
    → let after = record new { lines = n } in ReadsOn state old after (TakesNextLine old after result bytes)
counted n h = record {
  reading = let was = h.reading in search (rules, was.under_way, was.final);
  before = h.before;
  holds = λ c of. let took = h.holds c of in record { line = took.line; sum = took.sum };
}

-- a final answer is returned again
pub settled_again : {I : Type 0} {state : I → InputState} {r : LineReaderValue I} (answer : Result Next LineStop)
    (bytes : List ℕ) → r.final_answer ≡ Some answer → IsReading state r
    → ReadsOn state r r (TakesNextLine r r answer bytes)
settled_again answer bytes is reading = record {
  reading = reading;
  before = λ c of. of;
  holds = λ c of. record { line = reading.final answer is bytes c of; sum = λ no_fault. refl };
}

-- ---- what a caller keeps

-- what follows holds, too
pub ReadsOn-map : {I : Type 0} {state : I → InputState} {old new : LineReaderValue I}
    {P Q : Content → Content → Type 0} → ReadsOn state old new P → ((c d : Content) → P c d → Q c d)
    → ReadsOn state old new Q
ReadsOn-map h f = record { reading = h.reading; before = h.before; holds = λ c of. f _ _ (h.holds c of) }

-- one call reads on, and then another
pub ReadsOn-then : {I : Type 0} {state : I → InputState} {a b c : LineReaderValue I}
    {P Q R : Content → Content → Type 0} → ReadsOn state a b P → ReadsOn state b c Q
    → ((x y z : Content) → P x y → Q y z → R x z) → ReadsOn state a c R
ReadsOn-then h k f = record {
  reading = k.reading;
  before = λ content of. h.before content (k.before content of);
  holds = λ content of. f _ _ _ (h.holds content (k.before content of)) (k.holds content of);
}
