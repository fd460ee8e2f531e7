use Rattle.std.proofs.{Common.rules, Common.arith, Common.refl, Common.ap, Common.sym, Common.append-nil, Common.◌≡◌}
use Rattle.std.proofs.{Common.◌∙◌, Common.[], Common.Ok, Common.Err, Common.length, lemmas.Grind.common_steps}
use Rattle.std.proofs.{lemmas.List.nil_from_length}
use Rattle.sum_sources.proofs.ReadOnLemmas.{adds_of, HasRead, HasRead-more, HasRead-filled, ends_line, ends_memory}
use Rattle.sum_sources.proofs.ReadOnLemmas.{no_line, ReadsOn-ending}
use Rattle.sum_sources.specs.{LineReader.IsReading, LineReader.LineReaderValue, Fault.Whole, Fault.Broken}
use Rattle.sum_sources.specs.LineReader.{HasNoNewline, Line, NoMore}
use Rattle.sum_sources.proofs.{line_reader.LineReader.read_on.Goals.In-Ok-false, LineLemmas.IsNextLine-last}
use Rattle.sum_sources.proofs.{LineLemmas.IsNextLine-fault}
use Rattle.sum_sources.specs.declared.line_reader.LineStop.TheVariants as stops
use Rattle.sum_sources.proofs.line_reader.LineReader.read_on.Given as given
use Rattle.sum_sources.proofs.line_reader.LineReader.read_on.Goals as goal

-- a newline ended the line
pub returns-in-Ok-true-clause-line : goal.returns-in-Ok-true-clause-line
returns-in-Ok-true-clause-line g c =
    let piece = rw c.in-Ok-true.field-0-test at c.in-Ok-true.ensures.piece in
    let i = c.loop-line.invariant in
    let same = c.in-Ok-true.ensures.same in
    rw c.drop_return.ensures (λ reading. ends_line (i.read reading) i.plain same c.take_piece.ensures.taken
    (ap (λ (r : LineReaderValue _). r.final_answer) same ∙ i.going) piece)

-- memory was refused
pub returns-in-Err-clause-line : goal.returns-in-Err-clause-line
returns-in-Err-clause-line g c =
    let refused = c.in-Err.ensures in
    let i = c.loop-line.invariant in
    λ reading. ends_memory (i.read reading) i.plain (rw refused.err at c.take_piece.ensures.taken) refused.ahead
    (search rules) _

-- the whole buffer moved to the line
moved : (g : given.Over) (c : In-Ok-false g)
    → (IsReading g.I.Input.state c.args.self.now
    → HasRead g.I.Input.state c.args.self.now c.take_piece.new.self c.take_piece.new.line.items)
    × HasNoNewline c.take_piece.new.line.items × (c.take_piece.new.self.ahead ≡ [])
moved g c =
    let piece = rw c.in-Ok-false.field-0-test at c.in-Ok-false.ensures.piece in
    let same = c.in-Ok-false.ensures.same in (
      λ reading. rw piece.2 (HasRead-more (c.loop-line.invariant.read reading) _ c.take_piece.new.self.ahead
          c.take_piece.ensures.taken same
          (rw piece.1 (sym (append-nil c.loop-line.self.ahead)))),
      grind (arith, common_steps, c.loop-line.invariant.plain, piece.0),
      piece.1,
    )

-- more bytes are ahead
pub loop-line-preserved : goal.loop-line-preserved
loop-line-preserved g c =
    let (read, plain, none) = moved g (goal.at.loop-line-preserved g c).In-Ok-false in
    let piece = rw c.in-Ok-false.field-0-test at c.in-Ok-false.ensures.piece in
    let fills = c.in-Ok.ensures in
    record {
      read = λ reading. let h = read reading in
          HasRead-filled h _ (search rules) none
          (adds_of _ c.fill.new.self h.under_way fills.counts fills.reads) fills.reader;
      going = search rules;
      sum = search rules;
      plain = plain;
      taken = search rules;
      same = search rules;
      lines = search rules;
      unread = λ some. absurd (some (rw (c.loop-line.invariant.unread some) at piece.0));
    }

-- the input has ended, and the line is empty
pub returns-then-is_empty-clause-line : goal.returns-then-is_empty-clause-line
returns-then-is_empty-clause-line g c =
    let (read, plain, none) = moved g (goal.at.returns-then-is_empty-clause-line g c).In-Ok-false in
    let fills = rw c.in-Ok-eq0.field-0-test at c.in-Ok-eq0.ensures.reads in
    let counts = rw c.in-Ok-eq0.field-0-test at c.in-Ok-eq0.ensures.reader in
    λ reading.
    let h = read reading in
    ReadsOn-ending c.fill.new.self Whole (Ok NoMore) h none
    (adds_of _ c.fill.new.self h.under_way c.in-Ok-eq0.ensures.counts fills) counts.0 (omega (arith, counts.1))
    (rw (← c.self-in-loop-line.view_is) refl)
    (rw (nil_from_length c.take_piece.new.line.items (search rules)) (no_line Whole []))
    (λ no_fault. omega (arith, counts.1))

-- the input has ended after a last line
pub returns-in-Ok-eq0-clause-line : goal.returns-in-Ok-eq0-clause-line
returns-in-Ok-eq0-clause-line g c =
    let (read, plain, none) = moved g (goal.at.returns-in-Ok-eq0-clause-line g c).In-Ok-false in
    let fills = rw c.in-Ok-eq0.field-0-test at c.in-Ok-eq0.ensures.reads in
    let counts = rw c.in-Ok-eq0.field-0-test at c.in-Ok-eq0.ensures.reader in
    rw c.drop_return-in-Ok-eq0.ensures (λ reading.
    let h = read reading in
    ReadsOn-ending c.fill.new.self Whole (Ok Line) h none
    (adds_of _ c.fill.new.self h.under_way c.in-Ok-eq0.ensures.counts fills) counts.0 (omega (arith, counts.1))
    (rw (← c.self-in-loop-line.view_is) refl) (IsNextLine-last _ plain (search rules))
    (λ no_fault. omega (arith, counts.1)))

-- the input has a fault
pub returns-in-Err-fill-clause-line : goal.returns-in-Err-fill-clause-line
returns-in-Err-fill-clause-line g c =
    let (read, plain, none) = moved g (goal.at.returns-in-Err-fill-clause-line g c).In-Ok-false in
    let e = c.in-Err-fill.ensures in
    λ reading.
    let h = read reading in
    ReadsOn-ending c.fill.new.self (Broken _) (Err (stops.Fault _)) h none
    (adds_of _ c.fill.new.self h.under_way e.counts e.reads) (ap length e.reader.0)
    e.reader.1
    (ap (λ a. record c.fill.new.self { final_answer = a }) e.reader.2)
    (IsNextLine-fault _ _ plain) (λ no_fault. absurd (no_fault _ refl))
