use Rattle.std.proofs.{Common.rules, Common.arith, Common.refl, Common.ap, Common.◌≡◌, Common.◌≤◌, Common.◌++◌}
use Rattle.std.proofs.{Common.List, Common.ℕ, Common.length, Common.length-append, Common.drop, Common.◌∙◌}
use Rattle.std.proofs.{Math.Seq.drop-append_seam}
use Rattle.sum_sources.specs.inputs.Input.{Content, Reads, Fits, clip, reads_past, Unfinished}
use Rattle.sum_sources.{proofs.LimitLemmas.before_more, specs.Fault.Ending, specs.private.SizeLimit.FindsEnding}
use Rattle.sum_sources.proofs.inputs.hash_input.hash_input_with_buffer.Goals as goal

-- the ending was read after these bytes
ended : {t : ℕ} {a b : Reads} {e : Ending} (front m : List ℕ) → a ≡ record { bytes = front ++ m; phase = Unfinished }
    → length m ≡ t
    → ((k : ℕ) → k ≤ length a.bytes → a.phase ≡ Unfinished → FindsEnding t (reads_past k a) (reads_past k b) e)
    → (c : Content) → Fits (reads_past (length front) b) c → clip c ≡ record { bytes = m; ending = e }
ended {a = a} front m was size ends c of =
    let low : length front ≤ length a.bytes = rw was (rw length-append (omega arith)) in
    let rest : drop (length front) a.bytes ≡ m = rw was (drop-append_seam front m) in
    (ends (length front) low (ap (λ (r : Reads). r.phase) was)).content (ap length rest ∙ size) c of ∙ rw rest refl

-- a content that all reads fit also fits those before the call
before : {t : ℕ} (old a b : Reads) {e : Ending} (m : List ℕ) → old.phase ≡ Unfinished
    → a ≡ record { bytes = old.bytes ++ m; phase = Unfinished } → FindsEnding t (reads_past 0 a) (reads_past 0 b) e
    → (c : Content) → Fits b c → Fits old c
before old a b m going was ends c of = before_more old a m going (rw (was, going) refl) c (ends.before c of)

-- a read failed, or the limit was reached
pub returns-in-Err-clause-hashed : goal.returns-in-Err-clause-hashed
returns-in-Err-clause-hashed g c =
    let i = c.loop-n.invariant in
    let counted = g.met.H.Hasher.counts c.loop-n.hasher i.read.0 i.read.1 in
    let ends = c.in-Err.ensures.reads.adds in
    record {
      same = search rules;
      reads = λ going. record {
        digest = λ d of. rw (ended _ i.read.0 (i.read.2 going) (omega (arith, i.taken, counted)) ends d of) refl;
        before = before _ _ _ i.read.0 going (i.read.2 going) (ends 0 (omega arith) (i.phase going));
        end = tt;
        past = (ends 0 (omega arith) (i.phase going)).past;
      };
    }

-- the end was read, and the hasher holds all that was read before
pub returns-then-n-eq0-clause-hashed : goal.returns-then-n-eq0-clause-hashed
returns-then-n-eq0-clause-hashed g c =
    let i = c.loop-n.invariant in
    let counted = g.met.H.Hasher.counts c.loop-n.hasher i.read.0 i.read.1 in
    let ends = (rw c.if-n-eq0.true at c.in-Ok.ensures.reads).adds in
    record {
      same = search rules;
      reads = λ going. record {
        digest = λ d of.
            rw (← i.kind, ended _ i.read.0 (i.read.2 going) (omega (arith, i.taken, counted)) ends d of)
            (refl, c.finish.ensures.value i.read.0 i.read.1);
        before = before _ _ _ i.read.0 going (i.read.2 going) (ends 0 (omega arith) (i.phase going));
        end = (ends 0 (omega arith) (i.phase going)).end refl;
        past = (ends 0 (omega arith) (i.phase going)).past;
      };
    }
