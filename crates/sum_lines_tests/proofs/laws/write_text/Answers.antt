use Rattle.std.proofs.Common.{◌≡◌, ◌++◌, Result, Ok, Err}
use Rattle.std.specs.Prelude.{OnErr, OnOk, ⊤}
use Rattle.digest_kinds.specs.Bytes.{ByteString}
use Rattle.sum_lines.specs.sinks.Output.{Gets, OutputState, output_events}
use Rattle.sum_lines.specs.sinks.GivesAll.{GetsPrefix, GivesAll}
use Rattle.sum_lines_tests.proofs.laws.write_text.Goals as goal

-- the events of the whole text happened
all_written : {E : Type 0} (a b : OutputState) (text : ByteString) (r : Result ⊤ E)
    → (Gets a b (output_events text) → b.written ≡ a.written ++ text) → GivesAll a b text r
    → OnOk r (b.written ≡ a.written ++ text)
all_written a b text (Ok u) law gave = law gave.0
all_written a b text (Err e) law gave = tt

-- those of a prefix happened
front_written : {E : Type 0} (a b : OutputState) (text : ByteString) (r : Result ⊤ E) (Front : Type 0)
    → (GetsPrefix a b (output_events text) → Front) → GivesAll a b text r → OnErr r Front
front_written a b text (Ok u) Front law gave = tt
front_written a b text (Err e) Front law gave = law gave.0

pub returns-clause-ok : goal.returns-clause-ok
returns-clause-ok g c = all_written _ _ _ _ (c.text_is_written.ensures.whole _ _ _) c.write.ensures.text

pub returns-clause-err : goal.returns-clause-err
returns-clause-err g c = front_written _ _ _ _ _ (c.text_is_written.ensures.prefix _ _ _) c.write.ensures.text
