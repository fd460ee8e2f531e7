use Rattle.std.proofs.Common.{arith, ◌≡◌, ℕ, slice_range}
use Rattle.std.specs.Prelude.{◌↔◌}
use Rattle.digest_kinds.specs.Bytes.{ByteString}
use Rattle.sum_lines.specs.{grammar.Entries.EntryValue, grammar.ParsedLines.entry, grammar.ParsedLines.parsed_line_of}
use Rattle.sum_lines.specs.declared.reading.read_line.Reading.{Reading}
use Rattle.sum_lines.specs.declared.reading.read_line.Reading.TheVariants as readings
use Rattle.theorems.proofs.lines.line_read.Goals as goal

-- what is read is an entry if and only if it is that of the line's vector
entry_is : (line : ByteString) (read : Reading) (found : EntryValue) → (parsed_line_of line read ≡ entry found)
    ↔ ((start stop : ℕ) × (read ≡ readings.Entry found.kind found.digest start stop)
    × (slice_range line start stop ≡ found.name))
entry_is line readings.Ignored found = (λ is. cc, λ is. cc)
entry_is line readings.Bad found = (λ is. cc, λ is. cc)
entry_is line (readings.Entry kind digest start stop) found =
    (λ is. (start, stop, grind arith, grind arith), λ (x, y, are, name). grind arith)

pub returns-clause-entry : goal.returns-clause-entry
returns-clause-entry g c = λ found.
    let fits = c.read_line.ensures.grammar.when_entry found in
    let is = entry_is c.read_line.new.line.items c.read_line.result.0 found in
    (λ spelled. is.0 (fits.1 spelled), λ read. fits.0 (is.1 read))
