-- What generation writes is good under checking.
use Rattle.std.proofs.Common.{rules, ◌≡◌, ℕ, false, List, [], ◌∷◌, length, map, refl, ap, sym, ◌∙◌, append-nil, map-id}
use Rattle.std.proofs.Common.{Ok, flat_map, All, Err}
use Rattle.std.proofs.lemmas.List.Elements.{All-nil, All-head, All-tail, All-append, All-map}
use Rattle.std.proofs.lemmas.{List.length-map, List.map-append, List.Concat.flat_map-append, List.Folds.flat_map-map}
use Rattle.std.proofs.lemmas.{Simd.map-map}
use Rattle.digest_kinds.specs.{Bytes.ByteString, Kind.message_digest, declared.algo.Algos.Algos}
use Rattle.sum_engine.proofs.{GoodLemmas.manifest_good, ListedEntryLemmas.Item, ListedEntryLemmas.written_text}
use Rattle.sum_engine.proofs.{ListedEntryLemmas.Listed}
use Rattle.sum_engine.specs.{Behavior.World, Behavior.answer_to, Behavior.world_after, Behavior.digest_or_fault}
use Rattle.sum_engine.specs.{Behavior.out_text, Behavior.names_in, Generate.generate_behavior, check.Report.out_by}
use Rattle.sum_engine.specs.{declared.check.judge.Verdict.TheVariants.Right}
use Rattle.sum_settings.specs.declared.settings.Settings.{Settings}
use Rattle.sum_sources.specs.sources.Source.{times, AnswerValue}
use Rattle.sum_sources.proofs.ContentLemmas.{clip-short}
use Rattle.sum_sources.specs.declared.fault.Ending.TheVariants.{Whole}
use Rattle.sum_words.specs.Tool.{name_of}
use Rattle.digests.specs.Laws.{IsListable, GenerationRun, generation_output, IsCheckable, HasFiles, IsAccepted}
use Rattle.digests.{proofs.CheckWords.request-check_words}
use Rattle.digests.specs.ToolRun.{operands_behavior}

-- ---- the lines of a run

-- what a file gave, as bytes
abbrev bytes_of : AnswerValue → List ℕ
bytes_of (Err f) = []
bytes_of (Ok c) = c.bytes

-- the line that a run writes for a name
abbrev item : (ByteString → AnswerValue) → Settings → ByteString → Item
item answer s name = record { mode = s.style.mode; kind = s.kind; name = name; bytes = bytes_of (answer name) }

-- the lines for all its names
abbrev items : (ByteString → AnswerValue) → GenerationRun → List Item
items answer g = map (item answer g.settings) g.names

module _ (algos : Algos) (files later : ByteString → AnswerValue) where
  -- the line of a file that can be listed, and those of several, one after another
  line-is : (s : Settings) (tool : ByteString) (w : World) (name : ByteString) → HasFiles w files
      → s.style.zero ≡ false → IsListable files name
      → out_text (generate_behavior s tool w name) ≡ written_text (item files s name)
  line-is s tool w name has newlines h =
      let read : digest_or_fault s.kind (answer_to w name) ≡ Ok (message_digest s.kind (bytes_of (files name))) =
      rw (
        has name (times name w.opened) h.no_dash,
        h.content,
        clip-short (record { bytes = h.bytes; ending = Whole }) h.fits,
      ) refl in
      rw (read, newlines, append-nil) refl

  lines-are : (s : Settings) (tool : ByteString) (names : List ByteString) (w : World) → HasFiles w files
      → s.style.zero ≡ false → All (IsListable files) names
      → out_text (operands_behavior (generate_behavior s tool) w names)
      ≡ flat_map written_text (map (item files s) names)
  lines-are s tool [] w has newlines all = refl
  lines-are s tool (name ∷ names) w has newlines all =
      let first = line-is s tool w name has newlines (All-head (IsListable files) name names all) in
      let others = lines-are s tool names (world_after w (names_in (generate_behavior s tool w name))) has newlines
      (All-tail (IsListable files) name names all) in
      rw (flat_map-append, first, others) refl

  -- the lines of several runs, one after another, are read back, are what they wrote, and are for all their names
  runs-are : (w : World) (gs : List GenerationRun) → HasFiles w files → All (IsCheckable algos files later) gs
      → All (Listed algos later) (flat_map (items files) gs)
      × (flat_map written_text (flat_map (items files) gs) ≡ flat_map (generation_output w) gs)
      × (map (λ i. i.name) (flat_map (items files) gs) ≡ flat_map (λ g. g.names) gs)
  runs-are w [] has all = (All-nil (Listed algos later), refl, refl)
  runs-are w (g ∷ gs) has all =
      let c = All-head (IsCheckable algos files later) g gs all in
      let others = runs-are w gs has (All-tail (IsCheckable algos files later) g gs all) in (
        All-append (Listed algos later) (items files g) (flat_map (items files) gs)
            (All-map (Listed algos later) (item files g.settings) g.names
            (λ k d less. let h = c.listable k d less in let same = c.same k d less in search rules)) others.0,
        rw (flat_map-append, ← lines-are g.settings g.tool g.names w has c.newlines c.listable, others.1) refl,
        rw (map-append, map-map, map-id, others.2) refl,
      )

-- what several runs wrote is a manifest of such lines
pub written_is_good : (gs : List GenerationRun) → IsAccepted gs
written_is_good gs t check manifest files later w v has same by all some fits given =
    let xs = flat_map (items files) gs in
    let are = runs-are check.algo files later w gs has all in
    let count : length xs ≡ length (flat_map (λ g. g.names) gs) = sym (length-map xs (λ i. i.name)) ∙ ap length are.2 in
    let f = manifest_good check (name_of t) manifest later v xs same are.0
    (rw count some) (rw are.1 fits) (rw are.1 given) in
    let asked = request-check_words t check manifest by in
    record {
      status = rw (asked, f.good) refl;
      out = rw (asked, append-nil) (f.out ∙ sym (flat_map-map (out_by check.report Right) (λ i. i.name) xs)
          ∙ ap (flat_map (out_by check.report Right)) are.2);
      err = rw (asked, append-nil) f.err;
    }
