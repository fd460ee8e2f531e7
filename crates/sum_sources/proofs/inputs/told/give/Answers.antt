use Rattle.std.proofs.Common.{arith, refl, ◌≡◌, ◌+◌, ◌++◌, ℕ, List, length, take, drop, ◌-◌, length-drop}
use Rattle.std.proofs.{Math.Seq.take-append_seam, Math.Seq.take-add, lemmas.Grind.common_steps, lemmas.List.take_all}
use Rattle.sum_sources.proofs.inputs.told.give.Goals as goal

-- the bytes that were copied are those that come next
next_bytes : (bytes copied rest : List ℕ) (m n : ℕ) → copied ≡ take n (drop m bytes) → length copied ≡ n
    → take (m + n) bytes ≡ take m bytes ++ take n (copied ++ rest)
next_bytes bytes copied rest m n is size = rw (take-add m n bytes, ← is, ← size, take-append_seam) refl

-- some bytes were left
pub returns-clause-gives : goal.returns-clause-gives
returns-clause-gives c =
    let h = c.copy_from_slice.ensures in
    let bytes = c.args.bytes.now in
    let m = c.args.given.now in
    let n = c.min-n.result in
    let rest : take (length bytes - m) (drop m bytes) ≡ drop m bytes =
    take_all _ _ (omega (arith, length-drop m bytes)) in
    let size : length c.copy_from_slice.new.self ≡ n = grind (arith, common_steps, h.len) in
    record {
      bytes = next_bytes bytes c.copy_from_slice.new.self _ m n (rw rest at h.after) size;
      ending = λ none some. absurd (grind (arith, common_steps));
    }
