-- Lines without a carriage return are kept as they are.
use Rattle.std.proofs.Common.{rules, ◌≡◌, ◌≢◌, ℕ, List, [], ◌∷◌, map, refl, All}
use Rattle.std.{proofs.lemmas.List.Elements.All-head, proofs.lemmas.List.Elements.All-tail}
use Rattle.std.{specs.Str.Lines.strip_carriage_return}
use Rattle.sum_engine.specs.Laws.{HasNoCarriageReturn}

-- the byte is no carriage return
abbrev pub IsNoCarriageReturn : ℕ → Type 0
IsNoCarriageReturn b = b ≢ 13

-- a line without a carriage return stays as it is
strip-kept : (l : List ℕ) → HasNoCarriageReturn l → strip_carriage_return l ≡ l
strip-kept [] free = refl
strip-kept (b ∷ bs) free = search rules

-- lines without a carriage return stay as they are
pub strips-kept : (ls : List (List ℕ)) → All HasNoCarriageReturn ls → map strip_carriage_return ls ≡ ls
strips-kept [] all = refl
strips-kept (l ∷ ls) all = search (rules, All-head, strip-kept, strips-kept ls (All-tail HasNoCarriageReturn l ls all))
