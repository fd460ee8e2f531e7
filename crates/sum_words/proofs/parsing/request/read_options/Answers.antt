use Rattle.std.proofs.Common.{arith, ◌≡◌, ◌∙◌, ap, ◌∷◌}
use Rattle.sum_words.{proofs.RequestLemmas.no_early_request, specs.parsing.Items.option, specs.private.Items.item_value}
use Rattle.sum_words.proofs.parsing.request.read_options.Goals as goal

-- an option other than help and version is chosen, and decides nothing early
pub loop-item-preserved-in_default-flag : goal.loop-item-preserved-in_default-flag
loop-item-preserved-in_default-flag g c =
    let rest = c.next.new.self in
    let taken : c.loop-item.items ≡ option c.in-Flag.flag ∷ rest =
    c.in-Some.ensures.steps ∙ ap (λ i. item_value i ∷ rest) c.in-Flag.is in
    record {
      chosen = c.with_flag-chosen.ensures rest _ (rw taken at c.loop-item.invariant.chosen);
      early = grind (arith, no_early_request, taken);
    }
