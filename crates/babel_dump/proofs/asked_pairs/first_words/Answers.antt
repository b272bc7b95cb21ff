use Rattle.std.proofs.Common.{rules, tests}
use Rattle.std.proofs.lemmas.Iterator.{YieldsList-from_take}
use Rattle.std.proofs.lemmas.Iterator.Consumers.{map_from_collect, YieldsList-at, YieldsList-from_filter}
use Rattle.std.proofs.lemmas.Iterator.Splits.{YieldsList-from_slice_split}
use Rattle.babel_dump.proofs.asked_pairs.first_words.Goals as goal

pub returns : goal.returns
returns c =
    let parts = YieldsList-from_slice_split _ _ c.args.line.now c.split.ensures.rest c.split.ensures.done c.split.ensures.closure (λ x r q k. search (rules, tests)) in
    let words = YieldsList-from_filter _ _ (YieldsList-at c.filter.ensures.source parts) c.filter.ensures.closure (λ x r q k. search (rules, tests)) in
    map_from_collect _ c.collect.ensures.ran (YieldsList-from_take 3 (YieldsList-at c.take.ensures.source words) c.take.ensures.count)
