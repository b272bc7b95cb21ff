-- The first alone is taken of all that is left.
use Rattle.std.proofs.Common.{◌∙◌, ap, refl, take}
use Rattle.std.proofs.lemmas.Iterator.{YieldsList-from_take, items_from_collect}
use Rattle.std.proofs.lemmas.Iterator.Consumers.{YieldsList-at, YieldsList-from_first}
use Rattle.std.proofs.lemmas.Result.{IfOk-weaker}
use Rattle.babel_canon.specs.Joined.{differences_left}
use Rattle.babel_canon.specs.declared.every_difference.Difference.{Difference}
use Rattle.babel_dump.proofs.both.SeenTables.first_route_difference.Goals as goal

pub returns : goal.returns
returns c =
    let all = YieldsList-from_first (λ (d : Difference). d) differences_left (differences_left c.route_differences.result) refl in
    IfOk-weaker c.collect.result _ _ (λ first is. is ∙ ap (take 1) c.route_differences.ensures.value)
    (items_from_collect c.collect.result c.collect.ensures.ran (YieldsList-from_take 1 (YieldsList-at c.take.ensures.source all) c.take.ensures.count))
