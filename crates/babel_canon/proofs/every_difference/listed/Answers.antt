-- The sink has the differences of the boxes that the grids put out.
use Rattle.std.proofs.Common.{[], refl, ◌∙◌}
use Rattle.babel_canon.proofs.PackedDifferences.{differences_of_both}
use Rattle.babel_canon.proofs.every_difference.listed.Goals as goal

pub returns : goal.returns
returns c =
    (c.in_ok-put_boxes.ensures.ok (record { values = c.args.values; list = c.in_ok-with_capacity.field-0 }) [] (record { values_are = refl; list_is = c.in_ok-with_capacity.ensures.items })).list_is
    ∙ differences_of_both c.args.values.now.list.items c.args.grids.v4.boxes c.args.grids.v6.boxes
