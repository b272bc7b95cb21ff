use Rattle.babel_prefix.specs.declared.family.Family.TheVariants.{V4}
use Rattle.babel_canon.proofs.ManyBoxes.{no_grid, many_of_v4, many_of_v6}
use Rattle.babel_canon.proofs.ValueLists.{boxes_still}
use Rattle.babel_canon.proofs.grids.Grids+PackedValue.of.Goals as goal

pub returns-in_default-clause-many : goal.returns-in_default-clause-many
returns-in_default-clause-many c _ =
    many_of_v4 c.args.limits c.args.table.now.rows c.rows-valid.ensures.valid (c.in_ok-v4.ensures.many (no_grid c.in_ok-v4.field-0 c.in_default.not-Some))

pub returns-in_default-2-clause-many : goal.returns-in_default-2-clause-many
returns-in_default-2-clause-many c _ =
    many_of_v6 c.args.limits c.args.table.now.rows c.rows-valid.ensures.valid (c.in_ok-v6.ensures.many (no_grid c.in_ok-v6.field-0 c.in_default-2.not-Some))

pub returns-clause-v4_boxes : goal.returns-clause-v4_boxes
returns-clause-v4_boxes c =
    boxes_still c.family_grid.new.values.list.items c.family_grid-2.new.values.list.items c.in_ok-v6.ensures.keeps V4 c.args.table.now.rows c.in-Some.v4.boxes
    (rw c.in-Some.is at c.in_ok-v4.ensures.boxes)
