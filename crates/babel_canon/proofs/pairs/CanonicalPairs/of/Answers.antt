-- The boxes of both families, with their values, are those of the table; and so many are too many.
use Rattle.std.proofs.Common.{◌<◌, length, arith, inl, refl}
use Rattle.babel_canon.specs.Values.{valued_pairs}
use Rattle.babel_canon.proofs.ManyBoxes.{no_grid}
use Rattle.babel_canon.proofs.SinkLaws.{boxes-length, boxes_canonical, boxes_of_both}
use Rattle.babel_canon.proofs.pairs.CanonicalPairs.of.Goals as goal

pub returns-in_default-clause-err : goal.returns-in_default-clause-err
returns-in_default-clause-err c = inl (refl, c.in_ok-grids.ensures.many (no_grid c.in_ok-grids.field-0 c.in_default.not-Some))

pub returns-then-count-entries-clause-err : goal.returns-then-count-entries-clause-err
returns-then-count-entries-clause-err c =
    let values = c.of.new.values.list.items in
    let v4 = c.in-Some.grids.v4.boxes in
    let v6 = c.in-Some.grids.v6.boxes in
    let v4_are = rw c.in-Some.is at c.in_ok-grids.ensures.v4_boxes in
    let v6_are = rw c.in-Some.is at c.in_ok-grids.ensures.v6_boxes in
    let are = boxes_of_both values c.args.table.now.rows v4 v6 c.of.ensures.rows v4_are v6_are in
    let many : c.args.limits.entries < length (valued_pairs values v4 v6) = omega (arith, boxes-length values v4 v6, c.count.ensures, c.entries.ensures.value, c.if-count-entries.true) in
    inl (refl, (valued_pairs values v4 v6, are, many))

pub returns-clause-ok : goal.returns-clause-ok
returns-clause-ok c =
    let values = c.of.new.values.list.items in
    let v4 = c.in-Some.grids.v4.boxes in
    let v6 = c.in-Some.grids.v6.boxes in
    let v4_are = rw c.in-Some.is at c.in_ok-grids.ensures.v4_boxes in
    let v6_are = rw c.in-Some.is at c.in_ok-grids.ensures.v6_boxes in
    boxes_canonical values c.args.limits c.args.table.now.rows v4 v6 (boxes_of_both values c.args.table.now.rows v4 v6 c.of.ensures.rows v4_are v6_are)
    (omega (arith, c.count.ensures, c.entries.ensures.value, c.if-count-entries.false))
