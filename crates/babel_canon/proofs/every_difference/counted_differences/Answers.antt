-- The packed boxes of both families, with their values, are the differences; and so many are too many.
use Rattle.std.proofs.Common.{inl, refl, ◌<◌, length, arith}
use Rattle.babel_canon.specs.PackedDifferences.{valued_differences}
use Rattle.babel_canon.proofs.DifferenceLists.{valued-length}
use Rattle.babel_canon.proofs.ManyBoxes.{no_grid}
use Rattle.babel_canon.proofs.ManyDifferences.{many_of_v4, many_of_v6}
use Rattle.babel_canon.proofs.PackedDifferences.{are_valued, differences_still}
use Rattle.babel_canon.proofs.ValueLists.{distinct}
use Rattle.babel_canon.proofs.every_difference.counted_differences.Goals as goal

pub returns-in_default-clause-err : goal.returns-in_default-clause-err
returns-in_default-clause-err c = inl (refl, many_of_v4 c.args.limits c.args.left.now.rows c.args.right.now.rows (c.in_ok-v4.ensures.many (no_grid c.in_ok-v4.field-0 c.in_default.not-Some)))

pub returns-in_default-2-clause-err : goal.returns-in_default-2-clause-err
returns-in_default-2-clause-err c = inl (refl, many_of_v6 c.args.limits c.args.left.now.rows c.args.right.now.rows (c.in_ok-v6.ensures.many (no_grid c.in_ok-v6.field-0 c.in_default-2.not-Some)))

pub returns-then-count-entries-clause-err : goal.returns-then-count-entries-clause-err
returns-then-count-entries-clause-err c =
    let values = c.family_differences-2.new.values in
    let v4 = c.in-Some.v4.boxes in
    let v6 = c.in-Some-2.v6.boxes in
    let still = differences_still c.family_differences.new.values.list.items values.list.items c.in_ok-v6.ensures.keeps _ c.args.left.now.rows
    c.args.right.now.rows v4 (rw c.in-Some.is at c.in_ok-v4.ensures.boxes) in
    let are = are_valued values.list.items (distinct values.list.items values.numbers c.in_ok-v6.ensures.numbered) c.args.left.now.rows
    c.args.right.now.rows v4 v6 still (rw c.in-Some-2.is at c.in_ok-v6.ensures.boxes) in
    let many : c.args.limits.entries < length (valued_differences values.list.items v4 v6) =
    omega (arith, valued-length values.list.items v4 v6, c.count.ensures, c.entries.ensures.value, c.if-count-entries.true) in
    inl (refl, (valued_differences values.list.items v4 v6, are, many))

pub returns-clause-differences : goal.returns-clause-differences
returns-clause-differences c =
    let values = c.family_differences-2.new.values in
    let v4 = c.in-Some.v4.boxes in
    let still = differences_still c.family_differences.new.values.list.items values.list.items c.in_ok-v6.ensures.keeps _ c.args.left.now.rows
    c.args.right.now.rows v4 (rw c.in-Some.is at c.in_ok-v4.ensures.boxes) in
    are_valued values.list.items
    (distinct values.list.items values.numbers c.in_ok-v6.ensures.numbered) c.args.left.now.rows c.args.right.now.rows v4 c.in-Some-2.v6.boxes still (rw c.in-Some-2.is at c.in_ok-v6.ensures.boxes)
