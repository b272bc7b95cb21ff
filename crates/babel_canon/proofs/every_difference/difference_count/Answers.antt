-- The boxes are as many as the differences that they stand for.
use Rattle.std.proofs.Common.{arith}
use Rattle.babel_canon.proofs.DifferenceLists.{valued-length}
use Rattle.babel_canon.proofs.every_difference.difference_count.Goals as goal

pub returns-clause-ok : goal.returns-clause-ok
returns-clause-ok c = record {
  differences = _;
  are_differences = c.in_ok-grids.ensures.differences;
  count_is = omega (
    arith,
    c.count.ensures,
    c.in_ok-grids.ensures.few,
    c.entries-valid.ensures.value,
    valued-length c.counted_differences.new.values.list.items c.in_ok-grids.grids.v4.boxes c.in_ok-grids.grids.v6.boxes,
  );
}
