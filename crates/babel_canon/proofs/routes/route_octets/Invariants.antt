-- The rows so far are written, and the others are those that are left.
use Rattle.std.proofs.Common.{◌≡◌, ◌++◌}
use Rattle.babel_table.specs.Left.{rows_left}
use Rattle.babel_canon.specs.Writing.{IsTextOf}
use Rattle.babel_canon.proofs.routes.route_octets.Given as goal

abbrev pub invariant-loop-key : goal.invariant-loop-key
invariant-loop-key l = record {
  whole : l.yielded ++ rows_left l.key-iterator ≡ l.fn.table.rows;
  text : IsTextOf l.fn.body l.text l.yielded;
}
