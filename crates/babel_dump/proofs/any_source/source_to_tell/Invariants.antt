-- A source-specific row is among those that are left, if there is one.
use Rattle.babel_table.specs.Left.{rows_left}
use Rattle.babel_dump.specs.AnySource.{HasSourceSpecific}
use Rattle.babel_dump.proofs.any_source.source_to_tell.Given as goal

abbrev pub invariant-loop-key : goal.invariant-loop-key
invariant-loop-key l = record {
  all : HasSourceSpecific l.dst l.table.rows → HasSourceSpecific l.dst (rows_left l.key-iterator);
  among : HasSourceSpecific l.dst (rows_left l.key-iterator) → HasSourceSpecific l.dst l.table.rows;
}
