-- With the rows that are left they are those of all rows.
use Rattle.std.proofs.Common.{◌≡◌, ◌++◌}
use Rattle.std.specs.List.{filter_map}
use Rattle.babel_table.specs.Left.{rows_left}
use Rattle.babel_dump.specs.SelectOffers.{offered}
use Rattle.babel_dump.proofs.offered.Offered.offer.Given as goal

abbrev pub invariant-loop-key : goal.invariant-loop-key
invariant-loop-key l = l.self.offers.items ++ filter_map (offered l.is_own l.by l.cost) (rows_left l.key-iterator)
    ≡ l.fn.self.offers.items ++ filter_map (offered l.is_own l.by l.cost) l.fn.table.rows
