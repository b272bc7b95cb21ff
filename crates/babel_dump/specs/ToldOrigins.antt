-- Of which senders in a capture it is told what they originate: of all, and none is refused. It is
-- this project's own.
use Rattle.std.specs.Prelude.{◌≡◌, List, map, Some}
use Rattle.std.specs.List.{AllByRecursion, flat_map}
use Rattle.babel_capture.specs.declared.tallies.Origin.{Origin}
use Rattle.babel_table.specs.Rows.{Routes}
use Rattle.babel_tlv.specs.Pair.{Pair}
use Rattle.babel_dump.specs.Filter.{kept_rows}
use Rattle.babel_dump.specs.ToldPairs.{Heard, IsOwnRead}
use Rattle.babel_dump.specs.declared.each_sender.EachSender.{EachSender}
use Rattle.babel_dump.specs.declared.filter.Filter.{Filter}

-- a sender at its place, and the table of its own packets
pub record OwnRoutes : Type 0 where
  pub origin : Origin
  pub table : Routes

-- each of these senders has its table
pub record AreAllRead (each : EachSender) (heard : Heard) (senders : List Origin)
    (found : List OwnRoutes) : Type 0 where
  pub of_each : map (λ one. one.origin) found ≡ senders
  pub are_own : AllByRecursion (λ one. IsOwnRead each heard one.origin (Some one.table)) found

-- the rows that the filter keeps, of all of them
abbrev pub rows_of_all : Filter → List OwnRoutes → List Pair
rows_of_all filter found = flat_map (λ one. kept_rows filter one.table.rows) found
