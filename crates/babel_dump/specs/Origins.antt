-- How a summary is made, row by row: this project's own.
use Rattle.std.specs.Prelude.{◌≡◌, ◌+◌, if◌then◌else◌, List}
use Rattle.babel_tlv.specs.Pair.{Pair}
use Rattle.babel_dump.specs.Summary.{is_source_specific, is_unreachable, next_hops, router_ids}
use Rattle.babel_dump.specs.declared.summary.FamilySummary.{FamilySummary}
use Rattle.babel_dump.specs.declared.summary.Origins.{Origins}

-- the summary of one row more
abbrev pub one_more : FamilySummary → Pair → FamilySummary
one_more summary row = record {
  routes = summary.routes + 1;
  source_specific = summary.source_specific + (if is_source_specific row then 1 else 0);
  unreachable = summary.unreachable + (if is_unreachable row.1 then 1 else 0);
}

-- they are the router-ids and the next hops of the rows
pub record AreOrigins (origins : Origins) (rows : List Pair) : Type 0 where
  pub router_ids : origins.router_ids.keys ≡ router_ids rows
  pub next_hops : origins.next_hops.keys ≡ next_hops rows
