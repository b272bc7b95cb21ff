-- What `show` writes: the rows that a filter keeps, or how many they are. These are this project's
-- own.
use Rattle.std.specs.Prelude.{ℕ, Bool, true, false, if◌then◌else◌, nat_lt}
use Rattle.std.specs.Prelude.{List, [], ◌++◌, codes, length, filter, Option, None, Some}
use Rattle.std.specs.List.{filter_map, fold}
use Rattle.std.specs.Cmp.Lexicographic.{slice_cmp}
use Rattle.std.specs.Fmt.{decimal}
use Rattle.std.specs.BTreeSet.{insert_key}
use Rattle.std.specs.Ordering.{nat_cmp}
use Rattle.std.specs.declared.cmp.Ordering.{Ordering}
use Rattle.babel_prefix.specs.Address.{Address}
use Rattle.babel_prefix.specs.Order.{address_cmp}
use Rattle.babel_prefix.specs.declared.family.Family.TheVariants.{V4, V6}
use Rattle.babel_tlv.specs.declared.held.Held.{Held}
use Rattle.babel_tlv.specs.declared.held.Held.TheVariants as helds
use Rattle.babel_tlv.specs.Pair.{Pair}
use Rattle.babel_tlv.specs.Views.{keeps_all}
use Rattle.babel_table.specs.Counts.{Counts}
use Rattle.babel_table.specs.Rows.{Routes}
use Rattle.babel_table.specs.TableRows.{family_rows}
use Rattle.babel_dump.specs.Filter.{kept_rows}
use Rattle.babel_dump.specs.InFormat.{in_format, pairs_in, report_in}
use Rattle.babel_dump.specs.JsonText.{report_members}
use Rattle.babel_dump.specs.RunText.{newline, report_text}
use Rattle.babel_dump.specs.declared.filter.Filter.{Filter}
use Rattle.babel_dump.specs.declared.format.Format.{Format}
use Rattle.babel_dump.specs.declared.summary.FamilySummary.{FamilySummary}
use Rattle.babel_dump.specs.declared.summary.Summary.{Summary}

-- RFC 9079, 3.2: whether the row is for some sources alone
abbrev pub is_source_specific : Pair → Bool
is_source_specific row = nat_lt 0 row.0.src.len

abbrev pub is_unreachable : Held → Bool
is_unreachable (helds.Route ann) = false
is_unreachable helds.Unreachable = true

-- how many rows there are, how many of them have a source, and how many are unreachable
abbrev pub counts_of : List Pair → FamilySummary
counts_of rows = record {
  routes = length rows;
  source_specific = length (filter is_source_specific rows);
  unreachable = length (filter (λ row. is_unreachable row.1) rows);
}

-- what a route has
abbrev pub router_id_of : Held → Option (List ℕ)
router_id_of (helds.Route ann) = Some ann.router_id
router_id_of helds.Unreachable = None

abbrev pub next_hop_of : Held → Option Address
next_hop_of (helds.Route ann) = Some ann.next_hop
next_hop_of helds.Unreachable = None

-- the values that rows have, as a set: each is put into it unless an equal one is there
abbrev pub set_of : {A : Type 0} → (A → A → Ordering) → (Held → Option A) → List Pair → List A
set_of cmp value_of rows = fold (insert_key cmp) [] (filter_map (λ row. value_of row.1) rows)

abbrev pub router_ids : List Pair → List (List ℕ)
router_ids = set_of (slice_cmp nat_cmp) router_id_of

abbrev pub next_hops : List Pair → List Address
next_hops = set_of address_cmp next_hop_of

abbrev pub summary_of : List Pair → Summary
summary_of rows = record {
  ipv4 = counts_of (family_rows V4 rows);
  ipv6 = counts_of (family_rows V6 rows);
  router_ids = length (router_ids rows);
  next_hops = length (next_hops rows);
}

-- `NAME routes N source-specific N unreachable N`
abbrev pub family_line : List ℕ → FamilySummary → List ℕ
family_line name family =
    name ++ codes " routes " ++ decimal family.routes
    ++ codes " source-specific " ++ decimal family.source_specific
    ++ codes " unreachable " ++ decimal family.unreachable ++ newline

-- a line of each family, and `router-ids N next-hops N`
abbrev pub summary_text : Summary → List ℕ
summary_text summary =
    family_line (codes "ipv4") summary.ipv4 ++ family_line (codes "ipv6") summary.ipv6
    ++ codes "router-ids " ++ decimal summary.router_ids
    ++ codes " next-hops " ++ decimal summary.next_hops ++ newline

-- `{"routes":N,"source_specific":N,"unreachable":N}`
abbrev pub family_json : FamilySummary → List ℕ
family_json family =
    codes "{\"routes\":" ++ decimal family.routes
    ++ codes ",\"source_specific\":" ++ decimal family.source_specific
    ++ codes ",\"unreachable\":" ++ decimal family.unreachable ++ codes "}"

-- `"ipv4":FAMILY,"ipv6":FAMILY,"router_ids":N,"next_hops":N`
abbrev pub summary_members : Summary → List ℕ
summary_members summary =
    codes "\"ipv4\":" ++ family_json summary.ipv4 ++ codes ",\"ipv6\":" ++ family_json summary.ipv6
    ++ codes ",\"router_ids\":" ++ decimal summary.router_ids
    ++ codes ",\"next_hops\":" ++ decimal summary.next_hops

-- what `--quiet` leaves out
abbrev pub unless : (quiet : Bool) → List ℕ → List ℕ
unless quiet text = if quiet then [] else text

-- one object: the members of a summary, and those of a report
abbrev pub summary_json : (quiet : Bool) → Summary → Counts → List ℕ
summary_json quiet summary counts =
    codes "{" ++ summary_members summary ++ unless quiet (codes "," ++ report_members counts)
    ++ codes "}" ++ newline

-- a summary, and a report
abbrev pub summary_in : Format → (quiet : Bool) → Summary → Counts → List ℕ
summary_in format quiet summary counts =
    in_format format (summary_text summary ++ unless quiet (report_text counts))
    (summary_json quiet summary counts)

-- a line for each row that the filter keeps, or their summary, and the report of the whole dump
abbrev pub shown_in : Format → Filter → (summary quiet : Bool) → Routes → List ℕ
shown_in format filter summary quiet table =
    let rows = kept_rows filter table.rows in
    if summary then summary_in format quiet (summary_of rows) table.report
    else pairs_in format keeps_all rows ++ unless quiet (report_in format table.report)
