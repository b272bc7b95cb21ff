-- What the runs write, in the format that is asked for: this project's own.
use Rattle.std.specs.Prelude.{ℕ, Bool, if◌then◌else◌, List, [], ◌++◌, codes, length, take, Option}
use Rattle.std.specs.List.{flat_map}
use Rattle.babel_prefix.specs.Address.{Address}
use Rattle.babel_tlv.specs.declared.held.Held.{Held}
use Rattle.babel_tlv.specs.declared.view.View.{View}
use Rattle.babel_tlv.specs.Pair.{Pair}
use Rattle.babel_tlv.specs.Route.{RouteKey}
use Rattle.babel_tlv.specs.Views.{keeps_all}
use Rattle.babel_table.specs.Counts.{Counts}
use Rattle.babel_table.specs.RowFor.{row_at}
use Rattle.babel_table.specs.Rows.{Routes}
use Rattle.babel_table.specs.TableRows.{family_rows}
use Rattle.babel_table.specs.declared.row_place.RowPlace.{RowPlace}
use Rattle.babel_canon.specs.declared.verdict.Verdict.{Verdict}
use Rattle.babel_canon.specs.declared.every_difference.Difference.{Difference}
use Rattle.babel_dump.specs.JsonText.{count_json, counts_json, difference_json}
use Rattle.babel_dump.specs.JsonText.{lookup_json, pair_json, report_json, same_json, verdict_json}
use Rattle.babel_dump.specs.RunText.{answer_line, counts_text}
use Rattle.babel_dump.specs.RunText.{count_text, difference_text, newline, pair_line}
use Rattle.babel_dump.specs.RunText.{report_text, row_in, row_text, same_text, verdict_text}
use Rattle.babel_dump.specs.declared.addr_pair.AddrPair.{AddrPair}
use Rattle.babel_dump.specs.declared.format.Format.{Format}
use Rattle.babel_dump.specs.declared.format.Format.TheVariants as formats
use Rattle.babel_dump.specs.declared.job.Listed.{Listed}
use Rattle.babel_dump.specs.declared.job.Listed.TheVariants as listeds

-- the text, or the JSON that says the same
abbrev pub in_format : Format → (text json : List ℕ) → List ℕ
in_format (formats.Text style) text json = text
in_format (formats.Json style) text json = json

abbrev pub line_in : Format → View → RouteKey × Held → List ℕ
line_in (formats.Text style) view pair = pair_line style view pair
line_in (formats.Json style) view pair = pair_json style view pair

-- a line for each pair
abbrev pub pairs_in : Format → View → List (RouteKey × Held) → List ℕ
pairs_in format view pairs = flat_map (line_in format view) pairs

abbrev pub counts_in : Format → (rows pairs : ℕ) → List ℕ
counts_in format rows pairs = in_format format (counts_text rows pairs) (counts_json rows pairs)

-- the lines of the pairs, or how many rows and pairs there are
abbrev pub pairs_or_counts_in :
    Format → View → Bool → (rows pairs : List (RouteKey × Held)) → List ℕ
pairs_or_counts_in format view count rows pairs =
    if count then counts_in format (length rows) (length pairs) else pairs_in format view pairs

-- how many there are of what has this name
abbrev pub count_in : Format → List ℕ → ℕ → List ℕ
count_in format name count = in_format format (count_text name count) (count_json name count)

abbrev pub report_in : Format → Counts → List ℕ
report_in format counts = in_format format (report_text counts) (report_json counts)

-- a line for each row, and the report
abbrev pub show_in : Format → Routes → List ℕ
show_in format table = pairs_in format keeps_all table.rows ++ report_in format table.report

-- what is answered for a destination and a source by this row
abbrev pub lookup_in : Format → (with_prefix : Bool) → (dst src : Address) → Option Pair → List ℕ
lookup_in (formats.Text style) with_prefix dst src row =
    row_text style with_prefix row ++ newline
lookup_in (formats.Json style) with_prefix dst src row =
    lookup_json style with_prefix dst src row

abbrev pub answer_line_in :
    Format → (with_prefix : Bool) → (dst src : Address) → Option Pair → List ℕ
answer_line_in (formats.Text style) with_prefix dst src row =
    answer_line style with_prefix dst src row
answer_line_in (formats.Json style) with_prefix dst src row =
    lookup_json style with_prefix dst src row

-- the line of what a table answers for a pair of addresses
abbrev pub pair_in : Format → (with_prefix : Bool) → Routes → AddrPair → List ℕ
pair_in format with_prefix table pair =
    answer_line_in format with_prefix pair.dst pair.src (row_in table pair.dst pair.src)

-- a line for each pair of addresses
abbrev pub each_in : Format → (with_prefix : Bool) → Routes → List AddrPair → List ℕ
each_in format with_prefix table pairs = flat_map (pair_in format with_prefix table) pairs

-- the line by the row that stands at this place among those of the family, and one for each
abbrev pub placed_line_in : Format → (with_prefix : Bool) → Routes → AddrPair × RowPlace → List ℕ
placed_line_in format with_prefix table (pair, place) =
    answer_line_in format with_prefix pair.dst pair.src
    (row_at (family_rows pair.dst.family table.rows) place)

abbrev pub placed_in :
    Format → (with_prefix : Bool) → Routes → List (AddrPair × RowPlace) → List ℕ
placed_in format with_prefix table placed =
    flat_map (placed_line_in format with_prefix table) placed

abbrev pub verdict_in : Format → View → Verdict → List ℕ
verdict_in (formats.Text style) view verdict = verdict_text style view verdict
verdict_in (formats.Json style) view verdict = verdict_json style view verdict

abbrev pub difference_in : Format → View → Difference → List ℕ
difference_in (formats.Text style) view difference = difference_text style view difference
difference_in (formats.Json style) view difference = difference_json style view difference

-- `same` where there is no difference
abbrev pub differences_in : Format → View → List Difference → List ℕ
differences_in format view [] = in_format format same_text same_json
differences_in format view differences = flat_map (difference_in format view) differences

-- what says each difference, or how many there are
abbrev pub differences_or_count_in : Format → View → Bool → List Difference → List ℕ
differences_or_count_in format view count differences =
    if count then count_in format (codes "differences") (length differences)
    else differences_in format view differences

-- the name of their number: JSON has the one that it has in a summary
abbrev pub rows_name : Format → List ℕ
rows_name format = in_format format (codes "rows") (codes "routes")

-- a line for each row, or how many there are
abbrev pub rows_or_count_in : Format → View → Bool → List (RouteKey × Held) → List ℕ
rows_or_count_in format view count rows =
    if count then count_in format (rows_name format) (length rows) else pairs_in format view rows

-- the differences that are listed: the first alone, or all
abbrev pub listed_of : Listed → List Difference → List Difference
listed_of listeds.First differences = take 1 differences
listed_of listed differences = differences

-- what says each of these differences, or how many there are
abbrev pub listing_in : Format → View → Listed → List Difference → List ℕ
listing_in format view listeds.Count differences =
    count_in format (codes "differences") (length differences)
listing_in format view listed differences = differences_in format view differences

-- what says the first difference, each, or how many there are
abbrev pub listed_in : Format → View → Listed → List Difference → List ℕ
listed_in format view listed differences =
    listing_in format view listed (listed_of listed differences)
