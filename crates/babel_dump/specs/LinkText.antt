-- The lines of `links`: this project's own. A place, an address and a time are written as in the
-- lines of the other commands.
use Rattle.std.specs.Prelude.{ℕ, ◌==◌, if◌then◌else◌, List, ◌++◌, codes, Option, None, Some}
use Rattle.std.specs.Fmt.{decimal}
use Rattle.babel_capture.specs.Times.{within_years}
use Rattle.babel_selection.specs.Links.{infinite}
use Rattle.babel_dump.specs.CaptureText.{interval_json, interval_text, number_json}
use Rattle.babel_dump.specs.RunText.{newline}
use Rattle.babel_dump.specs.Spelling.{address_text}
use Rattle.babel_dump.specs.TimeText.{time_json, time_or}
use Rattle.babel_dump.specs.declared.format.Format.{Format}
use Rattle.babel_dump.specs.declared.format.Format.TheVariants as formats
use Rattle.babel_dump.specs.declared.link_row.LinkRow.{LinkRow}
use Rattle.babel_dump.specs.declared.spelling.Spelling.{Spelling}

-- a cost, `infinite`, or `-` where none is said
abbrev pub cost_text : Option ℕ → List ℕ
cost_text None = codes "-"
cost_text (Some cost) = if cost == infinite then codes "infinite" else decimal cost

-- `hears ADDRESS rxcost N back N last TIME hellos N missed N interval N.NN`
abbrev pub link_text : Spelling → LinkRow → List ℕ
link_text spelling row =
    codes "hears " ++ address_text spelling row.neighbour
    ++ codes " rxcost " ++ cost_text row.rxcost ++ codes " back " ++ cost_text row.back
    ++ codes " last " ++ time_or (within_years row.last)
    ++ codes " hellos " ++ decimal row.hellos ++ codes " missed " ++ decimal row.missed
    ++ codes " interval " ++ interval_text row.interval ++ newline

-- what the JSON object of a line has of Hellos, and its end
abbrev pub counts_json : LinkRow → List ℕ
counts_json row =
    codes ",\"hellos\":" ++ decimal row.hellos ++ codes ",\"missed\":" ++ decimal row.missed
    ++ codes ",\"interval\":" ++ interval_json row.interval ++ codes "}" ++ newline

-- `"neighbour":"ADDRESS","rxcost":N,"back":N,"last":"TIME","hellos":N,"missed":N,"interval":N.NN}`
abbrev pub link_json : Spelling → LinkRow → List ℕ
link_json spelling row =
    codes "\"neighbour\":\"" ++ address_text spelling row.neighbour
    ++ codes "\",\"rxcost\":" ++ number_json row.rxcost
    ++ codes ",\"back\":" ++ number_json row.back
    ++ codes ",\"last\":" ++ time_json (within_years row.last) ++ counts_json row

abbrev pub link_in : Format → LinkRow → List ℕ
link_in (formats.Text style) row = link_text style.spelling row
link_in (formats.Json style) row = link_json style.spelling row
