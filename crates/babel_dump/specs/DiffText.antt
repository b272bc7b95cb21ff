-- What `diff` writes: text as people read changes, or JSON. These are this project's own. The
-- escapes that colour are those of ECMA-48, 8.3.117.
use Rattle.std.specs.Prelude.{ℕ, Bool, if◌then◌else◌, ◌-◌, List, [], ◌∷◌, ◌++◌, codes}
use Rattle.std.specs.Prelude.{length, filter, is_none, Option, None, Some}
use Rattle.std.specs.List.{flat_map}
use Rattle.std.specs.Fmt.{decimal}
use Rattle.babel_capture.specs.declared.place.Place.{Place}
use Rattle.babel_tlv.specs.declared.held.Held.{Held}
use Rattle.babel_tlv.specs.declared.view.View.{View}
use Rattle.babel_tlv.specs.Route.{RouteKey}
use Rattle.babel_canon.specs.declared.every_difference.Difference.{Difference}
use Rattle.babel_dump.specs.CaptureText.{link_text, vlans_text}
use Rattle.babel_dump.specs.InFormat.{difference_in, in_format}
use Rattle.babel_dump.specs.KeyText.{file_text}
use Rattle.babel_dump.specs.Names.{named_address, style_of}
use Rattle.babel_dump.specs.RunText.{newline, pair_text}
use Rattle.babel_dump.specs.declared.format.Format.{Format}
use Rattle.babel_dump.specs.declared.format.Format.TheVariants as formats
use Rattle.babel_dump.specs.declared.job.DiffStyle.{DiffStyle}
use Rattle.babel_dump.specs.declared.reading.Reading.{Reading}
use Rattle.babel_dump.specs.declared.run_fault.Side.{Side}
use Rattle.babel_dump.specs.declared.run_fault.Side.TheVariants as sides
use Rattle.babel_dump.specs.declared.style.Style.{Style}

-- ` interface N link N vlan N.N`, or nothing where no place is named
abbrev pub place_text : Option Place → List ℕ
place_text None = []
place_text (Some place) =
    codes " interface " ++ decimal place.interface ++ link_text place.link ++ vlans_text place.vlans

-- `FILE ADDRESS interface N link N vlan N.N`: the file, the sender of its dump, and its place
abbrev pub head_line : Style → (mark file : List ℕ) → Reading → List ℕ
head_line style mark file reading =
    mark ++ file_text file ++ codes " " ++ named_address style reading.sender
    ++ place_text reading.place ++ newline

abbrev pub head_lines :
    Style → (file other_file : List ℕ) → (reading other_reading : Reading) → List ℕ
head_lines style file other_file reading other_reading =
    head_line style (codes "--- ") file reading
    ++ head_line style (codes "+++ ") other_file other_reading

-- the escape that sets this, where there are colours
abbrev pub escape : (coloured : Bool) → List ℕ → List ℕ
escape coloured number = if coloured then 27 ∷ codes "[" ++ number ++ codes "m" else []

-- `-` in red, `+` in green
abbrev pub row_mark : (coloured : Bool) → Side → List ℕ
row_mark coloured sides.First = escape coloured (codes "31") ++ codes "-"
row_mark coloured sides.Other = escape coloured (codes "32") ++ codes "+"

-- no colour any more, and the line's end
abbrev pub row_end : (coloured : Bool) → List ℕ
row_end coloured = escape coloured (codes "0") ++ newline

-- `-ROW`, `+ROW`, or nothing where the dump on this side has no row
abbrev pub marked_row :
    Style → (coloured : Bool) → View → Side → RouteKey → Option Held → List ℕ
marked_row style coloured view side key None = []
marked_row style coloured view side key (Some held) =
    row_mark coloured side ++ pair_text style view (key, held) ++ row_end coloured

abbrev pub change_text : Style → (coloured : Bool) → View → Difference → List ℕ
change_text style coloured view difference =
    marked_row style coloured view sides.First difference.key difference.left
    ++ marked_row style coloured view sides.Other difference.key difference.right

-- `N gone, N new, N changed, N alike`
abbrev pub stat_text : (gone new changed alike : ℕ) → List ℕ
stat_text gone new changed alike =
    decimal gone ++ codes " gone, " ++ decimal new ++ codes " new, "
    ++ decimal changed ++ codes " changed, " ++ decimal alike ++ codes " alike" ++ newline

-- `{"gone":N,"new":N,"changed":N,"alike":N}`
abbrev pub stat_json : (gone new changed alike : ℕ) → List ℕ
stat_json gone new changed alike =
    codes "{\"gone\":" ++ decimal gone ++ codes ",\"new\":" ++ decimal new
    ++ codes ",\"changed\":" ++ decimal changed ++ codes ",\"alike\":" ++ decimal alike ++ codes "}"
    ++ newline

-- the keys that the other dump lacks, those that the first lacks, the others of which there is a
-- difference, and the others of the first, which has so many rows
abbrev pub stat_in : Format → (rows : ℕ) → List Difference → List ℕ
stat_in format rows differences =
    let gone = length (filter (λ d. is_none d.right) differences) in
    let new = length (filter (λ d. is_none d.left) differences) in
    let changed = length differences - gone - new in
    let alike = rows - gone - changed in
    in_format format (stat_text gone new changed alike) (stat_json gone new changed alike)

-- how many there are, if that is asked for
abbrev pub stat_after : Format → (stat : Bool) → (rows : ℕ) → List Difference → List ℕ
stat_after format stat rows differences = if stat then stat_in format rows differences else []

-- nothing where there is no difference
abbrev pub diff_text :
    Format → DiffStyle → View → (heads : List ℕ) → (rows : ℕ) → List Difference → List ℕ
diff_text format style view heads rows [] = []
diff_text format style view heads rows differences =
    heads ++ flat_map (change_text (style_of format) style.coloured view) differences
    ++ stat_after format style.stat rows differences

-- as JSON an object for each difference, and the numbers also where there is none
abbrev pub diff_in :
    Format → DiffStyle → View → (heads : List ℕ) → (rows : ℕ) → List Difference → List ℕ
diff_in (formats.Text of_text) style view heads rows differences =
    diff_text (formats.Text of_text) style view heads rows differences
diff_in (formats.Json of_json) style view heads rows differences =
    flat_map (difference_in (formats.Json of_json) view) differences
    ++ stat_after (formats.Json of_json) style.stat rows differences
