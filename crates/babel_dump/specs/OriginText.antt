-- What `show --origins` and `diff --origins` write. These are this project's own.
use Rattle.std.specs.Prelude.{ℕ, Bool, true, ◌&&◌, not, ◌==◌, ◌-◌, if◌then◌else◌}
use Rattle.std.specs.Prelude.{List, [], ◌++◌, codes, filter, is_none, is_some, length, nat_lt}
use Rattle.std.specs.Prelude.{Option, None, Some}
use Rattle.std.specs.List.{flat_map}
use Rattle.std.specs.Fmt.{decimal}
use Rattle.babel_dump.specs.DiffText.{row_end, row_mark, stat_json, stat_text}
use Rattle.babel_dump.specs.Files.{name_of}
use Rattle.babel_dump.specs.InFormat.{in_format}
use Rattle.babel_dump.specs.JsonText.{addressed_json, kept_json, line_end, router_json}
use Rattle.babel_dump.specs.KeyText.{file_text}
use Rattle.babel_dump.specs.Names.{named_router}
use Rattle.babel_dump.specs.RunText.{differences_status, kept_text, newline}
use Rattle.babel_dump.specs.Spelling.{from_prefix, prefix_text}
use Rattle.babel_dump.specs.declared.each_sender.EachSender.{EachSender}
use Rattle.babel_dump.specs.declared.format.Format.{Format}
use Rattle.babel_dump.specs.declared.format.Format.TheVariants as formats
use Rattle.babel_dump.specs.declared.originated.Announced.{Announced}
use Rattle.babel_dump.specs.declared.originated.OnSides.{OnSides}
use Rattle.babel_dump.specs.declared.originated.Origination.{Origination}
use Rattle.babel_dump.specs.declared.origins_job.Origins.{Origins}
use Rattle.babel_dump.specs.declared.run_fault.Side.{Side}
use Rattle.babel_dump.specs.declared.run_fault.Side.TheVariants as sides
use Rattle.babel_dump.specs.declared.style.Style.{Style}

-- how the captures on this side are read, if there are any
abbrev pub captures_on : Side → Origins → Option EachSender
captures_on sides.First origins = Some origins.left
captures_on sides.Other origins = origins.right

-- `DST from SRC id ROUTERID metric N senders N`
abbrev pub origin_text : Style → (has_metric : Bool) → Origination → Announced → List ℕ
origin_text style has_metric one announced =
    prefix_text style.spelling one.key.dst ++ from_prefix style.spelling one.key.src
    ++ codes " id " ++ named_router style one.router_id
    ++ codes " metric " ++ kept_text has_metric (decimal announced.metric)
    ++ codes " senders " ++ decimal announced.senders

-- `{"destination":"DST","source":"SRC","router_id":"ROUTERID",`, with the name where names are
-- asked for
abbrev pub origin_front : Style → Origination → List ℕ
origin_front style one =
    let dst = prefix_text style.spelling one.key.dst in
    let src = prefix_text style.spelling one.key.src in
    codes "{" ++ addressed_json dst src
    ++ codes ",\"router_id\":" ++ router_json style true one.router_id ++ codes ","

-- `"metric":N,"senders":N`
abbrev pub origin_members : (has_metric : Bool) → Announced → List ℕ
origin_members has_metric announced =
    codes "\"metric\":" ++ kept_json has_metric (decimal announced.metric)
    ++ codes ",\"senders\":" ++ decimal announced.senders

abbrev pub origin_json : Style → Origination → Announced → List ℕ
origin_json style one announced =
    origin_front style one ++ origin_members true announced ++ line_end

-- ---- of captures on one side

-- a line of what they have
abbrev pub shown_by : Format → Origination → Option Announced → List ℕ
shown_by format one None = []
shown_by (formats.Text style) one (Some announced) =
    origin_text style true one announced ++ newline
shown_by (formats.Json style) one (Some announced) = origin_json style one announced

abbrev pub shown_in : Format → Origination × OnSides → List ℕ
shown_in format one = shown_by format one.0 one.1.left

-- ---- of two

-- one has it alone, or another metric counts
abbrev pub differ_by : (has_metric : Bool) → (left right : Option Announced) → Bool
differ_by has_metric None right = is_some right
differ_by has_metric (Some left) None = true
differ_by has_metric (Some left) (Some right) = has_metric && not (left.metric == right.metric)

abbrev pub differs : (has_metric : Bool) → OnSides → Bool
differs has_metric one = differ_by has_metric one.left one.right

abbrev pub changes_of : (has_metric : Bool) → List (Origination × OnSides)
    → List (Origination × OnSides)
changes_of has_metric all = filter (λ one. differs has_metric one.1) all

-- `-ORIGIN`, `+ORIGIN`, or nothing where the captures on this side do not have it
abbrev pub marked_origin : Style → (coloured has_metric : Bool) → Side → Origination
    → Option Announced → List ℕ
marked_origin style coloured has_metric side one None = []
marked_origin style coloured has_metric side one (Some announced) =
    row_mark coloured side ++ origin_text style has_metric one announced ++ row_end coloured

abbrev pub change_line : Style → (coloured has_metric : Bool) → Origination → OnSides → List ℕ
change_line style coloured has_metric one on =
    marked_origin style coloured has_metric sides.First one on.left
    ++ marked_origin style coloured has_metric sides.Other one on.right

-- `{"metric":N,"senders":N}`, or `null`
abbrev pub side_json : (has_metric : Bool) → Option Announced → List ℕ
side_json has_metric None = codes "null"
side_json has_metric (Some announced) =
    codes "{" ++ origin_members has_metric announced ++ codes "}"

-- `{"destination":"DST","source":"SRC","router_id":"ROUTERID","left":SIDE,"right":SIDE}`
abbrev pub change_json : Style → (has_metric : Bool) → Origination → OnSides → List ℕ
change_json style has_metric one on =
    origin_front style one ++ codes "\"left\":" ++ side_json has_metric on.left
    ++ codes ",\"right\":" ++ side_json has_metric on.right ++ line_end

abbrev pub change_in : Format → (coloured has_metric : Bool) → Origination × OnSides → List ℕ
change_in (formats.Text style) coloured has_metric one =
    change_line style coloured has_metric one.0 one.1
change_in (formats.Json style) coloured has_metric one = change_json style has_metric one.0 one.1

-- how many the first has alone, the other alone, both with another metric, and both alike
abbrev pub numbers_in : Format → (count : ℕ) → List (Origination × OnSides) → List ℕ
numbers_in format count changes =
    let gone = length (filter (λ (one : Origination × OnSides). is_none one.1.right) changes) in
    let new = length (filter (λ (one : Origination × OnSides). is_none one.1.left) changes) in
    let changed = length changes - gone - new in
    let alike = count - length changes in
    in_format format (stat_text gone new changed alike) (stat_json gone new changed alike)

abbrev pub numbers_after :
    Format → (stat : Bool) → (count : ℕ) → List (Origination × OnSides) → List ℕ
numbers_after format stat count changes = if stat then numbers_in format count changes else []

-- ` and N more`, if there are more than the one that is named
abbrev pub and_more : (more : ℕ) → List ℕ
and_more more = if nat_lt 0 more then codes " and " ++ decimal more ++ codes " more" else []

-- `--- FILE`, `+++ FILE`: that of the first capture on a side, and how many more there are
abbrev pub origin_head : (mark file : List ℕ) → (more : ℕ) → List ℕ
origin_head mark file more = mark ++ file_text file ++ and_more more ++ newline

abbrev pub origin_changes : Origins → (count : ℕ) → List (Origination × OnSides) → List ℕ
origin_changes origins count changes =
    flat_map (change_in origins.left.format origins.style.coloured origins.has_metric) changes
    ++ numbers_after origins.left.format origins.style.stat count changes

-- nothing where there is no change
abbrev pub changed_text :
    Origins → (other_file : List ℕ) → (count : ℕ) → List (Origination × OnSides) → List ℕ
changed_text origins other_file count [] = []
changed_text origins other_file count changes =
    origin_head (codes "--- ") (name_of origins.left.file) (length origins.more_left.items)
    ++ origin_head (codes "+++ ") other_file (length origins.more_right.items)
    ++ origin_changes origins count changes

-- as JSON an object for each change, and the numbers also where there is none
abbrev pub changed_in :
    Format → Origins → (other_file : List ℕ) → (count : ℕ) → List (Origination × OnSides) → List ℕ
changed_in (formats.Text style) origins other_file count changes =
    changed_text origins other_file count changes
changed_in (formats.Json style) origins other_file count changes =
    origin_changes origins count changes

-- ---- of either

abbrev pub origins_by : Option EachSender → Origins → List (Origination × OnSides) → List ℕ
origins_by None origins all = flat_map (shown_in origins.left.format) all
origins_by (Some right) origins all = changed_in origins.left.format origins (name_of right.file)
    (length all) (changes_of origins.has_metric all)

abbrev pub origins_in : Origins → List (Origination × OnSides) → List ℕ
origins_in origins all = origins_by origins.right origins all

-- 1 where there is a change
abbrev pub status_by : Option EachSender → Origins → List (Origination × OnSides) → ℕ
status_by None origins all = 0
status_by (Some right) origins all =
    differences_status (length (changes_of origins.has_metric all))

abbrev pub origins_status : Origins → List (Origination × OnSides) → ℕ
origins_status origins all = status_by origins.right origins all
