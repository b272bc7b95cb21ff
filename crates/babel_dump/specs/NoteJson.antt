-- The objects of notes, which come after all others of the output as JSON (RFC 8259), with the
-- members in the order that is shown here. These are this project's own.
use Rattle.std.specs.Prelude.{ℕ, List, [], ◌++◌, codes}
use Rattle.std.specs.Fmt.{decimal}
use Rattle.babel_prefix.specs.Address.{Address}
use Rattle.babel_capture.specs.declared.tallies.Origin.{Origin}
use Rattle.babel_table.specs.Counts.{Counts}
use Rattle.babel_dump.specs.CaptureText.{place_json, seconds_text}
use Rattle.babel_dump.specs.NameText.{name_json}
use Rattle.babel_dump.specs.JsonText.{comma_separated, counted_objects, quoted, report_members}
use Rattle.babel_dump.specs.LeftOut.{left_out_for, left_out_name, told_reasons}
use Rattle.babel_dump.specs.RunText.{newline}
use Rattle.babel_dump.specs.Spelling.{address_text}
use Rattle.babel_dump.specs.declared.left_out.LeftOutNote.{LeftOutNote}
use Rattle.babel_dump.specs.declared.note.Note.{Note}
use Rattle.babel_dump.specs.declared.note.Note.TheVariants as notes
use Rattle.babel_dump.specs.declared.note.SideNote.{SideNote}
use Rattle.babel_dump.specs.declared.run_fault.Side.{Side}
use Rattle.babel_dump.specs.declared.run_fault.Side.TheVariants as sides
use Rattle.babel_dump.specs.declared.spelling.Spelling.{Spelling}

abbrev pub note_name : Note → List ℕ
note_name (notes.Ignored note) = codes "ignored"
note_name (notes.LeftOut note) = codes "left-out"
note_name notes.Cooked = codes "cooked-1"
note_name (notes.Sections sections) = codes "sections"
note_name (notes.Trailers packets) = codes "trailers"
note_name (notes.CaptureCut at) = codes "capture-cut"
note_name (notes.TooShort frames) = codes "too-short"
note_name (notes.Backwards packet) = codes "backwards"
note_name (notes.NotFollowed packet) = codes "not-followed"
note_name (notes.ShortSpan span interval) = codes "short-span"
note_name (notes.Expired routes) = codes "expired"
note_name notes.NoUpdates = codes "no-updates"
note_name notes.NoIhus = codes "no-ihus"
note_name (notes.RoutesDiffer routes) = codes "routes-differ"
note_name (notes.Source spelling source) = codes "source"
note_name (notes.Feasibility spelling address announced keys) = codes "feasibility"
note_name (notes.Ties keys) = codes "ties"

-- `,"NAME":N`
abbrev pub number_member : (name : List ℕ) → ℕ → List ℕ
number_member name number = codes ",\"" ++ name ++ codes "\":" ++ decimal number

-- `,"NAME":N.NN`, of hundredths of a second
abbrev pub seconds_member : (name : List ℕ) → ℕ → List ℕ
seconds_member name hundredths =
    codes ",\"" ++ name ++ codes "\":" ++ seconds_text hundredths

-- `,"tlvs":N,"ignored":[..]`
abbrev pub ignored_members : Counts → List ℕ
ignored_members counts = codes "," ++ report_members counts

-- `,"reasons":[..]`, with an object for each reason that is told and occurred: the first is the
-- number of a packet
abbrev pub left_out_members : LeftOutNote → List ℕ
left_out_members note =
    codes ",\"reasons\":["
    ++ comma_separated
    (counted_objects left_out_name (left_out_for note.report) (told_reasons note.told))
    ++ codes "]"

-- `,"address":"ADDRESS"`
abbrev pub address_member : Spelling → Address → List ℕ
address_member spelling address =
    codes ",\"address\":\"" ++ address_text spelling address ++ codes "\""

-- `,"source":"ADDRESS"`
abbrev pub source_member : Spelling → Address → List ℕ
source_member spelling source =
    codes ",\"source\":" ++ quoted (address_text spelling source)

-- what a note says beside its name
abbrev pub note_members : Note → List ℕ
note_members (notes.Ignored note) = ignored_members note.report
note_members (notes.LeftOut note) = left_out_members note
note_members (notes.Sections sections) = number_member (codes "sections") sections
note_members (notes.Trailers packets) = number_member (codes "packets") packets
note_members (notes.CaptureCut at) = number_member (codes "at") at
note_members (notes.TooShort frames) = number_member (codes "frames") frames
note_members (notes.Backwards packet) = number_member (codes "packet") packet
note_members (notes.NotFollowed packet) = number_member (codes "packet") packet
note_members (notes.ShortSpan span interval) =
    seconds_member (codes "span") span ++ seconds_member (codes "interval") interval
note_members (notes.Expired routes) = number_member (codes "routes") routes
note_members (notes.RoutesDiffer routes) = number_member (codes "routes") routes
note_members (notes.Source spelling source) = source_member spelling source
note_members (notes.Feasibility spelling address announced keys) =
    address_member spelling address ++ number_member (codes "announced") announced
    ++ number_member (codes "keys") keys
note_members (notes.Ties keys) = number_member (codes "keys") keys
note_members notes.Cooked = []
note_members notes.NoUpdates = []
note_members notes.NoIhus = []

-- `,"other":true` where a note is about the other dump
abbrev pub side_member : Side → List ℕ
side_member sides.First = []
side_member sides.Other = codes ",\"other\":true"

-- what stands after the name of a note, or of the interface of its sender
abbrev pub note_rest : SideNote → List ℕ
note_rest told = note_members told.note ++ side_member told.side ++ codes "}" ++ newline

-- `{"note":"NAME",..}`
abbrev pub note_json : SideNote → List ℕ
note_json told =
    codes "{\"note\":\"" ++ note_name told.note ++ codes "\"" ++ note_rest told

-- ---- of a sender at its place, whose interface has this name

-- `{"note":"NAME","sender":"ADDRESS","interface":N,"link":N,"vlans":[N,N],"name":`
abbrev pub note_front : Spelling → Origin → Note → List ℕ
note_front spelling origin note =
    codes "{\"note\":\"" ++ note_name note ++ codes "\",\"sender\":\""
    ++ address_text spelling origin.sender ++ codes "\"" ++ place_json origin.place

-- `{"note":"NAME","sender":"ADDRESS","interface":N,"link":N,"vlans":[N,N],"name":"NAME",..}`
abbrev pub note_of_sender : Spelling → Origin → (name : List ℕ) → SideNote → List ℕ
note_of_sender spelling origin name told =
    note_front spelling origin told.note ++ name_json name ++ note_rest told
