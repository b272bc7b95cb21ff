-- The lines that the runs of captures write: this project's own.
use Rattle.std.specs.Prelude.{ℕ, ◌/◌, ◌%◌, Bool, true, false, List, []}
use Rattle.std.specs.Prelude.{◌∷◌, ◌++◌}
use Rattle.std.specs.Prelude.{map, codes, Option, None, Some}
use Rattle.std.specs.List.{flat_map}
use Rattle.std.specs.Fmt.{decimal}
use Rattle.babel_capture.specs.Gathering.{Gathering, name_of}
use Rattle.babel_capture.specs.Place.{vlan_numbers}
use Rattle.babel_capture.specs.Tallies.{Senders}
use Rattle.babel_capture.specs.declared.place.Place.{Place}
use Rattle.babel_capture.specs.declared.place.Vlans.{Vlans}
use Rattle.babel_capture.specs.declared.tallies.Origin.{Origin}
use Rattle.babel_capture.specs.declared.tallies.Tally.{Tally}
use Rattle.babel_dump.specs.InFormat.{in_format}
use Rattle.babel_dump.specs.JsonText.{quoted}
use Rattle.babel_dump.specs.NameText.{json_escape, name_json, name_text, text_escape}
use Rattle.babel_dump.specs.RunText.{form_text, newline}
use Rattle.babel_dump.specs.Spelling.{address_text}
use Rattle.babel_dump.specs.TimeText.{time_json, time_or, two_digits}
use Rattle.babel_dump.specs.declared.format.Format.{Format}
use Rattle.babel_dump.specs.declared.format.Format.TheVariants as formats
use Rattle.babel_dump.specs.declared.spelling.Spelling.{Spelling}

abbrev pub escape : Format → List ℕ
escape format = in_format format text_escape json_escape

-- ` link N`, or nothing where there is none
abbrev pub link_text : Option ℕ → List ℕ
link_text None = []
link_text (Some number) = codes " link " ++ decimal number

-- the number, or `null`
abbrev pub number_json : Option ℕ → List ℕ
number_json None = codes "null"
number_json (Some number) = decimal number

-- numbers in decimal: the first after one mark, each later one after the other
abbrev pub marked : (first later : List ℕ) → List ℕ → List ℕ
marked first later [] = []
marked first later (number ∷ numbers) = first ++ decimal number ++ marked later later numbers

-- ` vlan N.N`, or nothing where there are none
abbrev pub vlans_text : Vlans → List ℕ
vlans_text vlans = marked (codes " vlan ") (codes ".") (vlan_numbers vlans)

-- `[N,N]`
abbrev pub vlans_json : Vlans → List ℕ
vlans_json vlans = codes "[" ++ marked [] (codes ",") (vlan_numbers vlans) ++ codes "]"

-- hundredths of a second in seconds, `N.NN`
abbrev pub seconds_text : ℕ → List ℕ
seconds_text hundredths =
    decimal (hundredths / 100) ++ codes "." ++ two_digits (hundredths % 100)

-- an Interval in seconds, or `-` or `null` where there is none
abbrev pub interval_text : Option ℕ → List ℕ
interval_text None = codes "-"
interval_text (Some interval) = seconds_text interval

abbrev pub interval_json : Option ℕ → List ℕ
interval_json None = codes "null"
interval_json (Some interval) = seconds_text interval

-- the times of a sender are told where each packet of the capture has one
abbrev pub with_times : (has_untimed : Bool) → Tally → Tally
with_times true tally = record tally { first = None; last = None }
with_times false tally = tally

-- `ADDRESS interface N`, and ` link N vlan N.N packets N octets N updates N interval N.NN first
-- TIME last TIME trailers N`
abbrev pub sender_front : Spelling → Origin → List ℕ
sender_front spelling origin =
    address_text spelling origin.sender ++ codes " interface " ++ decimal origin.place.interface

abbrev pub sender_end : Place → Tally → List ℕ
sender_end place tally =
    link_text place.link ++ vlans_text place.vlans ++ codes " packets " ++ decimal tally.packets
    ++ codes " octets " ++ decimal tally.octets ++ codes " updates " ++ decimal tally.updates
    ++ codes " interval " ++ interval_text tally.interval ++ codes " first " ++ time_or tally.first
    ++ codes " last " ++ time_or tally.last ++ codes " trailers " ++ decimal tally.trailers
    ++ newline

-- `ADDRESS interface N (NAME) link N vlan N.N packets N octets N updates N interval N.NN first TIME
-- last TIME trailers N`
abbrev pub sender_line : Spelling → (name : List ℕ) → Origin × Tally → List ℕ
sender_line spelling name sender =
    sender_front spelling sender.0 ++ name_text name ++ sender_end sender.0.place sender.1

-- `,"interface":N,"link":N,"vlans":[N,N],"name":`
abbrev pub place_json : Place → List ℕ
place_json place =
    codes ",\"interface\":" ++ decimal place.interface
    ++ codes ",\"link\":" ++ number_json place.link ++ codes ",\"vlans\":"
    ++ vlans_json place.vlans
    ++ codes ",\"name\":"

-- `{"sender":"ADDRESS","interface":N,"link":N,"vlans":[N,N],"name":`, and
-- `,"packets":N,"octets":N,"updates":N,"interval":N.NN,"first":"TIME","last":"TIME","trailers":N}`
abbrev pub sender_front_json : Spelling → Origin → List ℕ
sender_front_json spelling origin =
    codes "{\"sender\":" ++ quoted (address_text spelling origin.sender) ++ place_json origin.place

abbrev pub sender_end_json : Tally → List ℕ
sender_end_json tally =
    codes ",\"packets\":" ++ decimal tally.packets ++ codes ",\"octets\":" ++ decimal tally.octets
    ++ codes ",\"updates\":" ++ decimal tally.updates
    ++ codes ",\"interval\":" ++ interval_json tally.interval
    ++ codes ",\"first\":" ++ time_json tally.first
    ++ codes ",\"last\":" ++ time_json tally.last
    ++ codes ",\"trailers\":" ++ decimal tally.trailers ++ codes "}" ++ newline

-- `{"sender":"ADDRESS","interface":N,"link":N,"vlans":[N,N],"name":"NAME"`, and then
-- `,"packets":N,"octets":N,"updates":N,"interval":N.NN,"first":"TIME","last":"TIME","trailers":N}`
abbrev pub sender_json : Spelling → (name : List ℕ) → Origin × Tally → List ℕ
sender_json spelling name sender =
    sender_front_json spelling sender.0 ++ name_json name ++ sender_end_json sender.1

abbrev pub sender_in : Format → (name : List ℕ) → Origin × Tally → List ℕ
sender_in (formats.Text style) name sender = sender_line style.spelling name sender
sender_in (formats.Json style) name sender = sender_json style.spelling name sender

-- with the name that the capture has for its interface
abbrev pub named_in : Format → Gathering → Origin × Tally → List ℕ
named_in format gathering sender =
    sender_in format (name_of gathering sender.0.place.interface)
    (sender.0, with_times gathering.report.timing.has_untimed sender.1)

-- a line for each sender at each place
abbrev pub senders_in : Format → Gathering → List ℕ
senders_in format gathering = flat_map (named_in format gathering) gathering.senders

-- 1 where there is no sender
abbrev pub senders_status : Senders → ℕ
senders_status [] = 1
senders_status (sender ∷ senders) = 0

-- 1 where there is no line
abbrev pub text_status : List ℕ → ℕ
text_status [] = 1
text_status (octet ∷ octets) = 0

-- the place of each sender
abbrev pub places_of : Senders → List Place
places_of senders = map (λ sender. sender.0.place) senders

-- the dump as it is or in hexadecimal, and nothing where it is empty
abbrev pub dump_text : (hex : Bool) → List ℕ → List ℕ
dump_text hex [] = []
dump_text hex (octet ∷ octets) = form_text hex (octet ∷ octets)
