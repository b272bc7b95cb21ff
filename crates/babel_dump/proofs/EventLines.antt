-- The line of an event, part by part.
use Rattle.std.proofs.Common.{◌≡◌, ℕ, List, [], ◌∷◌, ◌++◌, Option}
use Rattle.std.specs.Prelude.{codes}
use Rattle.babel_tlv.specs.declared.view.View.{View}
use Rattle.babel_timeline.specs.declared.telling.Telling.{Telling}
use Rattle.babel_dump.specs.CaptureText.{escape}
use Rattle.babel_dump.specs.NameText.{escaped, json_escape, text_escape}
use Rattle.babel_dump.specs.EventParts.{event_after_name, event_to_name}
use Rattle.babel_dump.specs.EventText.{event_end, event_end_json, event_front, event_front_json, event_in}
use Rattle.babel_dump.specs.declared.addr_pair.AddrPair.{AddrPair}
use Rattle.babel_dump.specs.declared.format.Format.{Format}
use Rattle.babel_dump.specs.declared.format.Format.TheVariants as formats
use Rattle.babel_dump.specs.declared.speaker.Speaker.{Speaker}
use Rattle.babel_dump.proofs.SenderLines.{name_between}

-- the parts before the octets of the name, these, and those after them are the line
pub event_parts : (format : Format) (view : View) (pair : Option AddrPair) (name : List ℕ) (told : Telling Speaker)
    → event_in format view pair name told ≡ event_to_name format name told ++ (escaped (escape format) name ++ event_after_name format view pair name told)
event_parts (formats.Text style) view pair [] told = name_between (event_front style [] told) [] [] [] (event_end style view told)
event_parts (formats.Text style) view pair (octet ∷ octets) told =
    name_between (event_front style (octet ∷ octets) told) (codes " (") (escaped text_escape (octet ∷ octets)) (codes ")") (event_end style view told)
event_parts (formats.Json style) view pair [] told = name_between (event_front_json style told) (codes "null") [] [] (event_end_json style view pair told)
event_parts (formats.Json style) view pair (octet ∷ octets) told =
    name_between (event_front_json style told) (codes "\"") (escaped json_escape (octet ∷ octets)) (codes "\"") (event_end_json style view pair told)
