-- Parts of the lines of `events` that functions inside make: this project's own.
use Rattle.std.specs.Prelude.{ℕ, List, ◌++◌, Option}
use Rattle.babel_tlv.specs.declared.view.View.{View}
use Rattle.babel_timeline.specs.declared.telling.Telling.{Telling}
use Rattle.babel_dump.specs.EventText.{event_end, event_end_json, event_front, event_front_json}
use Rattle.babel_dump.specs.TextParts.{closing, opening}
use Rattle.babel_dump.specs.declared.addr_pair.AddrPair.{AddrPair}
use Rattle.babel_dump.specs.declared.format.Format.{Format}
use Rattle.babel_dump.specs.declared.format.Format.TheVariants as formats
use Rattle.babel_dump.specs.declared.speaker.Speaker.{Speaker}

-- the parts of a line before the octets of the interface's name and after them
abbrev pub event_to_name : Format → (name : List ℕ) → Telling Speaker → List ℕ
event_to_name (formats.Text style) name told =
    event_front style name told ++ opening (formats.Text style) name
event_to_name (formats.Json style) name told =
    event_front_json style told ++ opening (formats.Json style) name

abbrev pub event_after_name :
    Format → View → Option AddrPair → (name : List ℕ) → Telling Speaker → List ℕ
event_after_name (formats.Text style) view pair name told =
    closing (formats.Text style) name ++ event_end style view told
event_after_name (formats.Json style) view pair name told =
    closing (formats.Json style) name ++ event_end_json style view pair told
