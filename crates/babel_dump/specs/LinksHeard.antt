-- What the packets of a capture say of links. No RFC speaks of captures.
use Rattle.std.specs.Prelude.{◌≡◌, ℕ, false, List, []}
use Rattle.std.specs.List.{flat_map}
use Rattle.std.specs.Option.{unwrap_or}
use Rattle.babel_capture.specs.Counts.{Made}
use Rattle.babel_capture.specs.Findings.{Found, found}
use Rattle.babel_capture.specs.Times.{time_of}
use Rattle.babel_tlv.specs.declared.hello.Hello.{Hello}
use Rattle.babel_selection.specs.HeardLinks.{Hears, hellos_among, ihus_among, whole_tlvs}
use Rattle.babel_selection.specs.declared.ihu_from.IhuFrom.{IhuFrom}
use Rattle.babel_dump.specs.Nodes.{beside, node_cmp, node_of}
use Rattle.babel_dump.specs.declared.link_sink.LinkSink.{LinkSink}
use Rattle.babel_dump.specs.declared.node.Node.{Node}

-- the Hellos of a packet, if one was found, and the IHUs of one that came then
abbrev pub hellos_found : Found → List (Node × Hello)
hellos_found (found place ends packet has_trailer) =
    hellos_among (node_of (record { place = place; sender = ends.sender })) (whole_tlvs packet)
hellos_found what = []

abbrev pub ihus_found : (time : ℕ) → Found → List (IhuFrom Node)
ihus_found time (found place ends packet has_trailer) =
    ihus_among beside (node_of (record { place = place; sender = ends.sender }))
    ends.destination time (whole_tlvs packet)
ihus_found time what = []

-- those of all packets, of which each has a time where this is asked for
abbrev pub hellos_made : List Made → List (Node × Hello)
hellos_made made = flat_map (λ one. hellos_found one.what) made

abbrev pub ihus_made : List Made → List (IhuFrom Node)
ihus_made made = flat_map (λ one. ihus_found (unwrap_or (time_of one.came) 0) one.what) made

-- with these packets more, unless memory ran out
abbrev pub HearsMade : LinkSink → LinkSink → List Made → Type 0
HearsMade first now made = now.has_failed ≡ false → (first.has_failed ≡ false)
    × Hears node_cmp (hellos_made made) (ihus_made made) first.heard now.heard
