-- What is heard of links, packet by packet, is what the packets of a capture say.
use Rattle.std.proofs.Common.{◌≡◌, ℕ, false, List, [], ◌∷◌, ◌++◌, Option, None, Some, refl, sym, ap, subst, ◌∙◌, append-nil}
use Rattle.std.specs.Option.{unwrap_or}
use Rattle.std.proofs.lemmas.List.Concat.{flat_map-append}
use Rattle.babel_capture.specs.Counts.{Made}
use Rattle.babel_capture.specs.Findings.{Found, found, left, passed, refused, untold}
use Rattle.babel_capture.specs.Sinking.{IsPacketOf, IsTold, packet_said}
use Rattle.babel_capture.specs.Times.{time_of}
use Rattle.babel_capture.specs.declared.sink.BabelPacket.{BabelPacket}
use Rattle.babel_capture.specs.declared.sink.Record.{Record}
use Rattle.babel_capture.specs.declared.tallies.Origin.{Origin}
use Rattle.babel_tlv.specs.declared.hello.Hello.{Hello}
use Rattle.babel_selection.specs.Hearing.{AreCounts, AreLast, no_ihus as no_ihus_kept}
use Rattle.babel_selection.specs.HeardLinks.{Hears, hellos_among, ihus_among, whole_tlvs}
use Rattle.babel_selection.specs.declared.ihu_from.IhuFrom.{IhuFrom}
use Rattle.babel_selection.specs.declared.link_hearing.LinkHearing.{LinkHearing}
use Rattle.babel_selection.proofs.HeardLaws.{hears_none, hears_then}
use Rattle.babel_selection.proofs.HearingLaws.{begins_counts, begins_last}
use Rattle.babel_dump.specs.CaptureGiven.{Took}
use Rattle.babel_dump.specs.LinksHeard.{HearsMade, hellos_found, hellos_made, ihus_found, ihus_made}
use Rattle.babel_dump.specs.Nodes.{beside, node_cmp, node_of}
use Rattle.babel_dump.specs.declared.link_sink.LinkSink.{LinkSink}
use Rattle.babel_dump.specs.declared.node.Node.{Node}

-- the Hellos and the IHUs of a packet of a sender, which came then
abbrev pub hellos_sent : BabelPacket → List (Node × Hello)
hellos_sent packet = hellos_among (node_of packet.origin) (whole_tlvs packet.octets.now)

abbrev pub ihus_sent : (time : ℕ) → BabelPacket → List (IhuFrom Node)
ihus_sent time packet = ihus_among beside (node_of packet.origin) packet.destination.now time (whole_tlvs packet.octets.now)

hellos_of : (what : Found) (packet : BabelPacket) → IsPacketOf what (Some packet) → hellos_found what ≡ hellos_sent packet
hellos_of passed packet is = absurd (let bad = is.0 in cc)
hellos_of untold packet is = absurd (let bad = is.0 in cc)
hellos_of (left reason missed) packet is = absurd (let bad = is.0 in cc)
hellos_of (refused lack) packet is = absurd (let bad = is.0 in cc)
hellos_of (found place ends octets has_trailer) packet (from, said, to) =
    let origin : Origin = record { place = place; sender = ends.sender } in
    let same : origin ≡ packet.origin = cc in
    ap (λ (o : Origin). hellos_among (node_of o) (whole_tlvs octets)) same
    ∙ ap (λ (l : List ℕ). hellos_among (node_of packet.origin) (whole_tlvs l)) said

ihus_of : (time : ℕ) (what : Found) (packet : BabelPacket) → IsPacketOf what (Some packet) → ihus_found time what ≡ ihus_sent time packet
ihus_of time passed packet is = absurd (let bad = is.0 in cc)
ihus_of time untold packet is = absurd (let bad = is.0 in cc)
ihus_of time (left reason missed) packet is = absurd (let bad = is.0 in cc)
ihus_of time (refused lack) packet is = absurd (let bad = is.0 in cc)
ihus_of time (found place ends octets has_trailer) packet (from, said, to) =
    let origin : Origin = record { place = place; sender = ends.sender } in
    let same : origin ≡ packet.origin = cc in
    let sent : ends.destination ≡ packet.destination.now = cc in
    ap (λ (o : Origin). ihus_among beside (node_of o) ends.destination time (whole_tlvs octets)) same
    ∙ ap (λ (l : List ℕ). ihus_among beside (node_of packet.origin) ends.destination time (whole_tlvs l)) said
    ∙ rw sent refl

no_hellos : (what : Found) → IsPacketOf what None → hellos_found what ≡ []
no_hellos passed is = refl
no_hellos untold is = refl
no_hellos (left reason missed) is = refl
no_hellos (refused lack) is = refl
no_hellos (found place ends octets has_trailer) is = absurd (let bad = is.0 in cc)

no_ihus : (time : ℕ) (what : Found) → IsPacketOf what None → ihus_found time what ≡ []
no_ihus time passed is = refl
no_ihus time untold is = refl
no_ihus time (left reason missed) is = refl
no_ihus time (refused lack) is = refl
no_ihus time (found place ends octets has_trailer) is = absurd (let bad = is.0 in cc)

abbrev pub HearsOne : Made → LinkHearing Node → LinkHearing Node → Type 0
HearsOne one old new = Hears node_cmp (hellos_made (one ∷ [])) (ihus_made (one ∷ [])) old new

hears_so : (hellos hellos_too : List (Node × Hello)) (ihus ihus_too : List (IhuFrom Node)) (old new : LinkHearing Node) → hellos ≡ hellos_too → ihus ≡ ihus_too
    → Hears node_cmp hellos ihus old new → Hears node_cmp hellos_too ihus_too old new
hears_so hellos hellos_too ihus ihus_too old new one other hears =
    subst (λ (h : List (Node × Hello)). Hears node_cmp h ihus_too old new) one (subst (λ (i : List (IhuFrom Node)). Hears node_cmp hellos i old new) other hears)

-- a record with a packet is heard, and one without
pub hears_packet : (one : Made) (told : Record) (packet : BabelPacket) (time : ℕ) (old new : LinkHearing Node) → IsTold one told → packet_said told.said ≡ Some packet → time ≡ unwrap_or told.time 0
    → Hears node_cmp (hellos_sent packet) (ihus_sent time packet) old new → HearsOne one old new
hears_packet one told packet time old new is some came =
    let of : IsPacketOf one.what (Some packet) = subst (IsPacketOf one.what) some is.packet in
    let time_is : time ≡ unwrap_or (time_of one.came) 0 = came ∙ ap (λ (t : Option ℕ). unwrap_or t 0) is.time in
    hears_so (hellos_sent packet) (hellos_made (one ∷ [])) (ihus_sent time packet) (ihus_made (one ∷ [])) old new
    (sym (append-nil (hellos_found one.what) ∙ hellos_of one.what packet of))
    (ap (λ (t : ℕ). ihus_sent t packet) time_is ∙ sym (append-nil (ihus_found (unwrap_or (time_of one.came) 0) one.what) ∙ ihus_of (unwrap_or (time_of one.came) 0) one.what packet of))

pub hears_nothing : (one : Made) (told : Record) (it : LinkHearing Node) → IsTold one told → packet_said told.said ≡ None → HearsOne one it it
hears_nothing one told it is none =
    let of : IsPacketOf one.what None = subst (IsPacketOf one.what) none is.packet in
    hears_so [] (hellos_made (one ∷ [])) [] (ihus_made (one ∷ [])) it it (sym (append-nil (hellos_found one.what) ∙ no_hellos one.what of))
    (sym (append-nil (ihus_found (unwrap_or (time_of one.came) 0) one.what) ∙ no_ihus (unwrap_or (time_of one.came) 0) one.what of)) (hears_none node_cmp it)

-- and those before it
pub hears_more : (start old new : LinkHearing Node) (made : List Made) (one : Made) → Hears node_cmp (hellos_made made) (ihus_made made) start old → HearsOne one old new
    → Hears node_cmp (hellos_made (made ++ one ∷ [])) (ihus_made (made ++ one ∷ [])) start new
hears_more start old new made one before more =
    hears_so (hellos_made made ++ hellos_made (one ∷ [])) (hellos_made (made ++ one ∷ [])) (ihus_made made ++ ihus_made (one ∷ [])) (ihus_made (made ++ one ∷ [])) start new
    (sym (flat_map-append (λ (m : Made). hellos_found m.what) made (one ∷ []))) (sym (flat_map-append (λ (m : Made). ihus_found (unwrap_or (time_of m.came) 0) m.what) made (one ∷ [])))
    (hears_then node_cmp (hellos_made made) (hellos_made (one ∷ [])) (ihus_made made) (ihus_made (one ∷ [])) start old new before more)

-- what a sink heard of all packets, which had heard nothing before
pub heard_all : (first now : LinkSink) (made : List Made) → first.has_failed ≡ false → first.heard.hellos ≡ [] → first.heard.ihus ≡ no_ihus_kept → Took HearsMade first now made
    → now.has_failed ≡ false → AreCounts node_cmp (hellos_made made) now.heard.hellos × AreLast node_cmp (ihus_made made) now.heard.ihus
heard_all first now made sound hellos ihus took done =
    let hears = (took first [] (λ _. (sound, hears_none node_cmp first.heard)) done).1 in (
      hears.counts [] (subst (AreCounts node_cmp []) (sym hellos) (begins_counts node_cmp)),
      hears.last [] (subst (AreLast node_cmp []) (sym ihus) (begins_last node_cmp)),
    )
