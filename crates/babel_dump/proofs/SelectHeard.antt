-- What is heard for a router that selects, record by record, is what the packets of a capture say.
use Rattle.std.proofs.Common.{◌≡◌, ℕ, Bool, true, false, cond, List, [], ◌∷◌, ◌++◌, Option, None, Some, refl, sym, ap, subst, ◌∙◌, append-nil, append_assoc}
use Rattle.std.specs.Option.{unwrap_or}
use Rattle.std.proofs.lemmas.List.Concat.{flat_map-append}
use Rattle.babel_capture.specs.Counts.{Made}
use Rattle.babel_capture.specs.Findings.{Found, found, left, passed, refused, untold}
use Rattle.babel_capture.specs.Sinking.{IsPacketOf, IsTold, packet_said}
use Rattle.babel_capture.specs.Times.{time_of}
use Rattle.babel_capture.specs.declared.sink.BabelPacket.{BabelPacket}
use Rattle.babel_capture.specs.declared.sink.Record.{Record}
use Rattle.babel_capture.specs.declared.tallies.Origin.{Origin}
use Rattle.babel_timeline.specs.RequestsTold.{body_of}
use Rattle.babel_selection.specs.Announcing.{AreDistances}
use Rattle.babel_selection.specs.Distances.{OwnUpdate}
use Rattle.babel_selection.specs.OwnUpdates.{updates_of}
use Rattle.babel_selection.specs.declared.distance.Distance.{Distance}
use Rattle.babel_selection.specs.declared.source.Source.{Source}
use Rattle.babel_selection.proofs.SourceLaws.{begins_distances}
use Rattle.babel_selection.specs.Hearing.{AreLast, no_ihus}
use Rattle.babel_selection.proofs.HeardLaws.{hears_none as hears_no_links}
use Rattle.babel_selection.proofs.HearingLaws.{begins_last}
use Rattle.babel_dump.specs.CaptureGiven.{CaptureInput, GaveSound, Took, made_in, moment_in}
use Rattle.babel_dump.specs.EachSender.{AreHeard, AreOwn}
use Rattle.babel_dump.specs.Fed.{AreWhole}
use Rattle.babel_dump.specs.LeftOut.{first_unmissed}
use Rattle.babel_dump.specs.LinksHeard.{ihus_made}
use Rattle.babel_dump.specs.Nodes.{node_cmp}
use Rattle.babel_dump.specs.Packets.{packets_made}
use Rattle.babel_dump.specs.SelectHeard.{GaveSelecting, KeepsSelecting, all_send, is_own, updates_found, updates_made, updates_sent}
use Rattle.babel_dump.specs.declared.each_sender.EachSender.{EachSender}
use Rattle.babel_dump.specs.declared.selection_read.SelectionRead.{SelectionRead}
use Rattle.babel_dump.specs.declared.select_job.Select.{Select}
use Rattle.babel_dump.specs.declared.selecting.Selecting.{Selecting}

abbrev pub Kept : Type 0
Kept = List (Source × Distance)

-- these records' Updates are taken
abbrev pub HearsUpdates : Select → List Made → (old new : Kept) → Type 0
HearsUpdates select made old new = (before : List OwnUpdate) → AreDistances before old → AreDistances (before ++ updates_made select made) new

updates_packet : (select : Select) (time : ℕ) (what : Found) (packet : BabelPacket) → IsPacketOf what (Some packet) → updates_found select time what ≡ updates_sent select time packet.origin packet.octets.now
updates_packet select time passed packet is = absurd (let bad = is.0 in cc)
updates_packet select time untold packet is = absurd (let bad = is.0 in cc)
updates_packet select time (left reason missed) packet is = absurd (let bad = is.0 in cc)
updates_packet select time (refused lack) packet is = absurd (let bad = is.0 in cc)
updates_packet select time (found place ends octets has_trailer) packet (from, said, to) =
    let origin : Origin = record { place = place; sender = ends.sender } in
    let same : origin ≡ packet.origin = cc in
    ap (λ (o : Origin). updates_sent select time o octets) same ∙ ap (λ (l : List ℕ). updates_sent select time packet.origin l) said

no_updates : (select : Select) (time : ℕ) (what : Found) → IsPacketOf what None → updates_found select time what ≡ []
no_updates select time passed is = refl
no_updates select time untold is = refl
no_updates select time (left reason missed) is = refl
no_updates select time (refused lack) is = refl
no_updates select time (found place ends octets has_trailer) is = absurd (let bad = is.0 in cc)

-- what one record says
module _ (select : Select) (one : Made) (told : Record) (is : IsTold one told) where
  abbrev time_told : ℕ
  time_told = unwrap_or (time_of one.came) 0

  hears_so : (updates : List OwnUpdate) (old new : Kept) → updates_found select time_told one.what ≡ updates → ((before : List OwnUpdate) → AreDistances before old → AreDistances (before ++ updates) new)
      → HearsUpdates select (one ∷ []) old new
  hears_so updates old new are takes before was =
      subst (λ (l : List OwnUpdate). AreDistances (before ++ l) new) (sym (append-nil (updates_found select time_told one.what) ∙ are)) (takes before was)

  sent_so : (packet : BabelPacket) (time : ℕ) → packet_said told.said ≡ Some packet → time ≡ unwrap_or told.time 0
      → updates_found select time_told one.what ≡ updates_sent select time packet.origin packet.octets.now
  sent_so packet time some came =
      let of : IsPacketOf one.what (Some packet) = subst (IsPacketOf one.what) some is.packet in
      let time_is : time ≡ time_told = came ∙ ap (λ (t : Option ℕ). unwrap_or t 0) is.time in
      updates_packet select time_told one.what packet of ∙ ap (λ (t : ℕ). updates_sent select t packet.origin packet.octets.now) (sym time_is)

  pub hears_own : (packet : BabelPacket) (time : ℕ) (old new : Kept) → packet_said told.said ≡ Some packet → time ≡ unwrap_or told.time 0 → is_own select packet.origin ≡ true
      → ((before : List OwnUpdate) → AreDistances before old
      → AreDistances (before ++ updates_of (record { sender = packet.origin.sender; via_v6 = select.each.limits.via_v6 }) time (body_of packet.octets.now)) new)
      → HearsUpdates select (one ∷ []) old new
  hears_own packet time old new some came own takes =
      let updates : List OwnUpdate = updates_of (record { sender = packet.origin.sender; via_v6 = select.each.limits.via_v6 }) time (body_of packet.octets.now) in
      hears_so updates old new (sent_so packet time some came ∙ ap (λ (b : Bool). cond b updates []) own) takes

  none_more : (old : Kept) → (before : List OwnUpdate) → AreDistances before old → AreDistances (before ++ []) old
  none_more old before are = subst (λ (l : List OwnUpdate). AreDistances l old) (sym (append-nil before)) are

  pub hears_other : (packet : BabelPacket) (time : ℕ) (old : Kept) → packet_said told.said ≡ Some packet → time ≡ unwrap_or told.time 0 → is_own select packet.origin ≡ false
      → HearsUpdates select (one ∷ []) old old
  hears_other packet time old some came own =
      let updates : List OwnUpdate = updates_of (record { sender = packet.origin.sender; via_v6 = select.each.limits.via_v6 }) time (body_of packet.octets.now) in
      hears_so [] old old (sent_so packet time some came ∙ ap (λ (b : Bool). cond b updates []) own) (none_more old)

  pub hears_none : (old : Kept) → packet_said told.said ≡ None → HearsUpdates select (one ∷ []) old old
  hears_none old none = hears_so [] old old (no_updates select time_told one.what (subst (IsPacketOf one.what) none is.packet)) (none_more old)

-- and those before it
pub hears_more : (select now : Select) (first old new : Kept) (made : List Made) (one : Made) → now ≡ select → HearsUpdates select made first old → HearsUpdates now (one ∷ []) old new
    → HearsUpdates select (made ++ one ∷ []) first new
hears_more select now first old new made one same were more before are =
    let all : updates_made select (made ++ one ∷ []) ≡ updates_made select made ++ updates_made select (one ∷ []) =
    flat_map-append (λ (m : Made). updates_found select (unwrap_or (time_of m.came) 0) m.what) made (one ∷ []) in
    let more_so : HearsUpdates select (one ∷ []) old new = subst (λ (s : Select). HearsUpdates s (one ∷ []) old new) same more in
    subst (λ (l : List OwnUpdate). AreDistances l new) (append_assoc before (updates_made select made) (updates_made select (one ∷ [])) ∙ ap (λ (l : List OwnUpdate). before ++ l) (sym all))
    (more_so (before ++ updates_made select made) (were before are))

-- ---- all that was read

keeps_none : (it : Selecting) → KeepsSelecting it it []
keeps_none it = record {
  select = refl;
  tables = (refl, λ before heard. subst (AreHeard it.tables) (sym (append-nil before)) heard);
  links = λ done. (done, hears_no_links node_cmp it.links.heard);
  updates = λ done. (done, λ before are. subst (λ (l : List OwnUpdate). AreDistances l it.sources) (sym (append-nil before)) are);
}

pub gave_selecting : (select : Select) (reader : CaptureInput) (first now : Selecting) (read : SelectionRead) (gave : GaveSound reader read.senders.read.gathered read.senders.read.cut)
    → read.senders.read.moment ≡ moment_in gave.given → AreWhole (packets_made (made_in gave.given)) → Took KeepsSelecting first now (made_in gave.given)
    → first.select.now ≡ select → first.tables.each.now ≡ select.each → AreHeard first.tables [] → first.links.heard.ihus ≡ no_ihus → first.sources ≡ []
    → now.tables.has_failed ≡ false → now.links.has_failed ≡ false → now.has_failed ≡ false
    → (select.strict ≡ true → first_unmissed select.each.accept_missing read.senders.read.gathered.report ≡ None) → all_send select read.senders.read.gathered.senders ≡ true
    → read.senders.tables.entries ≡ now.tables.tables.entries → read.links.ihus ≡ now.links.heard.ihus → read.sources ≡ now.sources → GaveSelecting select reader read
gave_selecting select reader first now read gave moment_is whole took selects each heard ihus sources tables_sound links_sound sound strict sends tables_are ihus_are sources_are =
    let made = made_in gave.given in
    let kept : KeepsSelecting first now made = took first [] (keeps_none first) in
    let own : AreOwn now.tables.each.now made now.tables.tables.entries = kept.tables.1 [] heard tables_sound in
    let last : AreLast node_cmp (ihus_made made) now.links.heard.ihus = (kept.links links_sound).1.last [] (subst (AreLast node_cmp []) (sym ihus) (begins_last node_cmp)) in
    let updates : AreDistances (updates_made first.select.now made) now.sources = (kept.updates sound).1 [] (subst (AreDistances []) (sym sources) begins_distances) in
    record {
      gave = gave;
      strict = strict;
      sends = sends;
      moment_is = moment_is;
      whole = whole;
      are_own = subst (AreOwn select.each made) (sym tables_are) (subst (λ (e : EachSender). AreOwn e made now.tables.tables.entries) (kept.tables.0 ∙ each) own);
      ihus = subst (AreLast node_cmp (ihus_made made)) (sym ihus_are) last;
      updates = subst (AreDistances (updates_made select made)) (sym sources_are) (subst (λ (s : Select). AreDistances (updates_made s made) now.sources) selects updates);
    }
