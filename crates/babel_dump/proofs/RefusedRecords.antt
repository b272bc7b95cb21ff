-- Why no more is heard than a record, from what a teller refuses of it.
use Rattle.std.proofs.Common.{◌≡◌, ◌≢◌, ℕ, ◌∷◌, Bool, List, [], ◌++◌, inl, inr, Option, None, Some, refl, sym, ap, subst, ◌∙◌, true, false, take, drop, append_assoc}
use Rattle.std.specs.Prelude.{Err, IfErr, Ok, Result, if◌then◌else◌}
use Rattle.std.specs.declared.cmp.Ordering.{Ordering}
use Rattle.babel_capture.specs.Counts.{Made}
use Rattle.babel_capture.specs.Findings.{octets_found, passed}
use Rattle.babel_capture.specs.Sinking.{IsPacketOf, IsTold, packet_said}
use Rattle.babel_capture.specs.declared.sink.BabelPacket.{BabelPacket}
use Rattle.babel_capture.specs.declared.sink.Record.{Record}
use Rattle.babel_capture.specs.declared.tallies.Origin.{Origin}
use Rattle.babel_tlv.specs.Framing.{TlvAt, framed, packet_octets}
use Rattle.babel_tlv.specs.declared.fault.Fault.{Fault}
use Rattle.babel_tlv.specs.declared.fault.Fault.TheVariants as faults
use Rattle.babel_tlv.specs.declared.start.Start.{Start}
use Rattle.babel_tlv.specs.declared.view.View.{View}
use Rattle.babel_timeline.specs.Hearing.{octets_heard, report_of}
use Rattle.babel_timeline.specs.Refusing.{RefusesPacket}
use Rattle.babel_timeline.specs.Rows.{Rows}
use Rattle.babel_timeline.specs.Telling.{AskedFor, of_rows}
use Rattle.babel_timeline.specs.declared.teller.Teller.{Teller}
use Rattle.babel_timeline.specs.declared.telling.Telling.{Telling}
use Rattle.babel_dump.specs.EventsCause.{IsPartOf, IsRefused, RefusesAlone, RefusesHeard, RefusesPart, octets_in, start_of}
use Rattle.babel_dump.specs.EventsRun.{without_pair}
use Rattle.babel_dump.specs.EventsRun.{HaveTold, asked_by, speaker_at, told_in}
use Rattle.babel_dump.specs.Followed.{Follows, HasHeard, HasHeardFollowed, HasHeardOthers, HasStopped, IsHeardOf, KnowsOthers, RefusesOthers, RefusesFront, RefusesPacketRead, RefusesSaid, RefusesTeller, RefusesTold, RefusesUnheard, RefusesUsually, Stops, StopsFollowed, Suits, TellsBehind, octets_before, trouble_of}
use Rattle.babel_dump.specs.FollowedSenders.{followed, followed_of, is_followed, senders_followed}
use Rattle.babel_dump.specs.Speakers.{speaker_cmp}
use Rattle.babel_dump.specs.StrictPackets.{IsFirstOf, IsReadTo, fault_of}
use Rattle.babel_dump.specs.declared.events_job.Events.{Events}
use Rattle.babel_dump.specs.declared.follower.Follower.{Follower}
use Rattle.babel_dump.specs.declared.hearing.Unheard.{Unheard}
use Rattle.babel_dump.specs.declared.hearing.Unheard.TheVariants as unheard
use Rattle.babel_dump.specs.declared.ignored.IgnoredTlv.{IgnoredTlv}
use Rattle.babel_dump.specs.declared.input_fault.InputFault.{InputFault}
use Rattle.babel_dump.specs.declared.input_fault.InputFault.TheVariants as input_faults
use Rattle.babel_dump.specs.declared.left_out.LeftOutDatagram.{LeftOutDatagram}
use Rattle.babel_dump.specs.declared.other_sources.OtherSources.{OtherSources}
use Rattle.babel_dump.specs.declared.speaker.Speaker.{Speaker}
use Rattle.babel_dump.specs.declared.stop.Stop.{Stop}
use Rattle.babel_dump.specs.declared.stop.Stop.TheVariants as stops
use Rattle.babel_dump.specs.declared.unread_tlv.UnreadTlv.{UnreadTlv}
use Rattle.babel_dump.proofs.FollowedLaws.{followed-push}
use Rattle.babel_dump.proofs.StartLaws.{tells_heard}
use Rattle.babel_dump.proofs.UnreadTlvs.{front_of_packet}

-- ---- what a teller refuses

-- the clause of a teller, of these events
pub refuses_part : (cmp : Speaker → Speaker → Ordering) → cmp ≡ speaker_cmp → (events : Events) (teller : Teller Speaker) → Suits events teller → (origin : Origin) (via : Bool)
    → via ≡ events.limits.via_v6 → (came : ℕ) (packet : List ℕ) (after : Rows Speaker) (before now : List (Telling Speaker)) (fault : Fault)
    → RefusesPacket cmp teller.timeline.limit teller.interest.asked (speaker_at origin) teller.timeline.factor teller.interest.view (record { sender = origin.sender; via_v6 = via }) came
    (octets_heard cmp teller.heard.entries (speaker_at origin)) (report_of cmp teller.heard.entries (speaker_at origin)).tlvs packet teller.timeline.rows after
    (of_rows teller.interest.asked before) (of_rows teller.interest.asked now) fault
    → RefusesPart events origin came packet teller.timeline.rows (octets_heard speaker_cmp teller.heard.entries (speaker_at origin))
    (report_of speaker_cmp teller.heard.entries (speaker_at origin)).tlvs fault
refuses_part cmp order events teller suits origin via via_is came packet after before now fault refuses =
    let speaker = speaker_at origin in
    let entries = teller.heard.entries in
    let rows = teller.timeline.rows in
    let asked = teller.interest.asked in
    let factor = teller.timeline.factor in
    let view = teller.interest.view in
    let begin : Bool → Start = λ v. record { sender = origin.sender; via_v6 = v } in
    let one = subst (λ (k : Speaker → Speaker → Ordering). RefusesPacket k teller.timeline.limit asked speaker factor view (begin via) came (octets_heard k entries speaker) (report_of k entries speaker).tlvs packet rows after
    (of_rows asked before) (of_rows asked now) fault) order refuses in
    let two = subst (λ (v : Bool). RefusesPacket speaker_cmp teller.timeline.limit asked speaker factor view (begin v) came (octets_heard speaker_cmp entries speaker) (report_of speaker_cmp entries speaker).tlvs packet rows
    after (of_rows asked before) (of_rows asked now) fault) via_is one in
    let three = subst (λ (n : ℕ). RefusesPacket speaker_cmp n asked speaker factor view (start_of events origin) came (octets_heard speaker_cmp entries speaker) (report_of speaker_cmp entries speaker).tlvs packet rows after
    (of_rows asked before) (of_rows asked now) fault) suits.limit two in
    let four = subst (λ (f : Option ℕ). RefusesPacket speaker_cmp events.limits.entries asked speaker f view (start_of events origin) came (octets_heard speaker_cmp entries speaker)
    (report_of speaker_cmp entries speaker).tlvs packet rows after (of_rows asked before) (of_rows asked now) fault) suits.factor three in
    let five = subst (λ (v : View). RefusesPacket speaker_cmp events.limits.entries asked speaker events.expiry v (start_of events origin) came (octets_heard speaker_cmp entries speaker)
    (report_of speaker_cmp entries speaker).tlvs packet rows after (of_rows asked before) (of_rows asked now) fault) suits.view four in
    record {
      after = after;
      before = of_rows (asked_by events) before;
      now = of_rows (asked_by events) now;
      refuses = subst (λ (a : AskedFor). RefusesPacket speaker_cmp events.limits.entries a speaker events.expiry events.view (start_of events origin) came (octets_heard speaker_cmp entries speaker)
          (report_of speaker_cmp entries speaker).tlvs packet rows after (of_rows a before) (of_rows a now) fault) suits.asked five;
    }

-- why the teller can't hear a packet, unless memory ran out
pub teller_refuses : (events : Events) (origin : Origin) (came : ℕ) (packet : List ℕ) (teller : Teller Speaker) (why : Unheard) (fault : Fault) → (fault ≡ faults.Memory → why ≡ unheard.Memory)
    → (fault ≢ faults.Memory → why ≡ unheard.Sender origin fault)
    → (fault ≢ faults.Memory → RefusesPart events origin came packet teller.timeline.rows (octets_heard speaker_cmp teller.heard.entries (speaker_at origin))
    (report_of speaker_cmp teller.heard.entries (speaker_at origin)).tlvs fault)
    → RefusesTeller events origin came packet teller why
teller_refuses events origin came packet teller unheard.Memory fault memory sender part = tt
teller_refuses events origin came packet teller (unheard.Sender of other) fault memory sender part =
    let not_memory : fault ≢ faults.Memory = λ is. absurd (let bad : unheard.Sender of other ≡ unheard.Memory = memory is in cc) in
    subst (RefusesTeller events origin came packet teller) (sym (sender not_memory)) (refl, part not_memory)

-- the record that has the packet is refused, too
pub record_refused : (events : Events) (told : Record) (teller : Teller Speaker) (packet : BabelPacket) → packet_said told.said ≡ Some packet → (came : ℕ) → told.time ≡ Some came → (why : Unheard)
    → RefusesTeller events packet.origin came packet.octets.now teller why → RefusesUnheard events told teller why
record_refused events told teller packet said_is came timed unheard.Memory refuses = tt
record_refused events told teller packet said_is came timed (unheard.Sender origin fault) (of, part) = record {
  packet = packet;
  said_is = said_is;
  origin_is = sym of;
  came = came;
  timed = timed;
  refuses = subst (λ (o : Origin). RefusesPart events o came packet.octets.now teller.timeline.rows (octets_heard speaker_cmp teller.heard.entries (speaker_at o))
      (report_of speaker_cmp teller.heard.entries (speaker_at o)).tlvs fault) (sym of) part;
}

-- what was heard in place of a packet is refused
pub front_refused : (events : Events) (told front : Record) (packet said : BabelPacket) (octets : List ℕ) (teller : Teller Speaker) → front.time ≡ told.time → packet_said front.said ≡ Some said
    → said.origin ≡ packet.origin → said.octets.now ≡ octets → (why : Unheard) → RefusesUnheard events front teller why → RefusesFront events told packet octets teller why
front_refused events told front packet said octets teller time is origin octets_are unheard.Memory refuses = tt
front_refused events told front packet said octets teller time is origin octets_are (unheard.Sender of fault) refuses = (front, refuses, time, (said, is, origin, octets_are))

pub front_memory : (events : Events) (told : Record) (packet : BabelPacket) (octets : List ℕ) (teller : Teller Speaker) (why : Unheard) → why ≡ unheard.Memory
    → RefusesFront events told packet octets teller why
front_memory events told packet octets teller why is = subst (RefusesFront events told packet octets teller) (sym is) tt

some_one : (a b : BabelPacket) → Some a ≡ Some b → a ≡ b
some_one a b same = cc

-- the TLVs before the first that is ignored are
module _ (events : Events) (told : Record) (packet : BabelPacket) (old : Follower) (start : Start) (at : ℕ) (begins : start ≡ start_of events packet.origin)
    (here : at ≡ octets_before old packet.origin) where
  pub read_refuses : (unread : UnreadTlv) → IsFirstOf start at packet.octets.now (Some unread) → (why : Unheard)
      → RefusesFront events told packet (framed (take unread.before (drop 4 packet.octets.now))) old.hearing.teller why → RefusesPacketRead events told old packet why
  read_refuses unread reads unheard.Memory refuses = tt
  read_refuses unread (front, to, before) (unheard.Sender origin fault) (from, refuses, time, (said, is, of, octets)) = (
    sym of ∙ ap (λ (p : BabelPacket). p.origin) (some_one said refuses.packet (sym is ∙ refuses.said_is)) ∙ refuses.origin_is,
    inl (
      front,
      fault_of unread,
      subst (λ (n : ℕ). IsReadTo (start_of events packet.origin) n packet.octets.now front (fault_of unread)) here
          (subst (λ (s : Start). IsReadTo s at packet.octets.now front (fault_of unread)) begins to),
      (from, refuses, time, (said, is, of, octets ∙ front_of_packet at packet.octets.now front (to.last ∷ to.back) unread.before to.of_tlvs before)),
    ),
  )

  pub alone_refuses : (fault : Fault) → RefusesAlone start at packet.octets.now fault → RefusesPacketRead events told old packet (unheard.Sender packet.origin fault)
  alone_refuses fault alone = (
    refl,
    inr (subst (λ (n : ℕ). RefusesAlone (start_of events packet.origin) n packet.octets.now fault) here (subst (λ (s : Start). RefusesAlone s at packet.octets.now fault) begins alone)),
  )

-- why no more is heard, whether it is read strictly or not
pub stops_by : (events : Events) (told : Record) (old mid : Follower) (stop : Stop) → RefusesTold events told old mid stop → (events.strict ≡ false → RefusesUsually events told old stop)
    → Stops events told old mid stop
stops_by events told old mid stop refuses usually = by events.strict refl
  where
    by : (strict : Bool) → events.strict ≡ strict → Stops events told old mid stop
    by true is = inl (is, refuses)
    by false is = inr (inl (usually is))

pub stops_others : (events : Events) (told : Record) (old mid : Follower) (why : Unheard) → RefusesOthers events told old.other_sources why → (stop : Stop) → stop ≡ stops.Unheard why
    → Stops events told old mid stop
stops_others events told old mid why refuses stop is = inr (inr (why, is, refuses))

-- the clause of other sources, of those that are there
pub refuses_others : (events : Events) (told : Record) (old : Option OtherSources) (others : OtherSources) (result : Result (Unit {0}) Unheard) → old ≡ Some others
    → (Suits (without_pair events) others.teller → IfErr result (RefusesUnheard (without_pair events) told others.teller)) → IfErr result (RefusesOthers events told old)
refuses_others events told old others (Ok unit) is refused = tt
refuses_others events told old others (Err fault) is refused = (others, is, refused)

-- as it is heard, whether it is read strictly or not
pub told_unheard : (events : Events) (told : Record) (old new : Follower) (why : Unheard) → (Suits events old.hearing.teller → RefusesUnheard events told old.hearing.teller why) → (stop : Stop)
    → stop ≡ stops.Unheard why → RefusesTold events told old new stop
told_unheard events told old new why refuses stop is = subst (RefusesTold events told old new) (sym is) (λ suits. inl (refuses suits))

pub told_read : (events : Events) (told : Record) (old new : Follower) (packet : BabelPacket) → packet_said told.said ≡ Some packet → (why : Unheard)
    → (Suits events old.hearing.teller → RefusesPacketRead events told old packet why) → (stop : Stop) → stop ≡ stops.Unheard why → RefusesTold events told old new stop
told_read events told old new packet is why refuses stop stops = subst (RefusesTold events told old new) (sym stops) (λ suits. inr (packet, is, refuses suits))

pub usually_unheard : (events : Events) (told : Record) (old : Follower) (why : Unheard) → (Suits events old.hearing.teller → RefusesUnheard events told old.hearing.teller why) → (stop : Stop)
    → stop ≡ stops.Unheard why → RefusesUsually events told old stop
usually_unheard events told old why refuses stop is = subst (RefusesUsually events told old) (sym is) refuses

-- ---- what is told of it

module _ (events : Events) (made : List Made) (one : Made) (told : Record) (is : IsTold one told) (teller : Teller Speaker) (before : List (Telling Speaker))
    (have : HaveTold events None made before teller.timeline.rows) (heard : (speaker : Speaker) → IsHeardOf events made teller.heard.entries speaker) where
  refused_so : (from : Record) (origin : Origin) (fault : Fault) (said : RefusesSaid events from teller origin fault) → from.time ≡ told.time
      → IsPartOf events origin (octets_in origin made) (octets_found one.what) said.packet.octets.now → RefusesHeard events made one origin fault
  refused_so from origin fault said time is_part = record {
    came = said.came;
    timed = sym is.time ∙ sym time ∙ said.timed;
    told = before;
    rows = teller.timeline.rows;
    have_told = have;
    report = report_of speaker_cmp teller.heard.entries (speaker_at origin);
    is_report = (heard (speaker_at origin)).report;
    part = said.packet.octets.now;
    is_part = is_part;
    refuses = subst (λ (n : ℕ). RefusesPart events origin said.came said.packet.octets.now teller.timeline.rows n (report_of speaker_cmp teller.heard.entries (speaker_at origin)).tlvs fault)
        (heard (speaker_at origin)).octets said.refuses;
  }

module _ (events : Events) (made : List Made) (one : Made) (told : Record) (is : IsTold one told) (old : Follower) (written : List (Telling Speaker)) (was : HasHeard events made written old.hearing)
    (others_too : KnowsOthers events made old.other_sources) where
  heard_of : (speaker : Speaker) → IsHeardOf events made old.hearing.teller.heard.entries speaker
  heard_of speaker = subst (λ (m : List Made). IsHeardOf events m old.hearing.teller.heard.entries speaker) was.are_made (was.heard speaker)

  heard_now : (origin : Origin) → IsHeardOf events made old.hearing.teller.heard.entries (speaker_at origin)
  heard_now origin = heard_of (speaker_at origin)

  its_packet : (packet : BabelPacket) → packet_said told.said ≡ Some packet → IsPacketOf one.what (Some packet)
  its_packet packet said_is = subst (IsPacketOf one.what) said_is is.packet

  heard_so : (from : Record) (origin : Origin) (fault : Fault) (said : RefusesSaid events from old.hearing.teller origin fault) → from.time ≡ told.time
      → IsPartOf events origin (octets_in origin made) (octets_found one.what) said.packet.octets.now → RefusesHeard events made one origin fault
  heard_so = refused_so events made one told is old.hearing.teller (told_in was.steps)
      (subst (λ (m : List Made). HaveTold events None m (told_in was.steps) old.hearing.teller.timeline.rows) was.are_made was.have_told) heard_of

  -- as it is heard
  said_so : (origin : Origin) (fault : Fault) → RefusesSaid events told old.hearing.teller origin fault → IsRefused events made one (trouble_of (stops.Unheard (unheard.Sender origin fault)))
  said_so origin fault said =
      let found = its_packet said.packet said.said_is in (
        found.0 ∙ ap Some said.origin_is,
        inl (heard_so told origin fault said refl (inl (sym found.1))),
      )

  read_at : (packet : BabelPacket) → packet_said told.said ≡ Some packet → (origin : Origin) (front : List TlvAt) (fault : InputFault)
      → IsReadTo (start_of events origin) (octets_before old origin) packet.octets.now front fault → IsReadTo (start_of events origin) (octets_in origin made) (octets_found one.what) front fault
  read_at packet said_is origin front fault to =
      subst (λ (p : List ℕ). IsReadTo (start_of events origin) (octets_in origin made) p front fault) (sym (its_packet packet said_is).1)
      (subst (λ (n : ℕ). IsReadTo (start_of events origin) n packet.octets.now front fault) (heard_now origin).octets to)

  -- up to its first TLV that is ignored, or by itself
  module _ (strict : events.strict ≡ true) (packet : BabelPacket) (said_is : packet_said told.said ≡ Some packet) (origin : Origin) (same : packet.origin ≡ origin) (fault : Fault) where
    front_so : (front : List TlvAt) (ignored : InputFault) → IsReadTo (start_of events packet.origin) (octets_before old packet.origin) packet.octets.now front ignored
        → RefusesFront events told packet (packet_octets front) old.hearing.teller (unheard.Sender origin fault) → RefusesHeard events made one origin fault
    front_so front ignored to (from, said, time, (here, here_is, here_origin, here_octets)) =
        heard_so from origin fault said time
        (inr (
          strict,
          front,
          ignored,
          read_at packet said_is origin front ignored (subst (λ (o : Origin). IsReadTo (start_of events o) (octets_before old o) packet.octets.now front ignored) same to),
          ap (λ (p : BabelPacket). p.octets.now) (some_one said.packet here (sym said.said_is ∙ here_is)) ∙ here_octets,
        ))

    alone_so : RefusesAlone (start_of events packet.origin) (octets_before old packet.origin) packet.octets.now fault
        → RefusesAlone (start_of events origin) (octets_in origin made) (octets_found one.what) fault
    alone_so alone =
        subst (λ (p : List ℕ). RefusesAlone (start_of events origin) (octets_in origin made) p fault) (sym (its_packet packet said_is).1)
        (subst (λ (n : ℕ). RefusesAlone (start_of events origin) n packet.octets.now fault) (heard_now origin).octets
        (subst (λ (o : Origin). RefusesAlone (start_of events o) (octets_before old o) packet.octets.now fault) same alone))

  -- a packet that can't be heard
  module _ (origin : Origin) (fault : Fault) where
    abbrev Refused : Type 0
    Refused = IsRefused events made one (trouble_of (stops.Unheard (unheard.Sender origin fault)))

    read_so : events.strict ≡ true → (packet : BabelPacket) → packet_said told.said ≡ Some packet → RefusesPacketRead events told old packet (unheard.Sender origin fault) → Refused
    read_so strict packet said_is (same, inl (front, ignored, to, refuses)) =
        ((its_packet packet said_is).0 ∙ ap Some same, inl (front_so strict packet said_is origin same fault front ignored to refuses))
    read_so strict packet said_is (same, inr alone) = ((its_packet packet said_is).0 ∙ ap Some same, inr (inl (strict, alone_so strict packet said_is origin same fault alone)))

    of_others : (others : OtherSources) → HasHeardOthers events made others → RefusesSaid (without_pair events) told others.teller origin fault → Refused
    of_others others known said =
        let found = its_packet said.packet said.said_is in (
          found.0 ∙ ap Some said.origin_is,
          inr (inr (known.is_any, refused_so (without_pair events) made one told is others.teller known.told known.have_told known.heard told origin fault said refl (inl (sym found.1)))),
        )

    others_so : (why : Unheard) → stops.Unheard (unheard.Sender origin fault) ≡ stops.Unheard why → RefusesOthers events told old.other_sources why → Refused
    others_so why same (others, some, refuses) =
        let is_why : unheard.Sender origin fault ≡ why = cc in
        let known : HasHeardOthers events made others = subst (KnowsOthers events made) some others_too in
        of_others others known (subst (RefusesUnheard (without_pair events) told others.teller) (sym is_why) (refuses known.suits))

    packet_so : (mid : Follower) → Stops events told old mid (stops.Unheard (unheard.Sender origin fault)) → Refused
    packet_so mid (inl (strict, by)) = elim (by was.suits) [ inl said ↦ said_so origin fault said | inr read ↦ read_so strict read.0 read.1 read.2 ]
    packet_so mid (inr (inl usually)) = said_so origin fault (usually was.suits)
    packet_so mid (inr (inr (why, same, refuses))) = others_so why same refuses

  left_so : (datagram : LeftOutDatagram) (mid : Follower) → Stops events told old mid (stops.LeftOut datagram) → IsRefused events made one (trouble_of (stops.LeftOut datagram))
  left_so datagram mid (inl (strict, (left, number))) = (strict, sym is.left ∙ left, number ∙ is.number)
  left_so datagram mid (inr (inl usually)) = absurd usually
  left_so datagram mid (inr (inr (why, same, refuses))) = absurd (let bad : stops.LeftOut datagram ≡ stops.Unheard why = same in cc)

  ignored_so : (origin : Origin) (tlv : IgnoredTlv) (ignores_4 : Bool) (mid : Follower) → Stops events told old mid (stops.Ignored origin tlv ignores_4)
      → IsRefused events made one (trouble_of (stops.Ignored origin tlv ignores_4))
  ignored_so origin tlv ignores_4 mid (inl (strict, (packet, front, said_is, same, to, heard))) =
      ((its_packet packet said_is).0 ∙ ap Some same, strict, (front, read_at packet said_is origin front (input_faults.Ignored tlv ignores_4) to))
  ignored_so origin tlv ignores_4 mid (inr (inl usually)) = absurd usually
  ignored_so origin tlv ignores_4 mid (inr (inr (why, same, refuses))) = absurd (let bad : stops.Ignored origin tlv ignores_4 ≡ stops.Unheard why = same in cc)

  pub stops_so : (mid : Follower) (stop : Stop) → Stops events told old mid stop → stop ≢ stops.Unheard unheard.Memory → IsRefused events made one (trouble_of stop)
  stops_so mid (stops.Unheard unheard.Memory) refused not_memory = absurd (not_memory refl)
  stops_so mid (stops.Unheard (unheard.Sender origin fault)) refused not_memory = packet_so origin fault mid refused
  stops_so mid (stops.LeftOut datagram) refused not_memory = left_so datagram mid refused
  stops_so mid (stops.Ignored origin tlv ignores_4) refused not_memory = ignored_so origin tlv ignores_4 mid refused

-- the record, as far as its sender is followed, is refused behind those before it
pub stops_followed : (events : Events) (told : Record) (made : List Made) (one : Made) (written : List (Telling Speaker)) (old mid new : Follower) (follows : Bool)
    → follows ≡ is_followed (senders_followed made) one.what → IsTold (if follows then one else record one { what = passed }) told → mid.hearing ≡ old.hearing
    → HasHeard events (followed made) written old.hearing → mid.other_sources ≡ old.other_sources → KnowsOthers events (followed made) old.other_sources → (stop : Stop)
    → Stops events told mid new stop → stop ≢ stops.Unheard unheard.Memory
    → IsRefused events (followed made) (followed_of (senders_followed made) one) (trouble_of stop)
stops_followed events told made one written old mid new follows is is_told hearing was others others_too stop stops not_memory =
    let here : IsTold (followed_of (senders_followed made) one) told = subst (λ (b : Bool). IsTold (if b then one else record one { what = passed }) told) is is_told in
    let still = subst (HasHeard events (followed made) written) (sym hearing) was in
    let still_too = subst (KnowsOthers events (followed made)) (sym others) others_too in
    stops_so events (followed made) (followed_of (senders_followed made) one) told here mid written still still_too new stop stops not_memory

-- ---- after a record

one_more : (before made : List Made) (one : Made) → followed (before ++ (made ++ one ∷ [])) ≡ followed (before ++ made) ++ followed_of (senders_followed (before ++ made)) one ∷ []
one_more before made one = ap followed (sym (append_assoc before made (one ∷ []))) ∙ followed-push (before ++ made) one

-- no more is heard after one for which no more is
pub follows_still : (start now : Follower) (made : List Made) (one : Made) → Follows start now made → (now.fault ≡ None → ⊥) → Follows start now (made ++ one ∷ [])
follows_still start now made one follows some = (
  follows.0,
  λ sound. absurd (some sound),
  λ stop stopped begun before written heard.
      let has = follows.2 stop stopped begun before written heard in
      let taken = followed_of (senders_followed (before ++ made)) one in
      record {
        front = has.front;
        one = has.one;
        back = has.back ++ taken ∷ [];
        are = one_more before made one ∙ ap (λ (l : List Made). l ++ taken ∷ []) has.are ∙ append_assoc has.front (has.one ∷ has.back) (taken ∷ []);
        refused = has.refused;
        first = has.first;
        tells = has.tells;
        besides = has.besides;
        written_is = has.written_is;
        kept = has.kept;
      },
)

-- for the next no more is
pub follows_stopped : (start old new : Follower) (made : List Made) (one : Made) (told : Record) → IsTold one told → Follows start old made → old.fault ≡ None
    → (why : Stop) → TellsBehind old.told.items new.told.items why → StopsFollowed old.events.now told old why → (stop : Stop) → Some why ≡ Some stop → (before : List Made) (written : List (Telling Speaker))
    → HasHeardFollowed start.events.now before written start → HasStopped start.events.now (before ++ (made ++ one ∷ [])) stop (written ++ new.told.items)
follows_stopped start old new made one told is follows none why behind stops stop stopped before written heard =
    let was = subst (λ (e : Events). HasHeardFollowed e (before ++ made) written old) (sym follows.0) ((follows.1 none).1 before written heard) in
    let taken = followed_of (senders_followed (before ++ made)) one in
    record {
      front = followed (before ++ made);
      one = taken;
      back = [];
      are = one_more before made one;
      refused = λ not_memory.
          let same : why ≡ stop = cc in
          subst (λ (e : Events). IsRefused e (followed (before ++ made)) taken (trouble_of stop)) follows.0
          (subst (StopsFollowed old.events.now told old) same stops (before ++ made) one written is was not_memory);
      first = written ++ old.told.items;
      tells = tells_heard start.events.now (followed (before ++ made)) (written ++ old.told.items) old.hearing ((follows.1 none).1 before written heard).1;
      besides = behind.0;
      written_is = ap (λ (t : List (Telling Speaker)). written ++ t) behind.1 ∙ sym (append_assoc written old.told.items behind.0);
      kept = λ memory. behind.2 (let same : why ≡ stop = cc in same ∙ memory);
    }
