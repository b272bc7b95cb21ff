-- How far a capture was followed, and what was heard of its senders.
use Rattle.std.specs.Prelude.{ℕ, ◌≡◌, ◌≢◌, ◌⊎◌, Bool, false, true, not, ◌&&◌, ◌||◌, List, [], ◌∷◌}
use Rattle.std.specs.Prelude.{◌++◌, IfSome, Option, None, Some}
use Rattle.std.specs.Prelude.{if◌then◌else◌, length}
use Rattle.std.specs.BTreeMap.{is_at}
use Rattle.std.specs.BTreeSet.{BTreeSet, contains}
use Rattle.std.specs.List.{filter, flat_map}
use Rattle.std.specs.Map.{lookup}
use Rattle.std.specs.Option.{option_or}
use Rattle.babel_capture.specs.Blocks.{context_behind, start}
use Rattle.babel_capture.specs.Capture.{IsReadToCut}
use Rattle.babel_capture.specs.Counts.{Made}
use Rattle.babel_capture.specs.Gathering.{Gathering, name_of}
use Rattle.babel_capture.specs.Reading.{HasTaken}
use Rattle.babel_capture.specs.Sinking.{IsTold, left_said, packet_said}
use Rattle.babel_capture.specs.declared.sink.BabelPacket.{BabelPacket}
use Rattle.babel_capture.specs.declared.sink.Record.{Record}
use Rattle.babel_capture.specs.declared.tallies.Origin.{Origin}
use Rattle.babel_capture.specs.declared.window.Moment.{Moment}
use Rattle.babel_tlv.specs.Framing.{TlvAt, packet_octets}
use Rattle.babel_tlv.specs.declared.fault.Fault.{Fault}
use Rattle.babel_tlv.specs.declared.fault.Fault.TheVariants as faults
use Rattle.babel_timeline.specs.Hearing.{CountsPacket, octets_heard, report_of}
use Rattle.babel_timeline.specs.Rows.{AllLast}
use Rattle.babel_timeline.specs.SilencesTold.{IsWatchedWhole, TellsCounts, TellsSilences}
use Rattle.babel_timeline.specs.SilencesTold.{hellos_heard, watches}
use Rattle.babel_timeline.specs.Telling.{Tells, TellsEnds, answered, of_rows}
use Rattle.babel_timeline.specs.Accounts.{Said}
use Rattle.babel_timeline.specs.declared.heard.Heard.{Heard}
use Rattle.babel_timeline.specs.declared.teller.Teller.{Teller}
use Rattle.babel_timeline.specs.declared.telling.Telling.{Telling}
use Rattle.babel_dump.specs.Device.{GaveOctets, InputState}
use Rattle.babel_dump.specs.EventText.{event_in, speaker_of}
use Rattle.babel_dump.specs.EventsCause.{IsRefused, RefusesAlone, RefusesPart, start_of}
use Rattle.babel_dump.specs.EventsRun.{without_pair}
use Rattle.babel_dump.specs.EventsRun.{AreInOrder, CountsRoutes, TellsSilent, hellos_made, last_time}
use Rattle.babel_dump.specs.EventsRun.{AreOthers, HaveTold, HaveToldSo, IsReportOf, IsSaid, Step}
use Rattle.babel_dump.specs.EventsRun.{TellsCapture, WroteLines, asked_by, followed_by}
use Rattle.babel_dump.specs.EventsRun.{followed_extent, is_lost, keeps_told, made_in, packets_heard}
use Rattle.babel_dump.specs.EventsRun.{Opens, OpensRightly, first_time, has_come, have_come}
use Rattle.babel_dump.specs.EventsRun.{since_at, since_in, speaker_at, told_early, told_from}
use Rattle.babel_dump.specs.EventsRun.{told_in}
use Rattle.babel_dump.specs.EventsRun.{written_in}
use Rattle.babel_dump.specs.EventsStart.{TellsRecords}
use Rattle.babel_dump.specs.FollowedSenders.{followed, followed_of, senders_followed}
use Rattle.babel_dump.specs.Run.{Output}
use Rattle.babel_dump.specs.Speakers.{speaker_cmp}
use Rattle.babel_dump.specs.StrictPackets.{IsReadTo, IsReadWholly}
use Rattle.babel_dump.specs.declared.events.Followed.{Followed}
use Rattle.babel_dump.specs.declared.events_job.Events.{Events}
use Rattle.babel_dump.specs.declared.follower.Follower.{Follower}
use Rattle.babel_dump.specs.declared.hearing.Hearing.{Hearing}
use Rattle.babel_dump.specs.declared.hearing.Unheard.{Unheard}
use Rattle.babel_dump.specs.declared.hearing.Unheard.TheVariants as unheard
use Rattle.babel_dump.specs.declared.input_fault.InputFault.{InputFault}
use Rattle.babel_dump.specs.declared.input_fault.InputFault.TheVariants as input_faults
use Rattle.babel_dump.specs.declared.other_sources.OtherSources.{OtherSources}
use Rattle.babel_dump.specs.declared.since.Since.{Since}
use Rattle.babel_dump.specs.declared.events_outcome.EventsOutcome.{EventsOutcome}
use Rattle.babel_dump.specs.declared.stop.Stop.{Stop}
use Rattle.babel_dump.specs.declared.stop.Stop.TheVariants as stops
use Rattle.babel_dump.specs.declared.run_fault.RunFault.TheVariants as run_faults
use Rattle.babel_dump.specs.declared.run_fault.Side.TheVariants as sides
use Rattle.babel_dump.specs.declared.speaker.Speaker.{Speaker}
use Rattle.babel_dump.specs.declared.trouble.Trouble.{Trouble}
use Rattle.babel_dump.specs.declared.trouble.Trouble.TheVariants as troubles

-- it tells what these words ask for
pub record Suits (events : Events) (teller : Teller Speaker) : Type 0 where
  pub factor : teller.timeline.factor ≡ events.expiry
  pub limit : teller.timeline.limit ≡ events.limits.entries
  pub view : teller.interest.view ≡ events.view
  pub asked : teller.interest.asked ≡ asked_by events

-- what was heard of a sender is how many octets its packets have, and their report
pub record IsHeardOf (events : Events) (made : List Made) (heard : List (Speaker × Heard))
    (speaker : Speaker) : Type 0 where
  pub report : IsReportOf events made speaker (report_of speaker_cmp heard speaker)
  pub octets : octets_heard speaker_cmp heard speaker
      ≡ length (flat_map (λ packet. packet) (packets_heard speaker made))

-- what senders answered last, of what was told, is kept
abbrev pub HasAnswers : List (Telling Speaker) → Since → Type 0
HasAnswers told kept = (speaker : Speaker)
    → lookup (is_at (speaker_cmp speaker)) kept.answers.entries ≡ answered speaker_cmp told speaker

-- The moment is this one, if one is known. Until it has come, what was answered before it is kept.
pub record Awaits (since : Option ℕ) (come : Bool) (told : List (Telling Speaker)) (kept : Since)
    : Type 0 where
  pub moment : kept.moment ≡ since
  pub has_come : kept.has_come ≡ come
  pub answers : come ≡ false → HasAnswers (told_early since told) kept

-- The moment may come by this time. What was answered before it is kept until then, and is told
-- where it comes.
abbrev pub ComesBy : (since : ℕ) → (time : Option ℕ) → (old : Since)
    → (heard : List (Telling Speaker)) → (new : Since) → (told : List (Telling Speaker)) → Type 0
ComesBy since time old heard new told =
    (come : Bool) (earlier : List (Telling Speaker)) → Awaits (Some since) come earlier old
    → Awaits (Some since) (come || has_come (Some since) time) (earlier ++ heard) new
    × Opens (Some since) (not come && has_come (Some since) time) (earlier ++ heard) told

-- of what is told up to a time, behind what was told before, this is told from the moment on
pub record TellsFrom (since : Option ℕ) (come : Bool) (time : Option ℕ)
    (earlier heard : List (Telling Speaker)) (kept : Since) (told : List (Telling Speaker))
    : Type 0 where
  pub opening : List (Telling Speaker)
  pub opens : Opens since (not come && has_come since time) (earlier ++ heard) opening
  pub awaits : Awaits since (come || has_come since time) (earlier ++ heard) kept
  pub told_is : told ≡ opening ++ told_from since heard

-- the same, whatever was told before
abbrev pub TellsThen : (time : Option ℕ) → (old : Since) → (heard : List (Telling Speaker))
    → (new : Since) → (told : List (Telling Speaker)) → Type 0
TellsThen time old heard new told =
    (since : Option ℕ) (come : Bool) (earlier : List (Telling Speaker))
    → Awaits since come earlier old → TellsFrom since come time earlier heard new told

-- the same of a record that came then, from which a moment may count
abbrev pub TellsNext : Option Moment → (came : Option ℕ) → (old : Since)
    → (heard : List (Telling Speaker)) → (new : Since) → (told : List (Telling Speaker)) → Type 0
TellsNext asked came old heard new told =
    (since : Option ℕ) (come : Bool) (earlier : List (Telling Speaker))
    → Awaits since come earlier (record old { moment = option_or old.moment (since_at asked came) })
    → TellsFrom since come came earlier heard new told

-- of these records it was told who is silent, and the last Hellos of the others are waited for
abbrev pub KnowsSilent : Events → List Made → List (Telling Speaker) → Teller Speaker → Type 0
KnowsSilent events made told teller = AreInOrder made → watches events.expiry (asked_by events) ≡ true
    → IsWatchedWhole speaker_cmp (hellos_made made) (last_time made) told teller.watch

-- the records were heard, one after another, and this is to be written of what they told
pub record HasHeard (events : Events) (made : List Made) (written : List (Telling Speaker))
    (hearing : Hearing) : Type 0 where
  pub suits : Suits events hearing.teller
  pub steps : List Step
  pub are_made : made_in steps ≡ made
  pub each : (front back : List Step) → steps ≡ front ++ back → HaveToldSo events front
  pub have_told : HaveTold events None (made_in steps) (told_in steps) hearing.teller.timeline.rows
  pub written_is : written ≡ written_in events [] steps
  pub opens : (front back : List Step) (step : Step) → steps ≡ front ++ step ∷ back
      → OpensRightly events front step
  pub awaits : Awaits (since_in events.since (made_in steps))
      (have_come (since_in events.since (made_in steps)) (made_in steps)) (told_in steps)
      hearing.since
  pub quiet : first_time (made_in steps) ≡ None → told_in steps ≡ []
  pub silent : (front back : List Step) → steps ≡ front ++ back
      → TellsSilent events (last_time (made_in front)) (made_in front) (told_in front)
  pub knows : KnowsSilent events (made_in steps) (told_in steps) hearing.teller
  pub counts : (front back : List Step) (step : Step) → steps ≡ front ++ step ∷ back
      → CountsRoutes events (made_in front) (told_in front) step.told
  pub lost : (speaker : Speaker)
      → contains speaker_cmp hearing.lost speaker ≡ is_lost (made_in steps) speaker
  pub heard : (speaker : Speaker)
      → IsHeardOf events (made_in steps) hearing.teller.heard.entries speaker

-- what was heard is now of this record, too, and to be written of what it tells besides
abbrev pub HearsTold : Events → Record → Follower → Follower → Type 0
HearsTold events told old new =
    (made : List Made) (one : Made) (before : List (Telling Speaker)) → IsTold one told
    → HasHeard events made (before ++ old.told.items) old.hearing
    → HasHeard events (made ++ one ∷ []) (before ++ new.told.items) new.hearing

-- the records were heard for the routes for other sources, where answers are for any source
pub record HasHeardOthers (events : Events) (made : List Made) (others : OtherSources) : Type 0
  where
    pub is_any : events.is_any_source ≡ true
    pub of : events.pair ≡ Some others.pair
    pub suits : Suits (without_pair events) others.teller
    pub told : List (Telling Speaker)
    pub have_told : HaveTold (without_pair events) None made told others.teller.timeline.rows
    pub heard : (speaker : Speaker)
        → IsHeardOf (without_pair events) made others.teller.heard.entries speaker
    pub quiet : first_time made ≡ None → told ≡ []
    pub are : AreOthers others.pair.dst (since_in events.since made) told others.held

-- the same, if they are heard; and where answers are for any source they are
abbrev pub KnowsOthers : Events → List Made → Option OtherSources → Type 0
KnowsOthers events made None = events.is_any_source ≡ true → events.pair ≡ None
KnowsOthers events made (Some others) = HasHeardOthers events made others

-- now also of this record, by which the moment is this one that is asked for
abbrev pub HearsOthers : Events → Record → (since : Option ℕ) → (old new : Option OtherSources)
    → Type 0
HearsOthers events told since old new = (made : List Made) (one : Made) → IsTold one told
    → since ≡ since_in events.since (made ++ one ∷ [])
    → KnowsOthers events made old → KnowsOthers events (made ++ one ∷ []) new

-- of these records those of senders that are followed were heard, and this is to be written of what
-- they told
abbrev pub HasHeardFollowed : Events → List Made → List (Telling Speaker) → Follower → Type 0
HasHeardFollowed events made written follower =
    (follower.senders.senders.entries ≡ senders_followed made)
    × HasHeard events (followed made) (written ++ follower.told.items) follower.hearing
    × KnowsOthers events (followed made) follower.other_sources

-- now also of this record
abbrev pub HearsFollowed : Events → Record → Follower → Follower → Type 0
HearsFollowed events told old new =
    (made : List Made) (one : Made) (before : List (Telling Speaker)) → IsTold one told
    → HasHeardFollowed events made before old → HasHeardFollowed events (made ++ one ∷ []) before new

-- how many octets of the packets of a sender were heard
abbrev pub octets_before : Follower → Origin → ℕ
octets_before follower origin =
    octets_heard speaker_cmp follower.hearing.teller.heard.entries (speaker_at origin)

-- The record is read whole: it is no datagram that was left out, and of its packet, if it has one, no
-- TLV is ignored.
abbrev pub IsWholeTold : Events → Record → Follower → Type 0
IsWholeTold events told old = (left_said told.said ≡ None) × IfSome (packet_said told.said)
    (λ (packet : BabelPacket). IsReadWholly (start_of events packet.origin)
    (octets_before old packet.origin) packet.octets.now)

-- These octets of a packet were heard, in place of the packet.
abbrev pub HearsFront : Events → Record → BabelPacket → (octets : List ℕ) → Follower → Follower
    → Type 0
HearsFront events told packet octets old new = (front : Record) × HearsTold events front old new
    × (front.number ≡ told.number) × (front.time ≡ told.time)
    × ((said : BabelPacket) × (packet_said front.said ≡ Some said)
    × (said.origin ≡ packet.origin) × (said.octets.now ≡ octets))

-- The record has a packet of this sender, which a teller refuses for this.
pub record RefusesSaid (events : Events) (told : Record) (teller : Teller Speaker) (origin : Origin)
    (fault : Fault) : Type 0 where
  pub packet : BabelPacket
  pub said_is : packet_said told.said ≡ Some packet
  pub origin_is : packet.origin ≡ origin
  pub came : ℕ
  pub timed : told.time ≡ Some came
  pub refuses : RefusesPart events origin came packet.octets.now teller.timeline.rows
      (octets_heard speaker_cmp teller.heard.entries (speaker_at origin))
      (report_of speaker_cmp teller.heard.entries (speaker_at origin)).tlvs fault

-- a teller can't hear this packet of a sender that comes then
abbrev pub RefusesTeller : Events → Origin → (came : ℕ) → (packet : List ℕ) → Teller Speaker
    → Unheard → Type 0
RefusesTeller events origin came packet teller unheard.Memory = Unit {0}
RefusesTeller events origin came packet teller (unheard.Sender of fault) =
    (of ≡ origin) × RefusesPart events origin came packet teller.timeline.rows
    (octets_heard speaker_cmp teller.heard.entries (speaker_at origin))
    (report_of speaker_cmp teller.heard.entries (speaker_at origin)).tlvs fault

-- a teller can't hear the record for this
abbrev pub RefusesUnheard : Events → Record → Teller Speaker → Unheard → Type 0
RefusesUnheard events told teller unheard.Memory = Unit {0}
RefusesUnheard events told teller (unheard.Sender origin fault) =
    RefusesSaid events told teller origin fault

-- in place of the packet of the record these octets can't be heard
abbrev pub RefusesFront : Events → Record → BabelPacket → (octets : List ℕ) → Teller Speaker
    → Unheard → Type 0
RefusesFront events told packet octets teller unheard.Memory = Unit {0}
RefusesFront events told packet octets teller (unheard.Sender origin fault) =
    (front : Record) × RefusesSaid events front teller origin fault × (front.time ≡ told.time)
    × ((said : BabelPacket) × (packet_said front.said ≡ Some said)
    × (said.origin ≡ packet.origin) × (said.octets.now ≡ octets))

-- the record has a packet of this sender, which is refused so where it is read strictly: the TLVs
-- before the first that is ignored; or by itself
abbrev pub RefusesPacketRead : Events → Record → Follower → BabelPacket → Unheard → Type 0
RefusesPacketRead events told old packet unheard.Memory = Unit {0}
RefusesPacketRead events told old packet (unheard.Sender origin fault) =
    (packet.origin ≡ origin)
    × (((front : List TlvAt) × (ignored : InputFault) × IsReadTo (start_of events packet.origin)
    (octets_before old packet.origin) packet.octets.now front ignored
    × RefusesFront events told packet (packet_octets front) old.hearing.teller
    (unheard.Sender origin fault))
    ⊎ RefusesAlone (start_of events packet.origin) (octets_before old packet.origin)
    packet.octets.now fault)

-- The record, which is read strictly, is refused for this: it is a datagram that was left out; or a
-- packet, for its first TLV that is ignored, and the TLVs before that were heard; or it can't be
-- heard.
abbrev pub RefusesTold : Events → Record → Follower → Follower → Stop → Type 0
RefusesTold events told old new (stops.Ignored origin tlv ignores_4) =
    (packet : BabelPacket) × (front : List TlvAt) × (packet_said told.said ≡ Some packet)
    × (packet.origin ≡ origin)
    × IsReadTo (start_of events origin) (octets_before old origin) packet.octets.now front
    (input_faults.Ignored tlv ignores_4)
    × HearsFront events told packet (packet_octets front) old new
RefusesTold events told old new (stops.LeftOut datagram) =
    (left_said told.said ≡ Some datagram.reason) × (datagram.packet ≡ told.number)
RefusesTold events told old new (stops.Unheard fault) =
    Suits events old.hearing.teller → RefusesUnheard events told old.hearing.teller fault
    ⊎ ((packet : BabelPacket) × (packet_said told.said ≡ Some packet)
    × RefusesPacketRead events told old packet fault)

-- of one that is not read strictly
abbrev pub RefusesUsually : Events → Record → Follower → Stop → Type 0
RefusesUsually events told old (stops.Unheard fault) =
    Suits events old.hearing.teller → RefusesUnheard events told old.hearing.teller fault
RefusesUsually events told old stop = ⊥

-- the routes for other sources can't be heard for this
abbrev pub RefusesOthers : Events → Record → Option OtherSources → Unheard → Type 0
RefusesOthers events told old fault = (others : OtherSources) × (old ≡ Some others)
    × (Suits (without_pair events) others.teller
    → RefusesUnheard (without_pair events) told others.teller fault)

-- why no more is heard than the record, in one of these ways
abbrev pub Stops : Events → Record → (old mid : Follower) → Stop → Type 0
Stops events told old mid stop =
    ((events.strict ≡ true) × RefusesTold events told old mid stop)
    ⊎ RefusesUsually events told old stop
    ⊎ ((fault : Unheard) × (stop ≡ stops.Unheard fault)
    × RefusesOthers events told old.other_sources fault)

-- what is told of why no more is heard
abbrev pub trouble_of : Stop → Trouble
trouble_of (stops.Unheard unheard.Memory) =
    troubles.Fault (run_faults.Input sides.First (input_faults.Dump faults.Memory))
trouble_of (stops.Unheard (unheard.Sender origin fault)) =
    troubles.Sender sides.First origin None (input_faults.Dump fault)
trouble_of (stops.LeftOut datagram) =
    troubles.Fault (run_faults.Input sides.First (input_faults.LeftOut datagram))
trouble_of (stops.Ignored origin tlv ignores_4) =
    troubles.Sender sides.First origin None (input_faults.Ignored tlv ignores_4)

-- no more is heard than this record, as far as its sender is followed, unless memory ran out
abbrev pub StopsFollowed : Events → Record → Follower → Stop → Type 0
StopsFollowed events told old stop =
    (made : List Made) (one : Made) (before : List (Telling Speaker)) → IsTold one told
    → HasHeardFollowed events made before old → stop ≢ stops.Unheard unheard.Memory
    → IsRefused events (followed made) (followed_of (senders_followed made) one) (trouble_of stop)

-- Of these records, as far as their senders are followed, those before one were heard, for which no
-- more is, unless memory ran out. This is what they told, and then perhaps something of the one.
pub record HasStopped (events : Events) (made : List Made) (stop : Stop)
    (written : List (Telling Speaker)) : Type 0 where
  pub front : List Made
  pub one : Made
  pub back : List Made
  pub are : followed made ≡ front ++ one ∷ back
  pub refused : stop ≢ stops.Unheard unheard.Memory → IsRefused events front one (trouble_of stop)
  pub first : List (Telling Speaker)
  pub tells : TellsRecords events front first
  pub besides : List (Telling Speaker)
  pub written_is : written ≡ first ++ besides
  pub kept : stop ≡ stops.Unheard unheard.Memory → besides ≡ []

-- no more is heard: behind what was told before there may be something, unless memory ran out
abbrev pub TellsBehind : (old new : List (Telling Speaker)) → Stop → Type 0
TellsBehind old new stop = (more : List (Telling Speaker)) × (new ≡ old ++ more)
    × (stop ≡ stops.Unheard unheard.Memory → more ≡ [])

-- these records made the second of the first: of what they told this is to be written besides
-- or it has stopped at one of them
abbrev pub Follows : Follower → Follower → List Made → Type 0
Follows start now made =
    (now.events.now ≡ start.events.now) × (now.fault ≡ None → (start.fault ≡ None)
    × ((before : List Made) (written : List (Telling Speaker))
    → HasHeardFollowed start.events.now before written start
    → HasHeardFollowed start.events.now (before ++ made) written now))
    × ((stop : Stop) → now.fault ≡ Some stop → start.fault ≡ None
    → (before : List Made) (written : List (Telling Speaker))
    → HasHeardFollowed start.events.now before written start
    → HasStopped start.events.now (before ++ made) stop (written ++ now.told.items))

-- of what is told now, that of senders that are not lost
abbrev pub unlost_by : BTreeSet Speaker → List (Telling Speaker) → List (Telling Speaker)
unlost_by lost told = filter (λ one. not (contains speaker_cmp lost (speaker_of one))) told

-- of the capture these octets were read, its records that are whole were heard as far as their senders
-- are followed, and this was written before what is told and not written yet
pub record IsFollowed (events : Events) (fed : List ℕ) (written : List (Telling Speaker))
    (followed : Followed) : Type 0 where
  pub read : HasTaken (followed_extent events)
      followed.capture.progress followed.capture.pending fed
  pub no_fault : followed.capture.fault ≡ None
  pub limit : followed.capture.limit ≡ followed_extent events
  pub wanted : followed.capture.progress.gathering.wanted ≡ followed_by events
  pub events_are : followed.follower.events.now ≡ events
  pub sound : followed.follower.fault ≡ None
  pub has_heard : HasHeardFollowed events read.leads.gathered.made written followed.follower

-- These octets are all of a capture that was followed, which is cut short here, if that is accepted.
-- All of its records were heard, also those of datagrams of which fragments are missing at its end,
-- and this was written before what is told and not written yet.
pub record IsFollowedToEnd (events : Events) (fed : List ℕ) (written : List (Telling Speaker))
    (cut : Option ℕ) (followed : Followed) : Type 0 where
  pub is_read : IsReadToCut (followed_extent events) fed followed.capture.progress.gathering cut
  pub accepted : events.accept_cut ≡ false → cut ≡ None
  pub limit : followed.capture.limit ≡ followed_extent events
  pub wanted : followed.capture.progress.gathering.wanted ≡ followed_by events
  pub context : followed.capture.progress.context
      ≡ context_behind (start (followed_extent events)) is_read.is_read.blocks
  pub has_heard : HasHeardFollowed events is_read.is_read.gathered.made written followed.follower

-- the line of what is told, with the name of its interface, if the filter keeps it
abbrev pub named_event : Events → Gathering → Telling Speaker → List ℕ
named_event events gathering told =
    if keeps_told events.filter told then event_in events.format events.view events.pair
    (name_of gathering (speaker_of told).place.interface) told else []

-- it was followed so far, and the writer took the lines of what is told besides
pub record Goes (events : Events) (fed : List ℕ) (written : List (Telling Speaker))
    (writer : Output) (followed : Followed) : Type 0 where
  pub more : List (Telling Speaker)
  pub is_followed : IsFollowed events fed (written ++ more) followed
  pub wrote : WroteLines events more writer

-- the reader gave all that it had, and the writer took the lines of what that told
pub record HasFollowed (events : Events) (old new : InputState) (writer : Output)
    (followed : Followed) : Type 0 where
  pub octets : List ℕ
  pub gave : GaveOctets old new octets
  pub goes : Goes events octets [] writer followed

-- What has ended by this moment is told. Of it this is to be written: that from the moment on of
-- senders that are not lost.
pub record EndsBy (events : Events) (moment : ℕ) (old new : Hearing)
    (before told : List (Telling Speaker)) : Type 0 where
  pub ended : List (Telling Speaker)
  pub tells : TellsEnds speaker_cmp events.expiry (asked_by events) moment old.teller.timeline.rows
      new.teller.timeline.rows [] (of_rows (asked_by events) ended)
  pub silences : watches events.expiry (asked_by events) ≡ true
      → TellsSilences speaker_cmp [] moment [] ended old.teller.watch new.teller.watch
  pub counts : watches events.expiry (asked_by events) ≡ true
      → TellsCounts speaker_cmp events.expiry old.teller.timeline.rows [] ended
  pub last : AllLast speaker_cmp events.expiry moment new.teller.timeline.rows
  pub printed : List (Telling Speaker)
  pub from : TellsThen (Some moment) old.since ended new.since printed
  pub written : told ≡ before ++ unlost_by old.lost printed

-- the same where there is a moment, and nothing where there is none
abbrev pub EndsAt : Events → Option ℕ → (old new : Followed) → Type 0
EndsAt events None old new = new.follower ≡ old.follower
EndsAt events (Some moment) old new =
    EndsBy events moment old.follower.hearing new.follower.hearing old.follower.told.items
    new.follower.told.items

-- These octets are all of a capture that was followed so far. The writer took the lines of what is
-- told besides, up to the moment that it was read to.
pub record Ends (events : Events) (fed : List ℕ) (written : List (Telling Speaker))
    (writer : Output) (answer : EventsOutcome) : Type 0 where
  pub more : List (Telling Speaker)
  pub tells : TellsCapture events fed (written ++ more) answer
  pub wrote : WroteLines events more writer

-- the packet is heard: what it says is told, and counted for its sender
pub record HearsPacket (events : Events) (origin : Origin) (time : ℕ) (packet : List ℕ)
    (old new : Teller Speaker) (before told : List (Telling Speaker)) : Type 0 where
  pub suits : Suits events new
  pub said : List (Said Speaker)
  pub is_said : IsSaid events time origin.place origin.sender packet said
  pub tells : Tells speaker_cmp events.expiry (asked_by events) said time old.timeline.rows
      new.timeline.rows (of_rows (asked_by events) before) (of_rows (asked_by events) told)
  pub counts : CountsPacket speaker_cmp (speaker_at origin)
      (record { sender = origin.sender; via_v6 = events.limits.via_v6 }) packet old.heard.entries
      new.heard.entries
  pub silences : watches events.expiry (asked_by events) ≡ true
      → TellsSilences speaker_cmp (hellos_heard (speaker_at origin) time packet) time before told
      old.watch new.watch
  pub counts_rows : watches events.expiry (asked_by events) ≡ true
      → TellsCounts speaker_cmp events.expiry old.timeline.rows before told

-- with this record this is told besides, and what was heard of senders is of it, too
pub record HearsRecord (events : Events) (one : Made) (old new : Teller Speaker)
    (told : List (Telling Speaker)) : Type 0 where
  pub suits : Suits events new
  pub tells : (made : List Made) (before : List (Telling Speaker))
      → HaveTold events None made before old.timeline.rows
      → HaveTold events None (made ++ one ∷ []) (before ++ told) new.timeline.rows
  pub silences : (made : List Made) (before : List (Telling Speaker))
      → KnowsSilent events made before old
      → KnowsSilent events (made ++ one ∷ []) (before ++ told) new
  pub counts : (made : List Made) (before : List (Telling Speaker))
      → HaveTold events None made before old.timeline.rows → CountsRoutes events made before told
  pub heard : (made : List Made) (speaker : Speaker)
      → IsHeardOf events made old.heard.entries speaker
      → IsHeardOf events (made ++ one ∷ []) new.heard.entries speaker
