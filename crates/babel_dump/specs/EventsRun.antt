-- What `events` tells of a capture, and what it promises: this project's own. Who does not use the
-- command needs none of this page.
use Rattle.std.specs.Prelude.{ℕ, ◌≡◌, ◌↔◌, ◌+◌, ◌≤◌, ◌^◌, Bool, true, false, not, ◌&&◌, ◌||◌, List, []}
use Rattle.std.specs.Prelude.{◌∷◌, ◌++◌}
use Rattle.std.specs.Prelude.{Option, None, Some, IfSome, is_none, length, map, nat_le}
use Rattle.std.specs.Prelude.{fold, if◌then◌else◌}
use Rattle.std.specs.BTreeMap.{is_at}
use Rattle.std.specs.BTreeSet.{BTreeSet, contains}
use Rattle.std.specs.Io.KnownBytes.{Appends}
use Rattle.std.specs.List.{AllByRecursion, filter, flat_map, list_any}
use Rattle.std.specs.List.Sorted.{IsStrictlySortedBy}
use Rattle.std.specs.Map.{keys_of, lookup}
use Rattle.std.specs.Option.{is_some, option_map, option_or, unwrap_or}
use Rattle.babel_prefix.specs.Address.{Address}
use Rattle.babel_capture.specs.declared.missed.Missed.{Missed}
use Rattle.babel_capture.specs.declared.place.Place.{Place}
use Rattle.babel_capture.specs.declared.tallies.Origin.{Origin}
use Rattle.babel_capture.specs.declared.wanted.Wanted.{Wanted}
use Rattle.babel_capture.specs.Blocks.{BlockAt, context_behind, start}
use Rattle.babel_capture.specs.Capture.{IsReadToCut}
use Rattle.babel_capture.specs.Counts.{Counts, Made}
use Rattle.babel_capture.specs.Findings.{Found, found, missed_in, octets_found, origin_found}
use Rattle.babel_capture.specs.Gathering.{Gathering, name_of}
use Rattle.babel_capture.specs.Times.{time_of}
use Rattle.babel_capture.specs.Window.{Extent, moment_from, moment_up_to}
use Rattle.babel_capture.specs.declared.window.Moment.{Moment}
use Rattle.babel_tlv.specs.Context.{first_context}
use Rattle.babel_tlv.specs.Framing.{ArePlaced, TlvAt, packet_octets}
use Rattle.babel_tlv.specs.Route.{Announcement}
use Rattle.babel_tlv.specs.declared.request.Request.{Request}
use Rattle.babel_tlv.specs.declared.request.Request.TheVariants as requests
use Rattle.babel_tlv.specs.Says.{sayings}
use Rattle.babel_table.specs.Counts.{counts_of}
use Rattle.babel_table.specs.Counts.{Counts as Report}
use Rattle.babel_table.specs.Moments.{Stamp, told_from as said_from}
use Rattle.babel_timeline.specs.declared.best_match.BestMatch.{BestMatch}
use Rattle.babel_timeline.specs.declared.change.Change.{Change}
use Rattle.babel_timeline.specs.declared.subject.Subject.{Subject}
use Rattle.babel_timeline.specs.declared.telling.Telling.{Telling}
use Rattle.babel_timeline.specs.declared.telling.Telling.TheVariants as tellings
use Rattle.babel_timeline.specs.Accounts.{IsAccount, Said}
use Rattle.babel_timeline.specs.RequestsTold.{requests_told, unicast}
use Rattle.babel_timeline.specs.Rows.{AllLast, Rows, subject_cmp}
use Rattle.babel_timeline.specs.Silence.{row_count}
use Rattle.babel_timeline.specs.SilencesTold.{EachCounts, TellsWhoIsSilent, hellos_heard, watches}
use Rattle.babel_timeline.specs.Telling.{AreAnswers, AreLastSaid, AskedFor, answered, of_rows, said_of}
use Rattle.babel_dump.specs.AnySource.{IsSourceSpecific}
use Rattle.babel_dump.specs.CaptureRun.{IsOutcomeOf}
use Rattle.babel_dump.specs.Device.{GaveOctets, InputState}
use Rattle.babel_dump.specs.EventText.{event_in, speaker_of}
use Rattle.babel_dump.specs.Filter.{if_asked, keeps_key}
use Rattle.babel_dump.specs.FollowedSenders.{followed, senders_followed, with_packets}
use Rattle.babel_dump.specs.LeftOut.{LeavesNoneOut}
use Rattle.babel_dump.specs.declared.filter.Filter.{Filter}
use Rattle.std.specs.Str.{bytes_eq}
use Rattle.babel_timeline.specs.Changes.{held_after, held_before}
use Rattle.babel_dump.specs.EventText.{time_of as time_told}
use Rattle.babel_dump.specs.Run.{Output}
use Rattle.babel_dump.specs.Strict.{IsReadWhole}
use Rattle.babel_dump.specs.declared.addr_pair.AddrPair.{AddrPair}
use Rattle.babel_dump.specs.declared.events_job.Events.{Events}
use Rattle.babel_dump.specs.declared.events_outcome.EventsOutcome.{EventsOutcome}
use Rattle.babel_dump.specs.declared.events_outcome.HeardSender.{HeardSender}
use Rattle.babel_dump.specs.declared.other_sources.OtherSources.{OtherSources}
use Rattle.babel_dump.specs.declared.speaker.Speaker.{Speaker}
use Rattle.babel_dump.specs.Speakers.{speaker_cmp}

-- how much of a capture is read: more octets than any file has
abbrev pub followed_extent : Events → Extent
followed_extent events =
    record { octets = 2 ^ 62; window = events.window; to_cut = events.accept_cut }

-- Whose datagrams are wanted, as they come. Where a capture is read strictly, one sender more than
-- 65,536 is a fault.
abbrev pub followed_by : Events → Wanted
followed_by events = record {
  sender = events.sender;
  place = events.place;
  are_listed = events.strict;
  accepts_missing = events.accept_missing;
}

abbrev pub asked_by : Events → AskedFor
asked_by events = option_map (λ (pair : AddrPair). (pair.dst, pair.src)) events.pair

-- ---- what is said

-- a packet of this sender, which came at this time, is TLVs, and says what these tell
pub record IsSaid (events : Events) (time : ℕ) (place : Place) (sender : Address)
    (packet : List ℕ) (said : List (Said Speaker)) : Type 0 where
  pub at : ℕ
  pub tlvs : List TlvAt
  pub rest : List ℕ
  pub whole : packet ≡ packet_octets tlvs ++ rest
  pub placed : ArePlaced (at + 4) tlvs
  pub is : said ≡ said_of (asked_by events) events.view (record { sender = sender; place = place })
      (said_from time
      (first_context (record { sender = sender; via_v6 = events.limits.via_v6 })) tlvs)

-- what a record of a capture says: what its packet does, where it has one, and a time
abbrev pub Says : Events → Option ℕ → Found → List (Said Speaker) → Type 0
Says events (Some time) (found place ends packet has_trailer) said =
    IsSaid events time place ends.sender packet said
Says events time what said = said ≡ []

-- what the records of a capture say, in order
abbrev pub AreSaid : Events → List Made → List (Said Speaker) → Type 0
AreSaid events [] said = said ≡ []
AreSaid events (one ∷ made) said =
    (here : List (Said Speaker)) × (later : List (Said Speaker)) × (said ≡ here ++ later)
    × Says events (time_of one.came) one.what here × AreSaid events made later

-- ---- what is requested

-- a sender at a place, as one who speaks
abbrev pub speaker_at : Origin → Speaker
speaker_at origin = record { sender = origin.sender; place = origin.place }

-- what a packet of a sender at a place, which came at this time and was sent to this address,
-- requests, if that is asked for
abbrev pub requests_asked : Events → ℕ → Origin → (destination : Address) → (packet : List ℕ)
    → List (Telling Speaker)
requests_asked events time origin destination packet = if events.requests
    then requests_told events.limits.via_v6 (speaker_at origin) (unicast destination) time packet
    else []

-- what a record's packet requests, where it has one, and a time
abbrev pub requests_found : Events → Option ℕ → Found → List (Telling Speaker)
requests_found events (Some time) (found place ends packet has_trailer) =
    requests_asked events time (record { place = place; sender = ends.sender }) ends.destination
    packet
requests_found events time what = []

abbrev pub requests_made : Events → Made → List (Telling Speaker)
requests_made events one = requests_found events (time_of one.came) one.what

-- ---- whose Hellos are waited for

-- the Hellos of a record's packet, where it has one, and a time
abbrev pub hellos_found : Option ℕ → Found → List (Speaker × Stamp)
hellos_found (Some time) (found place ends packet has_trailer) =
    hellos_heard (record { sender = ends.sender; place = place }) time packet
hellos_found time what = []

abbrev pub hellos_made : List Made → List (Speaker × Stamp)
hellos_made made = flat_map (λ one. hellos_found (time_of one.came) one.what) made

-- when the last of these records came that has a time; 0 where none has
abbrev pub last_time : List Made → ℕ
last_time made = fold (λ last one. unwrap_or (time_of one.came) last) 0 made

-- ---- in order

-- none of these records came after this time
abbrev pub AreUpTo : ℕ → List Made → Type 0
AreUpTo time made = AllByRecursion (λ one. IfSome (time_of one.came) (λ came. came ≤ time)) made

-- times do not run backwards
abbrev pub AreInOrder : List Made → Type 0
AreInOrder made =
    (front back : List Made) (one : Made) (time : ℕ) → made ≡ front ++ one ∷ back
    → time_of one.came ≡ Some time → AreUpTo time front

-- ---- what is told

-- but for who is silent or returns, the tellings are these changes; or, where addresses are asked
-- for, the answers that they made
abbrev pub AreTold : AskedFor → List (Change Speaker) → Rows Speaker → List (Telling Speaker)
    → Type 0
AreTold None changes rows told = of_rows None told ≡ map tellings.Change changes
AreTold (Some pair) changes rows told = AreAnswers speaker_cmp pair changes told rows

-- the changes account for what records said, up to a moment that is no later than they are, or than
-- this one, if it is given
pub record IsAccountOf (events : Events) (until : Option ℕ) (made : List Made)
    (said : List (Said Speaker)) (changes : List (Change Speaker)) (rows : Rows Speaker)
    : Type 0 where
  pub moment : ℕ
  pub account : IsAccount speaker_cmp events.expiry None said moment changes rows
  pub reached : (time : ℕ) → AreUpTo time made → IfSome until (λ last. last ≤ time)
      → moment ≤ time

-- What records told from nothing on, and the rows after them: where their times do not run
-- backwards, the changes account for all that was said. Where nothing expires, whatever the times,
-- the rows are what the changes say is held, and what was said last.
pub record HaveTold (events : Events) (until : Option ℕ) (made : List Made)
    (told : List (Telling Speaker)) (rows : Rows Speaker) : Type 0 where
  pub said : List (Said Speaker)
  pub are_said : AreSaid events made said
  pub changes : List (Change Speaker)
  pub account : AreInOrder made → IsAccountOf events until made said changes rows
  pub said_last : events.expiry ≡ None → AreLastSaid speaker_cmp said changes rows
  pub are_told : AreTold (asked_by events) changes rows told

-- Where rows end and each change is told, and times do not run backwards: the senders that were told
-- to be silent, and not to return since, are exactly those that are silent at the moment.
abbrev pub TellsSilent : Events → (moment : ℕ) → List Made → List (Telling Speaker) → Type 0
TellsSilent events moment made told =
    AreInOrder made → watches events.expiry (asked_by events) ≡ true
    → TellsWhoIsSilent speaker_cmp (hellos_made made) moment told

-- Behind these records, and what was told, so many rows of a sender are left at the time: once all
-- that ends by then was told.
pub record LeavesRows (events : Events) (made : List Made) (told : List (Telling Speaker))
    (time : ℕ) (speaker : Speaker) (routes : ℕ) : Type 0 where
  pub rows : Rows Speaker
  pub have_told : HaveTold events (Some time) made told rows
  pub last : AllLast speaker_cmp events.expiry time rows
  pub are : routes ≡ row_count speaker_cmp speaker rows

-- Where rows end and each change is told: behind these records, and what was told, each who is told
-- besides to fall silent is told to hold so many.
abbrev pub CountsRoutes : Events → List Made → (told more : List (Telling Speaker)) → Type 0
CountsRoutes events made told more = watches events.expiry (asked_by events) ≡ true
    → EachCounts (LeavesRows events made) told more

-- a record, what it told, and what was answered just before the moment, where that came with it
pub record Step : Type 0 where
  pub made : Made
  pub told : List (Telling Speaker)
  pub opening : List (Telling Speaker)

abbrev pub made_in : List Step → List Made
made_in steps = map (λ step. step.made) steps

abbrev pub told_in : List Step → List (Telling Speaker)
told_in steps = flat_map (λ step. step.told) steps

-- after these records, the tellings are what all of them told
abbrev pub HaveToldSo : Events → List Step → Type 0
HaveToldSo events steps =
    (rows : Rows Speaker) × HaveTold events None (made_in steps) (told_in steps) rows

-- ---- from a moment on

-- when the first of these records came that has a time
abbrev pub first_time : List Made → Option ℕ
first_time [] = None
first_time (one ∷ made) = option_or (time_of one.came) (first_time made)

-- the moment, of a capture whose first record came then, or that has these records
abbrev pub since_at : Option Moment → Option ℕ → Option ℕ
since_at None first = None
since_at (Some since) first = option_map (λ time. moment_from time since) first

abbrev pub since_in : Option Moment → List Made → Option ℕ
since_in since made = since_at since (first_time made)

-- a time is of the moment or later, where there is one
abbrev pub is_from : Option ℕ → ℕ → Bool
is_from None time = true
is_from (Some since) time = nat_le since time

-- what is told of the moment or later, and what is told before it
abbrev pub told_from : Option ℕ → List (Telling Speaker) → List (Telling Speaker)
told_from since told = filter (λ one. is_from since (time_told one)) told

abbrev pub told_early : Option ℕ → List (Telling Speaker) → List (Telling Speaker)
told_early since told = filter (λ one. not (is_from since (time_told one))) told

-- there is a moment, and it has come by this time, or with one of these records
abbrev pub has_come : (since time : Option ℕ) → Bool
has_come (Some since) (Some time) = nat_le since time
has_come since time = false

abbrev pub have_come : Option ℕ → List Made → Bool
have_come since made = list_any (λ one. has_come since (time_of one.came)) made

-- what a sender answers, told at a time, after nothing
abbrev pub answer_told : ℕ → Speaker × BestMatch → Telling Speaker
answer_told time answer = tellings.Answer time answer.0 (Some answer.1) None

-- each sender's last answer before the moment, if that is a route, told at it: by sender
pub record AreJustBefore (since : ℕ) (told opening : List (Telling Speaker)) : Type 0 where
  pub answers : List (Speaker × BestMatch)
  pub rising : IsStrictlySortedBy speaker_cmp (keys_of answers)
  pub last : (speaker : Speaker) → lookup (is_at (speaker_cmp speaker)) answers
      ≡ answered speaker_cmp (told_early (Some since) told) speaker
  pub are : opening ≡ map (answer_told since) answers

-- where the moment came, the answers just before it are told
abbrev pub Opens : Option ℕ → (come : Bool) → (told opening : List (Telling Speaker)) → Type 0
Opens (Some since) true told opening = AreJustBefore since told opening
Opens since come told opening = opening ≡ []

-- where it came by this time and not before, of these records and of what they told
abbrev pub OpensBy : Option ℕ → (time : Option ℕ) → List Made
    → (told opening : List (Telling Speaker)) → Type 0
OpensBy since time before told opening =
    Opens since (not (have_come since before) && has_come since time) told opening

-- after these records, the moment came with this one if it did
abbrev pub OpensRightly : Events → List Step → Step → Type 0
OpensRightly events before step =
    OpensBy (since_in events.since (made_in before ++ step.made ∷ [])) (time_of step.made.came)
    (made_in before) (told_in before ++ step.told) step.opening

-- ---- whose it is

-- there is a sender, and it is this one
abbrev pub is_of : Speaker → Option Origin → Bool
is_of speaker None = false
is_of speaker (Some origin) = is_at (speaker_cmp (speaker_at origin)) speaker

-- ---- what is heard

-- the record gives a packet of this sender, and has a time
abbrev pub is_heard : Speaker → Made → Bool
is_heard speaker one = is_some (time_of one.came) && is_of speaker (origin_found one.what)

abbrev pub packets_heard : Speaker → List Made → List (List ℕ)
packets_heard speaker made = map (λ one. octets_found one.what) (filter (is_heard speaker) made)

-- packets, end to end, of which the first lies at this offset, are these TLVs
abbrev pub AreTlvsOf : ℕ → List (List ℕ) → List (List TlvAt) → Type 0
AreTlvsOf at [] packets = packets ≡ []
AreTlvsOf at (octets ∷ more) packets =
    (tlvs : List TlvAt) × (later : List (List TlvAt)) × (rest : List ℕ) × (packets ≡ tlvs ∷ later)
    × (octets ≡ packet_octets tlvs ++ rest) × ArePlaced (at + 4) tlvs
    × AreTlvsOf (at + length octets) more later

-- a report of a sender counts the TLVs of its packets, and those that are ignored
pub record IsReportOf (events : Events) (made : List Made) (speaker : Speaker) (report : Report)
    : Type 0 where
  pub packets : List (List TlvAt)
  pub are_tlvs : AreTlvsOf 0 (packets_heard speaker made) packets
  pub counts : report ≡ counts_of
      (sayings (record { sender = speaker.sender; via_v6 = events.limits.via_v6 }) packets)

-- what is answered of a sender: the name of its interface, and its report
abbrev pub IsHeardSender : Events → List Made → Gathering → HeardSender → Type 0
IsHeardSender events made gathering heard =
    (heard.name.items ≡ name_of gathering heard.origin.place.interface)
    × IsReportOf events made (speaker_at heard.origin) heard.report

-- 1 where there is no sender
abbrev pub heard_status : List HeardSender → ℕ
heard_status [] = 1
heard_status (heard ∷ others) = 0

-- no datagram of the capture was left out; of none of these senders a TLV was ignored, and each has
-- an Update
abbrev pub AreReadWhole : Counts → List HeardSender → Type 0
AreReadWhole counts senders =
    LeavesNoneOut counts × AllByRecursion (λ heard. IsReadWhole None heard.report) senders

-- ---- what is written

-- in one of these records a datagram of this sender was left out that is missed
abbrev pub is_lost : List Made → Speaker → Bool
is_lost made speaker =
    list_any (λ one. is_of speaker (option_map (λ (m : Missed). m.origin) (missed_in one.what))) made

-- of what is told after these records, that of senders that are not lost
abbrev pub unlost : List Made → List (Telling Speaker) → List (Telling Speaker)
unlost made told = filter (λ one. not (is_lost made (speaker_of one))) told

-- of what records told, behind these, and of what they request, that from the moment on of senders
-- that were not lost before
abbrev pub written_in : Events → List Made → List Step → List (Telling Speaker)
written_in events before [] = []
written_in events before (step ∷ later) =
    let made = before ++ step.made ∷ [] in
    let told = step.told ++ requests_made events step.made in
    unlost before (step.opening ++ told_from (since_in events.since made) told)
    ++ written_in events made later

-- there is a route, and it has this router-id
abbrev pub is_with : List ℕ → Option Announcement → Bool
is_with id None = false
is_with id (Some ann) = bytes_eq ann.router_id id

-- whether the filter keeps what is requested: for a key that it keeps, of the router-id that it asks
-- for, if it does; for all keys, if it asks for none
abbrev pub keeps_request : Filter → Request → Bool
keeps_request filter requests.All = is_none filter.router_id
keeps_request filter (requests.Route key) = keeps_key filter key && is_none filter.router_id
keeps_request filter (requests.Seqno key router_id seqno) =
    keeps_key filter key && if_asked filter.router_id (bytes_eq router_id)

-- whether the filter keeps what is told: a change for a key that it keeps, from or to the router-id
-- that it asks for; a request that it keeps; each answer, and each sender that is silent or returns
abbrev pub keeps_told : Filter → Telling Speaker → Bool
keeps_told filter (tellings.Change told) =
    keeps_key filter told.subject.key && if_asked filter.router_id
    (λ id. is_with id (held_before told.kind) || is_with id (held_after told.kind))
keeps_told filter (tellings.Answer time sender answer before) = true
keeps_told filter (tellings.Request time sender to request) = keeps_request filter request
keeps_told filter (tellings.Silent time sender since routes) = true
keeps_told filter (tellings.Returns time sender) = true

-- the text is the lines of what is told and the filter keeps, each with a name for its interface
pub record AreLines (events : Events) (told : List (Telling Speaker)) (text : List ℕ) : Type 0 where
  pub named : List (List ℕ × Telling Speaker)
  pub are : map (λ one. one.1) named ≡ filter (keeps_told events.filter) told
  pub text_is : text
      ≡ flat_map (λ one. event_in events.format events.view events.pair one.0 one.1) named

-- the writer took the lines of what is told and the filter keeps
pub record WroteLines (events : Events) (told : List (Telling Speaker)) (writer : Output) :
    Type 0 where
  pub text : List ℕ
  pub lines : AreLines events told text
  pub wrote : Appends writer.old.taken writer.new.taken text

-- ---- routes for other sources than that of an answer

-- what is asked for, but for addresses
abbrev pub without_pair : Events → Events
without_pair events = record events { pair = None }

-- what is told, where that is a change of the subject
abbrev pub change_of : Subject Speaker → Telling Speaker → Option (Change Speaker)
change_of subject (tellings.Change told) =
    if is_at (subject_cmp speaker_cmp subject) told.subject then Some told else None
change_of subject (tellings.Answer time sender answer before) = None
change_of subject (tellings.Request time sender to request) = None
change_of subject (tellings.Silent time sender since routes) = None
change_of subject (tellings.Returns time sender) = None

-- the last change that was told of a subject
abbrev pub last_change : List (Telling Speaker) → Subject Speaker → Option (Change Speaker)
last_change told subject = fold (λ last one. option_or (change_of subject one) last) None told

-- something was held just before the moment, or since: the last change is of the moment or later, or
-- leaves something held
abbrev pub was_held : Option ℕ → Option (Change Speaker) → Bool
was_held since None = false
was_held since (Some told) = is_from since told.time || is_some (held_after told.kind)

-- the subjects are those for the destination, and not for every source, of which something was held
-- then, by what was told
abbrev pub AreOthers : (dst : Address) → (since : Option ℕ) → List (Telling Speaker)
    → BTreeSet (Subject Speaker) → Type 0
AreOthers dst since told held = (subject : Subject Speaker)
    → (contains (subject_cmp speaker_cmp) held subject ≡ true)
    ↔ (IsSourceSpecific dst subject.key × (was_held since (last_change told subject) ≡ true))

-- Where answers are for any source: of these records, as all routes are told that they say, up to the
-- moment, those are kept that are for other sources, and were held just before the moment that is
-- asked for, or since.
pub record NotesOthers (events : Events) (until : Option ℕ) (made : List Made)
    (others : OtherSources) : Type 0 where
  pub is_any : events.is_any_source ≡ true
  pub of : events.pair ≡ Some others.pair
  pub told : List (Telling Speaker)
  pub rows : Rows Speaker
  pub have_told : HaveTold (without_pair events) until made told rows
  pub are : AreOthers others.pair.dst (since_in events.since made) told others.held

-- the same, if there are some; and where answers are for any source there are
abbrev pub NotesSome : Events → Option ℕ → List Made → Option OtherSources → Type 0
NotesSome events until made None = events.is_any_source ≡ true → events.pair ≡ None
NotesSome events until made (Some others) = NotesOthers events until made others

-- the moment up to which the capture was read: the last of the window, or the latest time read
abbrev pub moment_read : Events → List BlockAt → Gathering → Option ℕ
moment_read events blocks gathering =
    moment_up_to events.window (context_behind (start (followed_extent events)) blocks).start
    gathering.report.timing.latest

-- The octets are a capture. Its records, as far as their senders are followed, told what they say,
-- one after another; and then all that ends by the moment that it was read to is told. At each time
-- exactly those senders are told to be silent that are, each with how many rows it has left. Of it,
-- and of what each record requests, if that is asked for, this is written: what is told of the moment
-- or later that is asked for, behind the answers just before it; of a sender nothing more once a
-- datagram of it was left out that is missed. The answer is of what was read.
pub record TellsCapture (events : Events) (octets : List ℕ) (written : List (Telling Speaker))
    (answer : EventsOutcome) : Type 0 where
  pub gathering : Gathering
  pub cut : Option ℕ
  pub is_read : IsReadToCut (followed_extent events) octets gathering cut
  pub wanted : gathering.wanted ≡ followed_by events
  pub accepted : events.accept_cut ≡ false → cut ≡ None
  pub steps : List Step
  pub are_made : made_in steps ≡ followed is_read.is_read.gathered.made
  pub each : (front back : List Step) → steps ≡ front ++ back → HaveToldSo events front
  pub opens : (front back : List Step) (step : Step) → steps ≡ front ++ step ∷ back
      → OpensRightly events front step
  pub silent : (front back : List Step) → steps ≡ front ++ back
      → TellsSilent events (last_time (made_in front)) (made_in front) (told_in front)
  pub counts : (front back : List Step) (step : Step) → steps ≡ front ++ step ∷ back
      → CountsRoutes events (made_in front) (told_in front) step.told
  pub ended : List (Telling Speaker)
  pub counts_last : CountsRoutes events (made_in steps) (told_in steps) ended
  pub rows : Rows Speaker
  pub have_told : HaveTold events (moment_read events is_read.is_read.blocks gathering)
      (made_in steps) (told_in steps ++ ended) rows
  pub all_last : gathering.report.timing.has_untimed ≡ false
      → IfSome (moment_read events is_read.is_read.blocks gathering)
      (λ moment. AllLast speaker_cmp events.expiry moment rows)
  pub silent_last : gathering.report.timing.has_untimed ≡ false
      → IfSome (moment_read events is_read.is_read.blocks gathering) (λ moment.
      last_time (made_in steps) ≤ moment
      → TellsSilent events moment (made_in steps) (told_in steps ++ ended))
  pub opening : List (Telling Speaker)
  pub opens_last : OpensBy (since_in events.since (made_in steps))
      (if gathering.report.timing.has_untimed then None
      else moment_read events is_read.is_read.blocks gathering)
      (made_in steps) (told_in steps ++ ended) opening
  pub written_is : written ≡ written_in events [] steps
      ++ unlost (made_in steps) (opening ++ told_from (since_in events.since (made_in steps)) ended)
  pub senders : map (λ heard. heard.origin) answer.senders.items
      ≡ with_packets (senders_followed is_read.is_read.gathered.made)
  pub heard : AllByRecursion (IsHeardSender events (made_in steps) gathering) answer.senders.items
  pub outcome_is : IsOutcomeOf answer.outcome (heard_status answer.senders.items) gathering.report cut
  pub whole : events.strict ≡ true → AreReadWhole gathering.report answer.senders.items
  pub others : NotesSome events (moment_read events is_read.is_read.blocks gathering)
      (made_in steps) answer.other_sources

-- A run of `events` that ends well: the reader gave a capture, all that it had, and the writer took
-- the lines of what it tells.
pub record TellsEvents (events : Events) (old new : InputState) (writer : Output)
    (answer : EventsOutcome) : Type 0 where
  pub octets : List ℕ
  pub gave : GaveOctets old new octets
  pub written : List (Telling Speaker)
  pub tells : TellsCapture events octets written answer
  pub wrote : WroteLines events written writer
