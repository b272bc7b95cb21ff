-- Why a run of `events` fails: this project's own.
use Rattle.std.specs.Prelude.{ℕ, ◌≡◌, ◌≢◌, ◌^◌, ◌+◌, ◌<◌, ◌≤◌, ◌⊎◌, true, false, List, [], ◌∷◌}
use Rattle.std.specs.Prelude.{◌++◌, Contains, None, Option, Some, Err, length, map}
use Rattle.std.specs.List.{AllByRecursion, flat_map}
use Rattle.std.specs.Option.{is_some}
use Rattle.babel_capture.specs.Capture.{CaptureFault, EndsLost, IsReadToCut}
use Rattle.babel_capture.specs.Counts.{Counts, Made}
use Rattle.babel_capture.specs.Findings.{octets_found, origin_found, reason_left}
use Rattle.babel_capture.specs.Gathering.{Gathering}
use Rattle.babel_capture.specs.Reading.{Stops}
use Rattle.babel_capture.specs.Times.{time_of}
use Rattle.babel_capture.specs.Window.{is_empty}
use Rattle.babel_capture.specs.declared.fault.Fault.{Fault}
use Rattle.babel_capture.specs.declared.fault.Fault.TheVariants as capture_faults
use Rattle.babel_capture.specs.declared.tallies.Origin.{Origin}
use Rattle.babel_capture.specs.declared.window.Moment.{Moment}
use Rattle.babel_capture.specs.declared.window.Window.{Window}
use Rattle.babel_capture.specs.declared.window.Window.TheVariants as windows
use Rattle.babel_tlv.specs.FrameFaults.{BeginsPacket, PacketFault}
use Rattle.babel_tlv.specs.Framing.{TlvAt, packet_octets, tlvs_of}
use Rattle.babel_tlv.specs.Says.{said}
use Rattle.babel_tlv.specs.declared.fault.Fault.{Fault as TlvFault}
use Rattle.babel_tlv.specs.declared.fault.Fault.TheVariants as faults
use Rattle.babel_tlv.specs.declared.start.Start.{Start}
use Rattle.babel_table.specs.Counts.{Counts as Report}
use Rattle.babel_timeline.specs.Refusing.{RefusesPacket, context_behind}
use Rattle.babel_timeline.specs.Rows.{Rows}
use Rattle.babel_timeline.specs.declared.telling.Telling.{Telling}
use Rattle.babel_dump.specs.CaptureGiven.{BeginsWith, CaptureInput, GaveCapture, GaveWhole}
use Rattle.babel_dump.specs.CaptureGiven.{IsAccepted, IsFaultOfCapture, IsMadeToEnd, capture_from}
use Rattle.babel_dump.specs.CaptureGiven.{made_in}
use Rattle.babel_dump.specs.Device.{Gave, InputState}
use Rattle.babel_dump.specs.EventsRun.{HaveTold, IsHeardSender, IsReportOf, asked_by, followed_by}
use Rattle.babel_dump.specs.EventsRun.{followed_extent, packets_heard, speaker_at, without_pair}
use Rattle.babel_dump.specs.FollowedSenders.{followed, senders_followed, with_packets}
use Rattle.babel_dump.specs.LeftOut.{first_left_out}
use Rattle.babel_dump.specs.Run.{Output}
use Rattle.babel_dump.specs.Speakers.{speaker_cmp}
use Rattle.babel_dump.specs.Strict.{IsNotReadWhole}
use Rattle.babel_dump.specs.StrictPackets.{IsReadTo}
use Rattle.babel_dump.specs.Trouble.{is_empty_window}
use Rattle.babel_dump.specs.declared.capture_reading.CaptureReading.{CaptureReading}
use Rattle.babel_dump.specs.declared.events_job.Events.{Events}
use Rattle.babel_dump.specs.declared.events_outcome.HeardSender.{HeardSender}
use Rattle.babel_dump.specs.declared.input_fault.InputFault.{InputFault}
use Rattle.babel_dump.specs.declared.input_fault.InputFault.TheVariants as input_faults
use Rattle.babel_dump.specs.declared.run_fault.RunFault.TheVariants as run_faults
use Rattle.babel_dump.specs.declared.run_fault.Side.{Side}
use Rattle.babel_dump.specs.declared.run_fault.Side.TheVariants as sides
use Rattle.babel_dump.specs.declared.speaker.Speaker.{Speaker}
use Rattle.babel_dump.specs.declared.trouble.Trouble.{Trouble}
use Rattle.babel_dump.specs.declared.trouble.Trouble.TheVariants as troubles

-- ---- troubles

-- one moment is later than another one
abbrev pub IsBackwards : Trouble → Type 0
IsBackwards (troubles.Backwards since until) = Unit {0}
IsBackwards trouble = ⊥

-- it is told that the input on this side has this fault
abbrev pub TellsFault : Side → InputFault → Trouble → Type 0
TellsFault side fault trouble = (is_empty_window fault ≡ true → IsBackwards trouble)
    × (is_empty_window fault ≡ false → trouble ≡ troubles.Fault (run_faults.Input side fault))

-- but for the name of a sender's interface
abbrev pub nameless : Trouble → Trouble
nameless (troubles.Sender side origin name fault) = troubles.Sender side origin None fault
nameless trouble = trouble

-- ---- a packet that is refused

-- how the packets of a sender begin
abbrev pub start_of : Events → Origin → Start
start_of events origin = record { sender = origin.sender; via_v6 = events.limits.via_v6 }

-- how many octets the packets of a sender have that were heard in these records
abbrev pub octets_in : Origin → List Made → ℕ
octets_in origin made =
    length (flat_map (λ packet. packet) (packets_heard (speaker_at origin) made))

-- What is heard of the packet at this offset is all of it; or, where it is read strictly, the TLVs
-- before the first that is ignored.
abbrev pub IsPartOf : Events → Origin → (at : ℕ) → (packet part : List ℕ) → Type 0
IsPartOf events origin at packet part = (part ≡ packet)
    ⊎ ((events.strict ≡ true) × (front : List TlvAt) × (fault : InputFault)
    × IsReadTo (start_of events origin) at packet front fault × (part ≡ packet_octets front))

-- What comes then of a sender is refused, where these rows are held, and so many octets and TLVs
-- were heard of the sender: it is no packet, or has a TLV that is refused, for what it says or for
-- the limit of rows.
pub record RefusesPart (events : Events) (origin : Origin) (came : ℕ) (part : List ℕ)
    (rows : Rows Speaker) (at tlvs : ℕ) (fault : TlvFault) : Type 0 where
  pub after : Rows Speaker
  pub before : List (Telling Speaker)
  pub now : List (Telling Speaker)
  pub refuses : RefusesPacket speaker_cmp events.limits.entries (asked_by events)
      (speaker_at origin) events.expiry events.view (start_of events origin) came at tlvs part rows
      after before now fault

-- The packet of this record is refused so, behind these records.
pub record RefusesHeard (events : Events) (before : List Made) (one : Made) (origin : Origin)
    (fault : TlvFault) : Type 0 where
  pub came : ℕ
  pub timed : time_of one.came ≡ Some came
  pub told : List (Telling Speaker)
  pub rows : Rows Speaker
  pub have_told : HaveTold events None before told rows
  pub report : Report
  pub is_report : IsReportOf events before (speaker_at origin) report
  pub part : List ℕ
  pub is_part : IsPartOf events origin (octets_in origin before) (octets_found one.what) part
  pub refuses : RefusesPart events origin came part rows (octets_in origin before) report.tlvs fault

-- what one of these TLVs says is a fault
abbrev pub RefusesTlvIn : Start → List TlvAt → TlvFault → Type 0
RefusesTlvIn start tlvs fault = (front : List TlvAt) × (tlv : TlvAt) × (back : List TlvAt)
    × (tlvs ≡ front ++ tlv ∷ back) × (said (context_behind start front) tlv ≡ Err fault)

-- The packet at this offset is refused by itself: its end can't be counted, or it is no packet, or
-- what a TLV says is a fault.
abbrev pub RefusesAlone : Start → (at : ℕ) → (packet : List ℕ) → TlvFault → Type 0
RefusesAlone start at packet fault =
    ((fault ≡ faults.TooLong) × (2 ^ 64 ≤ at + length packet))
    ⊎ PacketFault at packet fault
    ⊎ ((body : List ℕ) × BeginsPacket packet body
    × RefusesTlvIn start (tlvs_of (at + 4) body) fault)

-- The packet of a sender is refused: as it is heard; or by itself where it is read strictly; or
-- where all routes count, since there may be some for other sources than that of the answer.
abbrev pub RefusesSender : Events → List Made → Made → Origin → TlvFault → Type 0
RefusesSender events before one origin fault = RefusesHeard events before one origin fault
    ⊎ ((events.strict ≡ true)
    × RefusesAlone (start_of events origin) (octets_in origin before) (octets_found one.what) fault)
    ⊎ ((events.is_any_source ≡ true)
    × RefusesHeard (without_pair events) before one origin fault)

-- ---- a record that is refused

-- Behind these records the next is refused for this: its packet; or, where it is read strictly, the
-- first TLV of that which is ignored, or since it is a datagram that was left out.
abbrev pub IsRefused : Events → (before : List Made) → (one : Made) → Trouble → Type 0
IsRefused events before one (troubles.Sender side origin name (input_faults.Dump fault)) =
    (origin_found one.what ≡ Some origin) × RefusesSender events before one origin fault
IsRefused events before one (troubles.Sender side origin name (input_faults.Ignored tlv ignores_4)) =
    (origin_found one.what ≡ Some origin) × (events.strict ≡ true)
    × ((front : List TlvAt) × IsReadTo (start_of events origin) (octets_in origin before)
    (octets_found one.what) front (input_faults.Ignored tlv ignores_4))
IsRefused events before one
    (troubles.Fault (run_faults.Input sides.First (input_faults.LeftOut datagram))) =
    (events.strict ≡ true) × (reason_left one.what ≡ Some datagram.reason)
    × (datagram.packet ≡ one.number)
IsRefused events before one trouble = ⊥

-- how a capture is read
abbrev pub reading_by : Events → CaptureReading
reading_by events = record {
  limit = 2 ^ 62;
  window = events.window;
  accept_cut = events.accept_cut;
  accept_missing = events.accept_missing;
  strict = events.strict;
}

-- one of these records, as far as its sender is followed, is refused for this
pub record RefusesOneOf (events : Events) (made : List Made) (trouble : Trouble) : Type 0 where
  pub front : List Made
  pub one : Made
  pub back : List Made
  pub are : followed made ≡ front ++ one ∷ back
  pub refused : IsRefused events front one trouble

-- a record of the capture with which these octets begin is
abbrev pub RefusesRecord : Events → List ℕ → Trouble → Type 0
RefusesRecord events octets trouble =
    (made : List Made) × BeginsWith (reading_by events) (followed_by events) octets made
    × RefusesOneOf events made trouble

-- one of all the records of a capture, which these octets are, is
abbrev pub RefusesToEnd : Events → List ℕ → Trouble → Type 0
RefusesToEnd events octets trouble =
    (made : List Made) × IsMadeToEnd (reading_by events) (followed_by events) octets made
    × RefusesOneOf events made trouble

-- the last moment of a window, if it names one
abbrev pub until_in : Window → Option Moment
until_in windows.Whole = None
until_in (windows.Between since until) = until

-- by the time of a first packet `--since` is later than `--until`
abbrev pub IsTooLate : Events → Type 0
IsTooLate events = (first : ℕ) × (is_empty events.since (until_in events.window) first ≡ true)

-- why it is told so of octets of a capture: for a moment, or for a record
abbrev pub RefusesOctets : Events → List ℕ → Trouble → Type 0
RefusesOctets events octets (troubles.Backwards since until) = IsTooLate events
RefusesOctets events octets trouble = RefusesRecord events octets trouble

-- ---- a capture that is not read whole

-- of what was counted a datagram was left out, the first; or of one of these senders a TLV was
-- ignored, or it has no Update
abbrev pub IsUnreadIn : Counts → List HeardSender → Trouble → Type 0
IsUnreadIn counts senders
    (troubles.Fault (run_faults.Input sides.First (input_faults.LeftOut datagram))) =
    first_left_out counts ≡ Some datagram
IsUnreadIn counts senders (troubles.Sender side origin name fault) =
    (heard : HeardSender) × Contains senders heard × (heard.origin ≡ origin)
    × IsNotReadWhole None heard.report fault
IsUnreadIn counts senders trouble = ⊥

-- it is told so of these records and of the senders that are followed, which are read strictly
pub record IsUnread (events : Events) (made : List Made) (gathering : Gathering) (trouble : Trouble)
    : Type 0 where
  pub strict : events.strict ≡ true
  pub senders : List HeardSender
  pub are : map (λ heard. heard.origin) senders ≡ with_packets (senders_followed made)
  pub heard : AllByRecursion (IsHeardSender events (followed made) gathering) senders
  pub unread : IsUnreadIn gathering.report senders trouble

-- ---- causes

-- Why the input of a run fails: a read does; it is refused; no sender is in it, where one is named;
-- a record is refused; or memory ran out.
abbrev pub InputFails : Events → (Refused : Fault → Type 0) → (HasNone Unread : Type 0)
    → (Records : Trouble → Type 0) → InputFault → Type 0
InputFails events Refused HasNone Unread Records input_faults.Read = Unread
InputFails events Refused HasNone Unread Records (input_faults.Capture fault) =
    fault ≢ capture_faults.Memory → Refused fault
InputFails events Refused HasNone Unread Records (input_faults.NoPackets absence) =
    (is_some events.sender ≡ true) × HasNone
InputFails events Refused HasNone Unread Records (input_faults.Dump fault) = fault ≡ faults.Memory
InputFails events Refused HasNone Unread Records (input_faults.LeftOut datagram) =
    Records (troubles.Fault (run_faults.Input sides.First (input_faults.LeftOut datagram)))
InputFails events Refused HasNone Unread Records fault = ⊥

-- Why a run fails: its input does, or a write; or a moment is later than another.
abbrev pub Fails : Events → (Refused : Fault → Type 0) → (HasNone Unread Unwritten : Type 0)
    → (Records : Trouble → Type 0) → Trouble → Type 0
Fails events Refused HasNone Unread Unwritten Records
    (troubles.Fault (run_faults.Input sides.First fault)) =
    InputFails events Refused HasNone Unread Records fault
Fails events Refused HasNone Unread Unwritten Records (troubles.Fault run_faults.Write) = Unwritten
Fails events Refused HasNone Unread Unwritten Records (troubles.Backwards since until) =
    ((at : ℕ) × Refused (capture_faults.EmptyWindow at)) ⊎ Records (troubles.Backwards since until)
Fails events Refused HasNone Unread Unwritten Records (troubles.Sender side origin name fault) =
    Records (troubles.Sender side origin name fault)
Fails events Refused HasNone Unread Unwritten Records trouble = ⊥

-- ---- of what was read

-- with these octets the capture can't be read on
abbrev pub RefusesPiece : Events → List ℕ → Fault → Type 0
RefusesPiece events octets = Stops (followed_extent events) (followed_by events) octets

-- these octets are all, and are refused as a capture; within a block that follows others only where
-- no cut is accepted
abbrev pub RefusesWhole : Events → List ℕ → Fault → Type 0
RefusesWhole events octets fault =
    CaptureFault (followed_extent events) (followed_by events) octets fault
    × (events.accept_cut ≡ true → (fault ≡ capture_faults.NotCapture)
    ⊎ EndsLost (followed_extent events) (followed_by events) octets fault)

-- of those who are followed none has a packet among these records
abbrev pub HasNoPackets : List Made → Type 0
HasNoPackets made = with_packets (senders_followed made) ≡ []

-- these octets are all of a capture, and this is what its packets give
pub record IsWhole (events : Events) (octets : List ℕ) (gathering : Gathering) : Type 0 where
  pub cut : Option ℕ
  pub is_read : IsReadToCut (followed_extent events) octets gathering cut
  pub accepted : IsAccepted events.accept_cut cut
  pub wanted : gathering.wanted ≡ followed_by events

-- without a packet of those who are followed
abbrev pub HasNobody : Events → List ℕ → Type 0
HasNobody events octets =
    (gathering : Gathering) × (whole : IsWhole events octets gathering)
    × HasNoPackets whole.is_read.is_read.gathered.made

-- with what is not read, which is told; or with a record that is refused
abbrev pub HasUnread : Events → List ℕ → Trouble → Type 0
HasUnread events octets trouble =
    ((gathering : Gathering) × (whole : IsWhole events octets gathering)
    × IsUnread events whole.is_read.is_read.gathered.made gathering trouble)
    ⊎ RefusesToEnd events octets trouble

-- ---- of a run

-- how a run reads the capture that a reader gives
abbrev pub events_input : Events → (old new : InputState) → CaptureInput
events_input events old new = capture_from old new (reading_by events) (followed_by events)

-- the reader gave a capture without a packet of those who are followed
abbrev pub GaveNobody : CaptureInput → Type 0
GaveNobody reader =
    (gathering : Gathering) × (cut : Option ℕ) × (gave : GaveCapture reader gathering cut)
    × HasNoPackets (made_in gave)

-- it gave octets of which it is told so; or all that it had is not read whole, or refused
abbrev pub GaveRefused : Events → CaptureInput → Trouble → Type 0
GaveRefused events reader trouble =
    ((given : List ℕ) × Gave reader.old reader.new given × RefusesOctets events given trouble)
    ⊎ ((gathering : Gathering) × (cut : Option ℕ) × (gave : GaveCapture reader gathering cut)
    × IsUnread events (made_in gave) gathering trouble)
    ⊎ ((given : List ℕ) × GaveWhole reader given × RefusesToEnd events given trouble)

-- The cause of each fault of a run: of its reader, of what that gave, or of its writer.
abbrev pub EventsCause : Events → (old new : InputState) → Output → Trouble → Type 0
EventsCause events old new writer = Fails events (IsFaultOfCapture (events_input events old new))
    (GaveNobody (events_input events old new)) (old.failures < new.failures)
    (writer.old.failures < writer.new.failures) (GaveRefused events (events_input events old new))
