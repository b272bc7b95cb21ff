-- What is told of each sender in a capture where there is no `--from`. It is this project's own.
use Rattle.std.specs.Prelude.{◌≡◌, ◌≢◌, ◌⊎◌, ℕ, Bool, true, false, if◌then◌else◌}
use Rattle.std.specs.Prelude.{List, [], ◌∷◌, ◌++◌, length, fold, map, codes, Option, None, Some}
use Rattle.std.specs.Prelude.{IfSome}
use Rattle.std.specs.BTreeMap.{is_at}
use Rattle.std.specs.Map.{lookup}
use Rattle.std.specs.Option.{option_or}
use Rattle.std.specs.Ordering.{is_eq}
use Rattle.babel_capture.specs.Counts.{Made}
use Rattle.babel_capture.specs.Findings.{missed_in}
use Rattle.babel_capture.specs.Gathering.{Gathering}
use Rattle.babel_capture.specs.OneOrigin.{all_senders}
use Rattle.babel_capture.specs.Senders.{made_from}
use Rattle.babel_capture.specs.Tallies.{origin_cmp, place_cmp}
use Rattle.babel_capture.specs.declared.missed.Missed.{Missed}
use Rattle.babel_capture.specs.declared.place.Place.{Place}
use Rattle.babel_capture.specs.declared.tallies.Origin.{Origin}
use Rattle.babel_prefix.specs.declared.family.Family.TheVariants as families
use Rattle.babel_tlv.specs.declared.fault.Fault.TheVariants as faults
use Rattle.babel_tlv.specs.declared.view.View.{View}
use Rattle.babel_table.specs.Bounds.{Bounds}
use Rattle.babel_table.specs.DumpFault.{DumpFault, HasNoFault}
use Rattle.babel_table.specs.Feeding.{HasHeard}
use Rattle.babel_table.specs.Moments.{dump_of}
use Rattle.babel_table.specs.Rows.{Routes}
use Rattle.babel_dump.specs.AnySource.{any_source}
use Rattle.babel_dump.specs.CaptureGiven.{CaptureInput, GaveCapture, GaveSound, capture_from}
use Rattle.babel_dump.specs.CaptureGiven.{made_in, moment_in}
use Rattle.babel_dump.specs.CaptureRun.{CaptureCause, IsNoFault}
use Rattle.babel_dump.specs.CaptureText.{place_json}
use Rattle.babel_dump.specs.JsonText.{quoted}
use Rattle.babel_dump.specs.NameText.{name_json}
use Rattle.babel_dump.specs.Device.{InputState}
use Rattle.babel_dump.specs.DiffText.{place_text}
use Rattle.babel_dump.specs.Each.{GavePairsOf}
use Rattle.babel_dump.specs.Fed.{AreWhole}
use Rattle.babel_dump.specs.Files.{name_of}
use Rattle.babel_dump.specs.Given.{IsTableRead, Reads, capture_limit, dump_of as read_so, expired}
use Rattle.babel_dump.specs.Given.{usual_reading}
use Rattle.babel_dump.specs.InFormat.{each_in, in_format}
use Rattle.babel_dump.specs.KeyText.{file_member, key_in}
use Rattle.babel_dump.specs.LeftOut.{first_unmissed}
use Rattle.babel_dump.specs.Led.{lead_in, led}
use Rattle.babel_dump.specs.Octets.{AreOctets}
use Rattle.babel_dump.specs.Packets.{packets_made}
use Rattle.babel_dump.specs.RunText.{pair_status}
use Rattle.babel_dump.specs.Spelling.{address_text}
use Rattle.babel_dump.specs.Strict.{IsNotReadWhole, IsReadWhole}
use Rattle.babel_dump.specs.Tasks.{TaskFinds, TaskFindsTooMany}
use Rattle.babel_dump.specs.declared.addr_pair.AddrPair.{AddrPair}
use Rattle.babel_dump.specs.declared.capture_reading.CaptureReading.{CaptureReading}
use Rattle.babel_dump.specs.declared.format.Format.{Format}
use Rattle.babel_dump.specs.declared.input_fault.InputFault.{InputFault}
use Rattle.babel_dump.specs.declared.input_fault.InputFault.TheVariants as input_faults
use Rattle.babel_dump.specs.declared.job.Form.{Form}
use Rattle.babel_dump.specs.declared.job.Task.TheVariants as tasks
use Rattle.babel_dump.specs.declared.key.TableText.{TableText}
use Rattle.babel_dump.specs.declared.left_out.LeftOutDatagram.{LeftOutDatagram}
use Rattle.babel_dump.specs.declared.outcome.Outcome.{Outcome}
use Rattle.babel_dump.specs.declared.reading.Reading.{Reading}
use Rattle.babel_dump.specs.declared.each_sender.EachSender.{EachSender}
use Rattle.babel_dump.specs.declared.each_sender.SenderTask.{SenderTask}
use Rattle.babel_dump.specs.declared.each_sender.SenderTask.TheVariants as sender_tasks
use Rattle.babel_dump.specs.declared.each_sender.SendersRead.{SendersRead}
use Rattle.babel_dump.specs.declared.sender_tables.SenderTable.{SenderTable}
use Rattle.babel_dump.specs.declared.sender_tables.SenderTables.{SenderTables}
use Rattle.babel_dump.specs.declared.spelling.Spelling.TheVariants as spellings

-- how the capture is read, and the dump of a sender at its place, with rows found by this seed
abbrev pub capture_read_by : EachSender → CaptureReading
capture_read_by each = record {
  limit = capture_limit each.limits.bytes;
  window = each.window;
  accept_cut = each.accept_cut;
  accept_missing = each.accept_missing;
  strict = false;
}

-- what a reader gave of a capture of which the datagrams of each sender are wanted
abbrev pub each_from : EachSender → (old new : InputState) → CaptureInput
each_from each old new =
    capture_from old new (capture_read_by each) (all_senders each.accept_missing)

abbrev pub read_by : EachSender → Origin → (seed : ℕ) → Reading
read_by each origin seed = record {
  limits = each.limits;
  mode = each.mode;
  sender = origin.sender;
  is_capture = true;
  seed = seed;
  place = Some origin.place;
  window = each.window;
  time_option = None;
  expiry = each.expiry;
  accept_cut = each.accept_cut;
  accept_missing = each.accept_missing;
  strict = each.strict;
}

-- the sender is at the place that is named, if one is
abbrev pub is_asked : Option Place → Origin → Bool
is_asked None origin = true
is_asked (Some place) origin = is_eq (place_cmp origin.place place)

-- `FILE ADDRESS interface N link N vlan N.N`
abbrev pub sender_name : (file : List ℕ) → Origin → List ℕ
sender_name file origin =
    file ++ codes " " ++ address_text spellings.Long origin.sender
    ++ place_text (Some origin.place)

-- `"file":"FILE","sender":"ADDRESS","interface":N,"link":N,"vlans":[N,N],"name":"NAME"`
abbrev pub sender_members : (file : List ℕ) → Origin → (name : List ℕ) → List ℕ
sender_members file origin name =
    file_member file ++ codes ",\"sender\":" ++ quoted (address_text spellings.Long origin.sender)
    ++ place_json origin.place ++ name_json name

-- what names the dump of a sender whose interface has this name
abbrev pub origin_in : Format → (file : List ℕ) → Origin → (name : List ℕ) → List ℕ
origin_in format file origin name =
    in_format format (sender_name file origin) (sender_members file origin name)

-- the pairs that are looked up are those that their reader gave, if any are; all else stays
abbrev pub GavePairs : SenderTask → EachSender → Reads → List AddrPair → Type 0
GavePairs (sender_tasks.Dump task) each pairs asked = Unit {0}
GavePairs (sender_tasks.Each file with_prefix) each pairs asked =
    GavePairsOf (read_so pairs (usual_reading each.limits each.mode (any_source families.V4))) asked

abbrev pub AsksPairs : EachSender → (pairs : Reads) → EachSender → Type 0
AsksPairs each pairs asking = (asking ≡ record each { asked = asking.asked })
    × GavePairs each.task each pairs asking.asked.items

-- ---- what was heard of one sender

-- the packets of this sender at this place, each with its time
abbrev pub own_packets : Origin → List Made → List (ℕ × List ℕ)
own_packets origin made = packets_made (made_from origin made)

-- a datagram that is missed, if it is one of this sender at this place
abbrev pub missed_by : Origin → (packet : ℕ) → Option Missed → Option LeftOutDatagram
missed_by origin packet None = None
missed_by origin packet (Some missed) =
    if is_at (origin_cmp origin) missed.origin
    then Some (record { packet = packet; reason = missed.reason }) else None

-- its first datagram that is missed
abbrev pub first_missed : Origin → List Made → Option LeftOutDatagram
first_missed origin made =
    fold (λ first one. option_or first (missed_by origin one.number (missed_in one.what))) None made

-- a table of this sender at this place was fed these packets, and this is missed
pub record IsFedOwn (each : EachSender) (origin : Origin) (packets : List (ℕ × List ℕ))
    (missed : Option LeftOutDatagram) (table : SenderTable) : Type 0 where
  pub limits : table.packets.feeder.limits ≡ each.limits
  pub mode : table.packets.feeder.mode ≡ each.mode
  pub sender : table.packets.feeder.sender ≡ origin.sender
  pub factor : IfSome each.expiry (λ factor. table.packets.feeder.factor ≡ factor)
  pub heard : AreWhole packets → HasHeard table.packets.feeder packets
  pub missed_is : table.missed ≡ missed

-- there is a table exactly where there is something
abbrev pub IsNothing : (packets : List (ℕ × List ℕ)) → Option LeftOutDatagram → Type 0
IsNothing packets missed = (packets ≡ []) × (missed ≡ None)

abbrev pub IsOwn : EachSender → Origin → (packets : List (ℕ × List ℕ)) → Option LeftOutDatagram
    → Option SenderTable → Type 0
IsOwn each origin packets missed None = IsNothing packets missed
IsOwn each origin packets missed (Some table) =
    IsFedOwn each origin packets missed table × (¬ IsNothing packets missed)

abbrev pub table_at : List (Origin × SenderTable) → Origin → Option SenderTable
table_at tables origin = lookup (is_at (origin_cmp origin)) tables

-- the tables are those of the senders that are asked for, each of its own packets
pub record AreOwn (each : EachSender) (made : List Made) (tables : List (Origin × SenderTable)) :
    Type 0 where
  pub own : (origin : Origin) → is_asked each.place origin ≡ true
      → IsOwn each origin (own_packets origin made) (first_missed origin made)
      (table_at tables origin)
  pub others : (origin : Origin) → is_asked each.place origin ≡ false
      → table_at tables origin ≡ None

-- with a packet more, and with a datagram more that is missed
abbrev pub FeedsOwn : EachSender → Origin → Option SenderTable → ℕ × List ℕ → SenderTable → Type 0
FeedsOwn each origin old packet table =
    (packets : List (ℕ × List ℕ)) (missed : Option LeftOutDatagram)
    → IsOwn each origin packets missed old
    → IsFedOwn each origin (packets ++ packet ∷ []) missed table

abbrev pub MissesOwn :
    EachSender → Origin → Option SenderTable → LeftOutDatagram → SenderTable → Type 0
MissesOwn each origin old datagram table =
    (packets : List (ℕ × List ℕ)) (missed : Option LeftOutDatagram)
    → IsOwn each origin packets missed old
    → IsFedOwn each origin packets (option_or missed (Some datagram)) table

-- unless memory ran out
abbrev pub AreHeard : SenderTables → List Made → Type 0
AreHeard tables made =
    tables.has_failed ≡ false → AreOwn tables.each.now made tables.tables.entries

-- these records made the second of the first
abbrev pub KeepsOwn : SenderTables → SenderTables → List Made → Type 0
KeepsOwn first now made = (now.each.now ≡ first.each.now)
    × ((before : List Made) → AreHeard first before → AreHeard now (before ++ made))

-- the reader gave a capture, all that it had, of which no datagram was left out that is not missed
-- if it is read strictly, and these are the tables of its senders
pub record GaveSenders (each : EachSender) (reader : CaptureInput) (senders : SendersRead) :
    Type 0 where
  pub gave : GaveSound reader senders.read.gathered senders.read.cut
  pub strict :
      each.strict ≡ true → first_unmissed each.accept_missing senders.read.gathered.report ≡ None
  pub moment_is : senders.read.moment ≡ moment_in gave.given
  pub whole : AreWhole (packets_made (made_in gave.given))
  pub are_own : AreOwn each (made_in gave.given) senders.tables.entries

-- or why there are none: a datagram was left out that is not missed, if it is read strictly; or the
-- capture is refused
abbrev pub SendersCause : EachSender → CaptureInput → InputFault → Type 0
SendersCause each reader (input_faults.LeftOut datagram) =
    (each.strict ≡ true) × ((gathering : Gathering) × (cut : Option ℕ)
    × GaveCapture reader gathering cut
    × (first_unmissed each.accept_missing gathering.report ≡ Some datagram))
SendersCause each reader fault = CaptureCause reader IsNoFault fault

-- ---- what is told of one sender

-- what `key` makes of a table: the line of the key of its octets, which are named so, and the
-- report and the number of rows of the table
pub record IsKeyOf (form : Form) (reading : Reading) (view : View) (format : Format)
    (named : List ℕ) (key : TableText) (table : Routes) : Type 0 where
  pub octets : List ℕ
  pub are : AreOctets form reading view 1024 table octets
  pub line_is : key.line.items ≡ key_in format octets named
  pub statuses_are : key.statuses.items ≡ 0 ∷ []
  pub report_is : key.report ≡ table.report
  pub rows_is : key.rows ≡ length table.rows

-- what is found of the table of a dump, and the status of each thing that was asked of it
abbrev pub SenderFinds :
    SenderTask → EachSender → Reading → Routes → (text statuses : List ℕ) → Type 0
SenderFinds (sender_tasks.Dump task) each reading table text statuses = (outcome : Outcome)
    × TaskFinds task each.format each.quiet (name_of each.file) reading table text outcome
    × (statuses ≡ outcome.status ∷ [])
SenderFinds (sender_tasks.Each file with_prefix) each reading table text statuses =
    (text ≡ each_in each.format with_prefix table each.asked.items)
    × (statuses ≡ map (pair_status table) each.asked.items)

-- the table has too many pairs for it
abbrev pub SenderFindsTooMany : SenderTask → Bounds → Routes → Type 0
SenderFindsTooMany (sender_tasks.Dump task) limits table = TaskFindsTooMany task limits table
SenderFindsTooMany (sender_tasks.Each file with_prefix) limits table = ⊥

-- what is found of the table of a sender at its place, whose interface has this name: the lines that
-- are found of a dump, each led by the sender
pub record IsLedBy (each : EachSender) (reading : Reading) (origin : Origin) (name : List ℕ)
    (key : TableText) (table : Routes) : Type 0 where
  pub text : List ℕ
  pub finds : SenderFinds each.task each reading table text key.statuses.items
  pub line_is : key.line.items ≡ led each.format (lead_in each.format origin name) true text
  pub report_is : key.report ≡ table.report
  pub rows_is : key.rows ≡ length table.rows

-- what is told of it
abbrev pub IsToldOf :
    SenderTask → EachSender → Reading → Origin → (name : List ℕ) → TableText → Routes → Type 0
IsToldOf (sender_tasks.Dump (tasks.Key form view)) each reading origin name =
    IsKeyOf form reading view each.format
    (origin_in each.format (name_of each.file) origin name)
IsToldOf task each reading origin name = IsLedBy each reading origin name

-- how the dump of a sender is read
abbrev pub own_reading : EachSender → Origin → Reading
own_reading each origin = usual_reading each.limits each.mode origin.sender

-- the table of the packets of a sender at its place, of which no datagram is missed, at the moment
-- up to which the capture was read
pub record IsOwnTable (each : EachSender) (made : List Made) (moment : Option ℕ) (origin : Origin)
    (table : Routes) : Type 0 where
  pub none_missed : first_missed origin made ≡ None
  pub accepted :
      HasNoFault each.limits each.mode origin.sender (dump_of (own_packets origin made))
  pub is_table : IsTableRead (expired each.expiry moment) (own_reading each origin)
      (own_packets origin made) table

-- this is told of it, where its interface has this name
pub record IsSenderText (each : EachSender) (made : List Made) (moment : Option ℕ) (origin : Origin)
    (name : List ℕ) (key : TableText) : Type 0 where
  pub table : Routes
  pub is_own : IsOwnTable each made moment origin table
  pub strict : each.strict ≡ true → IsReadWhole None table.report
  pub is_told : IsToldOf each.task each (own_reading each origin) origin name key table

-- or nothing: a datagram of it is missed; or its dump is refused, or has no canonical form; or, where
-- it is read strictly, something of it was left unread
abbrev pub NoSenderText :
    EachSender → List Made → (moment : Option ℕ) → Origin → InputFault → Type 0
NoSenderText each made moment origin (input_faults.LeftOut datagram) =
    first_missed origin made ≡ Some datagram
NoSenderText each made moment origin (input_faults.Dump fault) = fault ≢ faults.Memory
    → DumpFault each.limits each.mode origin.sender (dump_of (own_packets origin made)) fault
    ⊎ ((table : Routes) × IsOwnTable each made moment origin table × (fault ≡ faults.TooManyPairs)
    × SenderFindsTooMany each.task each.limits table)
NoSenderText each made moment origin fault = (each.strict ≡ true) × ((table : Routes)
    × IsOwnTable each made moment origin table × IsNotReadWhole None table.report fault)
