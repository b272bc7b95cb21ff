-- What is heard of a capture for a router in it that selects: the tables of senders, what nodes say
-- of links, and the router's own Updates. No RFC speaks of captures.
use Rattle.std.specs.Prelude.{◌≡◌, ℕ, Bool, true, false, ◌&&◌, if◌then◌else◌, List, [], ◌++◌, None}
use Rattle.std.specs.Prelude.{Option, Some}
use Rattle.std.specs.List.{flat_map, list_all, list_any}
use Rattle.std.specs.Option.{unwrap_or}
use Rattle.std.specs.Ordering.{is_eq}
use Rattle.babel_prefix.specs.Address.{Address}
use Rattle.babel_prefix.specs.Order.{address_cmp}
use Rattle.babel_capture.specs.Counts.{Made}
use Rattle.babel_capture.specs.Findings.{Found, found}
use Rattle.babel_capture.specs.Gathering.{Gathering}
use Rattle.babel_capture.specs.Tallies.{Senders}
use Rattle.babel_capture.specs.Times.{time_of}
use Rattle.babel_capture.specs.declared.place.Place.{Place}
use Rattle.babel_capture.specs.declared.tallies.Origin.{Origin}
use Rattle.babel_timeline.specs.RequestsTold.{body_of}
use Rattle.babel_selection.specs.Announcing.{AreDistances}
use Rattle.babel_selection.specs.Distances.{OwnUpdate}
use Rattle.babel_selection.specs.Hearing.{AreLast}
use Rattle.babel_selection.specs.OwnUpdates.{updates_of}
use Rattle.babel_dump.specs.CaptureGiven.{CaptureInput, GaveCapture, GaveSound, made_in}
use Rattle.babel_dump.specs.CaptureGiven.{moment_in}
use Rattle.babel_dump.specs.CaptureRun.{CaptureCause, IsNoFault}
use Rattle.babel_dump.specs.EachSender.{AreOwn, KeepsOwn, is_asked}
use Rattle.babel_dump.specs.Fed.{AreWhole}
use Rattle.babel_dump.specs.LeftOut.{first_unmissed}
use Rattle.babel_dump.specs.LinksHeard.{HearsMade, ihus_made}
use Rattle.babel_dump.specs.Nodes.{node_cmp}
use Rattle.babel_dump.specs.Packets.{packets_made}
use Rattle.babel_dump.specs.declared.input_fault.InputFault.{InputFault}
use Rattle.babel_dump.specs.declared.input_fault.InputFault.TheVariants as input_faults
use Rattle.babel_dump.specs.declared.select_job.Select.{Select}
use Rattle.babel_dump.specs.declared.selecting.Selecting.{Selecting}
use Rattle.babel_dump.specs.declared.selection_read.SelectionRead.{SelectionRead}

-- this is one of the router's addresses
abbrev pub is_router : (routers : List Address) → Address → Bool
is_router routers address = list_any (λ router. is_eq (address_cmp router address)) routers

-- and at a place that is asked for
abbrev pub is_own : Select → Origin → Bool
is_own select origin =
    is_router select.routers.items origin.sender && is_asked select.each.place origin

-- an address sends a packet that is read, at a place that is asked for
abbrev pub sends_somewhere : Option Place → Senders → Address → Bool
sends_somewhere place senders address = list_any
    (λ entry. is_eq (address_cmp entry.0.sender address) && is_asked place entry.0) senders

-- so does each of the router's
abbrev pub all_send : Select → Senders → Bool
all_send select senders =
    list_all (sends_somewhere select.each.place senders) select.routers.items

-- ---- the router's own Updates

-- those of a packet that came then, if it is one of the router's
abbrev pub updates_sent : Select → (time : ℕ) → Origin → (packet : List ℕ) → List OwnUpdate
updates_sent select time origin packet =
    if is_own select origin then updates_of
    (record { sender = origin.sender; via_v6 = select.each.limits.via_v6 }) time (body_of packet)
    else []

abbrev pub updates_found : Select → (time : ℕ) → Found → List OwnUpdate
updates_found select time (found place ends packet has_trailer) =
    updates_sent select time (record { place = place; sender = ends.sender }) packet
updates_found select time what = []

-- those of all its packets
abbrev pub updates_made : Select → List Made → List OwnUpdate
updates_made select made =
    flat_map (λ one. updates_found select (unwrap_or (time_of one.came) 0) one.what) made

-- ---- all that is heard

-- with these packets more, unless memory ran out
abbrev pub TakesUpdates : Selecting → Selecting → List Made → Type 0
TakesUpdates first now made = now.has_failed ≡ false → (first.has_failed ≡ false)
    × ((before : List OwnUpdate) → AreDistances before first.sources
    → AreDistances (before ++ updates_made first.select.now made) now.sources)

pub record KeepsSelecting (first now : Selecting) (made : List Made) : Type 0 where
  pub select : now.select.now ≡ first.select.now
  pub tables : KeepsOwn first.tables now.tables made
  pub links : HearsMade first.links now.links made
  pub updates : TakesUpdates first now made

-- the reader gave such a capture, of which these are the tables of the senders, the last IHUs, and
-- the source table of the router; no datagram was left out that is not missed if it is read
-- strictly, and each address of the router sends
pub record GaveSelecting (select : Select) (reader : CaptureInput) (read : SelectionRead) :
    Type 0 where
  pub gave : GaveSound reader read.senders.read.gathered read.senders.read.cut
  pub strict : select.strict ≡ true
      → first_unmissed select.each.accept_missing read.senders.read.gathered.report ≡ None
  pub sends : all_send select read.senders.read.gathered.senders ≡ true
  pub moment_is : read.senders.read.moment ≡ moment_in gave.given
  pub whole : AreWhole (packets_made (made_in gave.given))
  pub are_own : AreOwn select.each (made_in gave.given) read.senders.tables.entries
  pub ihus : AreLast node_cmp (ihus_made (made_in gave.given)) read.links.ihus
  pub updates : AreDistances (updates_made select (made_in gave.given)) read.sources

-- ---- or why nothing was read

-- the reader gave a capture of which this is so
abbrev pub GaveOne : CaptureInput → (Gathering → Type 0) → Type 0
GaveOne reader Holds = (gathering : Gathering) × (cut : Option ℕ)
    × GaveCapture reader gathering cut × Holds gathering

-- a datagram was left out that is not missed, if it is read strictly; an address of the router
-- sends nothing; or the capture is refused
abbrev pub SelectingCause : Select → CaptureInput → InputFault → Type 0
SelectingCause select reader (input_faults.LeftOut datagram) = (select.strict ≡ true)
    × GaveOne reader
    (λ gathering. first_unmissed select.each.accept_missing gathering.report ≡ Some datagram)
SelectingCause select reader (input_faults.NoPackets absence) =
    GaveOne reader (λ gathering. all_send select gathering.senders ≡ false)
SelectingCause select reader fault = CaptureCause reader IsNoFault fault
