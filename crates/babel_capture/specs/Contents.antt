-- What the blocks of a capture say: draft-ietf-opsawg-pcap, 4 and 5; draft-ietf-opsawg-pcapng, 4.1
-- to 4.4.
use Rattle.std.specs.Prelude.{ℕ, ◌+◌, ◌-◌, ◌*◌, ◌^◌, ◌%◌, ℤ, pos, min, Bool, ◌==◌, ◌&&◌, ◌||◌}
use Rattle.std.specs.Prelude.{nat_lt, nat_le, true}
use Rattle.std.specs.Prelude.{if◌then◌else◌, List, []}
use Rattle.std.specs.Prelude.{◌∷◌, ◌++◌, length, slice_get, slice_range, Option, Some, None, Result}
use Rattle.std.specs.Prelude.{Ok, Err}
use Rattle.std.specs.Option.{unwrap_or}
use Rattle.babel_capture.specs.declared.block.Block.{Block}
use Rattle.babel_capture.specs.declared.block.Block.TheVariants as blocks
use Rattle.babel_capture.specs.declared.block.Packet.{Packet}
use Rattle.babel_capture.specs.declared.clock.Clock.{Clock}
use Rattle.babel_capture.specs.declared.clock.Resolution.TheVariants as resolutions
use Rattle.babel_capture.specs.declared.clock.Stamp.{Stamp}
use Rattle.babel_capture.specs.declared.fault.Fault.{Fault}
use Rattle.babel_capture.specs.declared.fault.Fault.TheVariants as faults
use Rattle.babel_capture.specs.declared.layout.Interface.{Interface}
use Rattle.babel_capture.specs.declared.layout.Layout.{Layout}
use Rattle.babel_capture.specs.declared.layout.Layout.TheVariants as layouts
use Rattle.babel_capture.specs.declared.link.Link.{Link}
use Rattle.babel_capture.specs.declared.order.Order.{Order}
use Rattle.babel_capture.specs.declared.window.Moment.{Moment}
use Rattle.babel_capture.specs.declared.window.Window.{Window}
use Rattle.babel_capture.specs.declared.window.Window.TheVariants as windows
use Rattle.babel_capture.specs.Context.{Before}
use Rattle.babel_capture.specs.Lengths.{pcap_order, section_order}
use Rattle.babel_capture.specs.Link.{link_of}
use Rattle.babel_capture.specs.Numbers.{number_at}
use Rattle.babel_capture.specs.Options.{Options, all_options}
use Rattle.babel_capture.specs.Times.{moment_in, time_asked, time_in}
use Rattle.babel_capture.specs.Window.{is_empty, is_between}

-- a captured packet: the number of its interface, and of its section's first one, the interface's
-- link type, when it came in nanoseconds since the start of 1970, where its block has a time, the
-- octets kept, and how many it had; and whether the 60 seconds after it end within the window
pub record Captured : Type 0 where
  pub interface : ℕ
  pub section : ℕ
  pub link : Link
  pub moment : Option ℤ
  pub frame : List ℕ
  pub whole_len : ℕ
  pub ends_within : Bool

-- the header of a pcap file, the header of a section, an interface with its name, which is empty
-- where it has none, a packet, a packet that is skipped for its time, or a block that is ignored
pub data Content : Type 0 where
  file : (order : Order) (interface : Interface) → Content
  section : (order : Order) → Content
  describes : (interface : Interface) (name : List ℕ) → Content
  holds : (packet : Captured) → Content
  skips : (packet : Captured) → Content
  nothing : Content

-- when the first packet came, where times are asked for
abbrev pub start_with : Option ℕ → Option ℤ → Option ℕ
start_with (Some start) moment = Some start
start_with None moment = time_in moment

abbrev pub started_with : Window → Before → Option ℤ → Before
started_with windows.Whole before moment = before
started_with (windows.Between since until) before moment =
    record before { start = start_with before.start moment }

-- what the blocks so far say, this one too
abbrev pub context_after : Before → Content → Before
context_after before (file order interface) =
    record before { layout = layouts.Pcap order; interfaces = before.interfaces ++ interface ∷ [] }
context_after before (section order) = record before {
  layout = layouts.Section order;
  first = length before.interfaces;
}
context_after before (describes interface name) = record before {
  interfaces = before.interfaces ++ interface ∷ [];
}
context_after before (holds packet) = started_with before.window before packet.moment
context_after before (skips packet) = started_with before.window before packet.moment
context_after before nothing = before

-- a packet that came then is read, or skipped; the first one came when this one did where none did
-- before, and by that the window is one
abbrev pub by_time : Option Moment → Option Moment → Option ℕ → ℕ → Captured → Result ℕ Fault
    → Result Content Fault
by_time since until start at packet (Err fault) = Err fault
by_time since until start at packet (Ok time) =
    let first : ℕ = unwrap_or start time in
    let kept : Captured = record packet {
      ends_within = is_between since until first (time + 60000000000);
    } in
    if is_empty since until first then Err (faults.EmptyWindow at)
    else Ok (if is_between since until first time then holds kept else skips kept)

abbrev pub read_by : Window → Option ℕ → ℕ → Captured → Result Content Fault
read_by windows.Whole start at packet = Ok (holds packet)
read_by (windows.Between since until) start at packet =
    by_time since until start at packet (time_asked at packet.moment)

-- a packet of an interface that was described, with a link type that is read; its time is counted
-- as the interface's are
abbrev pub holds_by : Before → ℕ → ℕ → ℕ → Option ℤ → List ℕ → ℕ → Option Link
    → Result Content Fault
holds_by before at interface number moment frame whole None = Err (faults.UnreadLink at number)
holds_by before at interface number moment frame whole (Some link) =
    read_by before.window before.start at (record {
      interface = interface;
      section = before.first;
      link = link;
      moment = moment;
      frame = frame;
      whole_len = whole;
      ends_within = true;
    })

abbrev pub packet_of : Before → ℕ → ℕ → Option Stamp → List ℕ → ℕ → Option Interface
    → Result Content Fault
packet_of before at interface stamp frame whole None = Err (faults.NoInterface at)
packet_of before at interface stamp frame whole (Some described) =
    holds_by before at interface described.link (moment_in described.clock stamp) frame whole
    (link_of described.link)

abbrev pub packet_said : Before → ℕ → ℕ → Option Stamp → List ℕ → ℕ → Result Content Fault
packet_said before at interface stamp frame whole =
    packet_of before at interface stamp frame whole (slice_get before.interfaces interface)

-- draft-ietf-opsawg-pcap, 4: the version is at 4 and 6, and it is 2.4
abbrev pub is_file_version : Order → List ℕ → Bool
is_file_version order block = number_at order 2 block 4 == 2 && number_at order 2 block 6 == 4

-- draft-ietf-opsawg-pcap, 4: the link type is the lower half of the number at 20, and times are in
-- nanoseconds by one magic number, and by the other in microseconds
abbrev pub pcap_clock : ℕ → Clock
pcap_clock magic = record {
  resolution = if magic == 0xa1b23c4d then resolutions.Ten 9 else resolutions.Ten 6;
  offset = pos 0;
}

abbrev pub file_said : Before → ℕ → Order → List ℕ → Result Content Fault
file_said before at order block =
    if nat_le 65536 (length before.interfaces) then Err (faults.TooManyInterfaces at)
    else if is_file_version order block then Ok (file order (record {
      link = number_at order 4 block 20 % 65536;
      snap_len = number_at order 4 block 16;
      clock = pcap_clock (number_at order 4 block 0);
    }))
    else Err (faults.Version at (number_at order 2 block 4) (number_at order 2 block 6))

-- draft-ietf-opsawg-pcap, 5: the seconds of its time are at 0, and micro- or nanoseconds at 4; the
-- packet's length is at 12, and its octets begin at 16
abbrev pub record_stamp : Order → List ℕ → Stamp
record_stamp order block =
    record { seconds = number_at order 4 block 0; units = number_at order 4 block 4 }

abbrev pub record_said : Before → ℕ → Order → List ℕ → Result Content Fault
record_said before at order block =
    packet_said before at 0 (Some (record_stamp order block)) (slice_range block 16 (length block))
    (number_at order 4 block 12)

-- draft-ietf-opsawg-pcapng, 4.1: at least 28 octets; the version of a section is at 12 and 14; it
-- is 1.0, or 1.2, which readers are to take for the same
abbrev pub is_section_version : Order → List ℕ → Bool
is_section_version order block =
    number_at order 2 block 12 == 1
    && (number_at order 2 block 14 == 0 || number_at order 2 block 14 == 2)

abbrev pub versioned_said : ℕ → Order → List ℕ → Result Content Fault
versioned_said at order block =
    if nat_lt (length block) 28 then Err (faults.BadLength at)
    else if is_section_version order block then Ok (section order)
    else Err (faults.Version at (number_at order 2 block 12) (number_at order 2 block 14))

-- draft-ietf-opsawg-pcapng, 3.1, 4.1: the total length stands at the end of the block again
abbrev pub section_of : ℕ → List ℕ → Result Order Fault → Result Content Fault
section_of at block (Err fault) = Err fault
section_of at block (Ok order) =
    if number_at order 4 block (length block - 4) == length block
    then versioned_said at order block
    else Err (faults.BadLength at)

abbrev pub section_said : ℕ → List ℕ → Result Content Fault
section_said at block = section_of at block (section_order at block)

-- the names of the interfaces that a block describes; a pcap file has one, without a name
abbrev pub names_in : Content → List (List ℕ)
names_in (file order interface) = [] ∷ []
names_in (section order) = []
names_in (describes interface name) = name ∷ []
names_in (holds packet) = []
names_in (skips packet) = []
names_in nothing = []

-- draft-ietf-opsawg-pcapng, 4.2: the times of an interface are in microseconds where no option says
-- otherwise
abbrev pub clock_in : Options → Clock
clock_in options = record {
  resolution = unwrap_or options.resolution (resolutions.Ten 6);
  offset = unwrap_or options.offset (pos 0);
}

-- draft-ietf-opsawg-pcapng, 4.2: at least 20 octets, the link type at 8, the most that is kept of a
-- packet at 12, and options from 16 on, none of which runs past the block
abbrev pub described_said : ℕ → Order → List ℕ → Options → Result Content Fault
described_said at order block options =
    if options.is_bad then Err (faults.BadLength at)
    else Ok (describes (record {
      link = number_at order 2 block 8;
      snap_len = number_at order 4 block 12;
      clock = clock_in options;
    }) options.name)

abbrev pub interface_said : Before → ℕ → Order → List ℕ → Result Content Fault
interface_said before at order block =
    if nat_lt (length block) 20 then Err (faults.BadLength at)
    else if nat_le 65536 (length before.interfaces) then Err (faults.TooManyInterfaces at)
    else described_said at order block (all_options order (slice_range block 16 (length block - 4)))

-- draft-ietf-opsawg-pcapng, 4.3, and the block that it replaced: at least 32 octets, the time in
-- two halves at 12, the higher one first, the captured length at 20, the packet's at 24, and its
-- octets from 28 on; of an interface with this number in the section
abbrev pub packet_stamp : Order → List ℕ → Stamp
packet_stamp order block = record {
  seconds = 0;
  units = number_at order 4 block 12 * 2 ^ 32 + number_at order 4 block 16;
}

abbrev pub kept_said : Before → ℕ → Order → List ℕ → ℕ → ℕ → Result Content Fault
kept_said before at order block number captured =
    if nat_lt (length block) (32 + captured) then Err (faults.BadLength at)
    else packet_said before at (before.first + number) (Some (packet_stamp order block))
    (slice_range block 28 (28 + captured)) (number_at order 4 block 24)

abbrev pub numbered_said : Before → ℕ → Order → List ℕ → ℕ → Result Content Fault
numbered_said before at order block number =
    if nat_lt (length block) 32 then Err (faults.BadLength at)
    else kept_said before at order block number (number_at order 4 block 20)

-- draft-ietf-opsawg-pcapng, 4.2, 4.4: so many octets of a packet are kept, where 0 sets no limit
abbrev pub kept_len : ℕ → ℕ → ℕ
kept_len snap whole = if snap == 0 then whole else min snap whole

-- draft-ietf-opsawg-pcapng, 4.4: at least 16 octets, the packet's length at 8, its octets from 12
-- on, and no time; it is of the section's first interface
abbrev pub simple_of : Before → ℕ → Order → List ℕ → Option Interface → Result Content Fault
simple_of before at order block None = Err (faults.NoInterface at)
simple_of before at order block (Some described) =
    let whole : ℕ = number_at order 4 block 8 in
    let kept : ℕ = kept_len described.snap_len whole in
    if nat_lt (length block) (16 + kept) then Err (faults.BadLength at)
    else packet_said before at before.first None (slice_range block 12 (12 + kept)) whole

abbrev pub simple_said : Before → ℕ → Order → List ℕ → Result Content Fault
simple_said before at order block =
    if nat_lt (length block) 16 then Err (faults.BadLength at)
    else simple_of before at order block (slice_get before.interfaces before.first)

-- draft-ietf-opsawg-pcapng, 4: a block by its type, with its total length at its end again; others
-- are ignored. The number of an interface has 32 bits at 8, and 16 bits there in the old packet
-- block.
abbrev pub typed_said : Before → ℕ → Order → List ℕ → ℕ → Result Content Fault
typed_said before at order block kind =
    if kind == 1 then interface_said before at order block
    else if kind == 3 then simple_said before at order block
    else if kind == 2 then numbered_said before at order block (number_at order 2 block 8)
    else if kind == 6 then numbered_said before at order block (number_at order 4 block 8)
    else Ok nothing

abbrev pub pcapng_said : Before → ℕ → Order → List ℕ → Result Content Fault
pcapng_said before at order block =
    if number_at order 4 block 0 == 0x0a0d0d0a then section_said at block
    else if number_at order 4 block (length block - 4) == length block
    then typed_said before at order block (number_at order 4 block 0)
    else Err (faults.BadLength at)

abbrev pub first_said : Before → ℕ → List ℕ → Option Order → Result Content Fault
first_said before at block (Some order) = file_said before at order block
first_said before at block None = section_said at block

abbrev pub layout_said : Layout → Before → ℕ → List ℕ → Result Content Fault
layout_said layouts.Start before at block = first_said before at block (pcap_order block)
layout_said (layouts.Pcap order) before at block = record_said before at order block
layout_said (layouts.Section order) before at block = pcapng_said before at order block

-- what a whole block says, which begins at this offset
unfoldable pub block_said : Before → ℕ → List ℕ → Result Content Fault
block_said before at block = layout_said before.layout before at block

-- what the code makes of a packet, and of a block
abbrev pub captured_of : Packet → Captured
captured_of packet = record {
  interface = packet.interface;
  section = packet.section;
  link = packet.link;
  moment = moment_in packet.clock packet.stamp;
  frame = packet.frame.now;
  whole_len = packet.whole_len;
  ends_within = packet.ends_within;
}

abbrev pub content_of : Block → Content
content_of (blocks.File order interface) = file order interface
content_of (blocks.Section order) = section order
content_of (blocks.Interface interface name) = describes interface name.now
content_of (blocks.Packet packet) = holds (captured_of packet)
content_of (blocks.Skipped packet) = skips (captured_of packet)
content_of blocks.Other = nothing
