-- No fault of the octets is want of memory.
use Rattle.std.proofs.Common.{◌≡◌, ◌≢◌, ℕ, List, [], ◌∷◌, arith, inl, inr, length, subst, sym, ◌∙◌}
use Rattle.std.specs.Prelude.{Bool, Err, IfErr, None, Ok, Option, Result, Some, ℤ, false, if◌then◌else◌, nat_lt, slice_get, true, ◌==◌}
use Rattle.babel_capture.specs.declared.clock.Stamp.{Stamp}
use Rattle.babel_capture.specs.Times.{in_years, moment_in, time_asked, time_or}
use Rattle.babel_capture.specs.declared.window.Moment.{Moment}
use Rattle.babel_capture.specs.declared.window.Window.{Window}
use Rattle.babel_capture.specs.declared.window.Window.TheVariants as windows
use Rattle.babel_capture.specs.declared.fault.Fault.{Fault}
use Rattle.babel_capture.specs.declared.fault.Fault.TheVariants as faults
use Rattle.babel_capture.specs.declared.lack.Lack.{Lack}
use Rattle.babel_capture.specs.declared.lack.Lack.TheVariants as lacks
use Rattle.babel_capture.specs.declared.layout.Interface.{Interface}
use Rattle.babel_capture.specs.declared.layout.Layout.{Layout}
use Rattle.babel_capture.specs.declared.layout.Layout.TheVariants as layouts
use Rattle.babel_capture.specs.declared.link.Link.{Link}
use Rattle.babel_capture.specs.declared.order.Order.{Order}
use Rattle.babel_capture.specs.Blocks.{context_behind, header_of, octets_of, passage_of, sightings_in, start}
use Rattle.babel_capture.specs.Capture.{CaptureFault, IsShortBy}
use Rattle.babel_capture.specs.Contents.{Captured, Content, by_time, read_by}
use Rattle.babel_capture.specs.Contents.{block_said, first_said, holds_by, interface_said, kept_said, layout_said, numbered_said, packet_of, section_of, simple_of, simple_said, typed_said}
use Rattle.babel_capture.specs.Context.{Before}
use Rattle.babel_capture.specs.Lack.{lack_fault}
use Rattle.babel_capture.specs.Lengths.{block_len, first_len, layout_len, len_within, pcap_order, section_order, total_in}
use Rattle.babel_capture.specs.Findings.{Found, found, left, passed, refused, untold}
use Rattle.babel_capture.specs.Gathering.{IsRefused, RefusesFound}
use Rattle.babel_capture.specs.Passage.{missing_in, Passage, Sighting}
use Rattle.babel_capture.specs.Link.{link_of}
use Rattle.babel_capture.specs.Numbers.{number_at}
use Rattle.babel_capture.specs.Reading.{HeaderFails, StopsAt}
use Rattle.babel_capture.specs.Tallies.{Senders, senders_listed}
use Rattle.babel_capture.specs.declared.wanted.Wanted.{Wanted}
use Rattle.babel_capture.specs.Window.{Extent}

pub if-memory : {A : Type 0} (r : Result A Fault) (P : Type 0) → P → IfErr r (λ fault. fault ≡ faults.Memory → P)
if-memory (Ok value) P fact = tt
if-memory (Err fault) P fact = λ is. fact

pub lack-other : (at : ℕ) (lack : Lack) → lack_fault at lack ≢ faults.Memory
lack-other at lacks.Fragment is = cc
lack-other at lacks.CutShort is = cc
lack-other at lacks.Snapped is = cc

-- ---- what blocks say

asked-other : (at : ℕ) (moment : Option ℤ) → time_asked at moment ≢ Err faults.Memory
asked-other at None is = cc
asked-other at (Some moment) is = or-other at (in_years moment) is
  where
    or-other : (at : ℕ) (time : Option ℕ) → time_or (faults.BadTime at) time ≢ Err faults.Memory
    or-other at None is = cc
    or-other at (Some time) is = cc

by-other : (since until : Option Moment) (start : Option ℕ) (at : ℕ) (packet : Captured) (time : Result ℕ Fault) → time ≢ Err faults.Memory → by_time since until start at packet time ≢ Err faults.Memory
by-other since until start at packet (Err fault) not is = (let same : fault ≡ faults.Memory = cc in not cc)
by-other since until start at packet (Ok time) not is = grind (arith)

read-other : (window : Window) (start : Option ℕ) (at : ℕ) (packet : Captured) → read_by window start at packet ≢ Err faults.Memory
read-other windows.Whole start at packet is = cc
read-other (windows.Between since until) start at packet is =
    by-other since until start at packet (time_asked at packet.moment) (asked-other at packet.moment) is

linked : (before : Before) (at interface number : ℕ) (moment : Option ℤ) (frame : List ℕ) (whole : ℕ) (link : Option Link)
    → holds_by before at interface number moment frame whole link ≢ Err faults.Memory
linked before at interface number moment frame whole None is = cc
linked before at interface number moment frame whole (Some link) is =
    read-other before.window before.start at (record { interface = interface; section = before.first; link = link; moment = moment; frame = frame; whole_len = whole; ends_within = true }) is

packets : (before : Before) (at interface : ℕ) (stamp : Option Stamp) (frame : List ℕ) (whole : ℕ) (described : Option Interface)
    → packet_of before at interface stamp frame whole described ≢ Err faults.Memory
packets before at interface stamp frame whole None is = cc
packets before at interface stamp frame whole (Some described) is = linked before at interface described.link (moment_in described.clock stamp) frame whole (link_of described.link) is

kept : (before : Before) (at : ℕ) (order : Order) (block : List ℕ) (number captured : ℕ) → kept_said before at order block number captured ≢ Err faults.Memory
kept before at order block number captured is = grind (arith, packets)

order_other : (at : ℕ) (header : List ℕ) → section_order at header ≢ Err faults.Memory
order_other at header is = grind arith

sections : (at : ℕ) (block : List ℕ) (order : Result Order Fault) → order ≢ Err faults.Memory → section_of at block order ≢ Err faults.Memory
sections at block (Err fault) not is = (let same : fault ≡ faults.Memory = cc in not cc)
sections at block (Ok order) not is = grind arith

simples : (before : Before) (at : ℕ) (order : Order) (block : List ℕ) (described : Option Interface) → simple_of before at order block described ≢ Err faults.Memory
simples before at order block None is = cc
simples before at order block (Some described) is = grind (arith, packets)

-- one or the other
unless : (b : Bool) (x y : Result Content Fault) → x ≢ Err faults.Memory → y ≢ Err faults.Memory → (if b then x else y) ≢ Err faults.Memory
unless true x y one other = one
unless false x y one other = other

interfaces : (before : Before) (at : ℕ) (order : Order) (block : List ℕ) → interface_said before at order block ≢ Err faults.Memory
interfaces before at order block is = grind arith

simple : (before : Before) (at : ℕ) (order : Order) (block : List ℕ) → simple_said before at order block ≢ Err faults.Memory
simple before at order block =
    unless (nat_lt (length block) 16) (Err (faults.BadLength at)) _ (λ is. cc) (simples before at order block (slice_get before.interfaces before.first))

numbered : (before : Before) (at : ℕ) (order : Order) (block : List ℕ) (number : ℕ) → numbered_said before at order block number ≢ Err faults.Memory
numbered before at order block number =
    unless (nat_lt (length block) 32) (Err (faults.BadLength at)) _ (λ is. cc) (kept before at order block number (number_at order 4 block 20))

typed : (before : Before) (at : ℕ) (order : Order) (block : List ℕ) (kind : ℕ) → typed_said before at order block kind ≢ Err faults.Memory
typed before at order block kind =
    unless (kind == 1) (interface_said before at order block) _ (interfaces before at order block)
    (unless (kind == 3) (simple_said before at order block) _ (simple before at order block)
    (unless (kind == 2) (numbered_said before at order block (number_at order 2 block 8)) _ (numbered before at order block (number_at order 2 block 8))
    (unless (kind == 6) (numbered_said before at order block (number_at order 4 block 8)) _ (numbered before at order block (number_at order 4 block 8)) (λ is. cc))))

firsts : (before : Before) (at : ℕ) (block : List ℕ) (order : Option Order) → first_said before at block order ≢ Err faults.Memory
firsts before at block (Some order) is = grind arith
firsts before at block None is = sections at block (section_order at block) (order_other at block) is

layouts_other : (layout : Layout) (before : Before) (at : ℕ) (block : List ℕ) → layout_said layout before at block ≢ Err faults.Memory
layouts_other layouts.Start before at block is = firsts before at block (pcap_order block) is
layouts_other (layouts.Pcap order) before at block is = grind (arith, packets)
layouts_other (layouts.Section order) before at block is =
    let section = sections at block (section_order at block) (order_other at block) in
    grind (arith, section, typed)

pub said_other : (before : Before) (at : ℕ) (block : List ℕ) → block_said before at block ≢ Err faults.Memory
unfolding block_said
said_other before at block = layouts_other before.layout before at block

-- ---- how long they are

totals : (at : ℕ) (header : List ℕ) (order : Result Order Fault) → order ≢ Err faults.Memory → total_in at header order ≢ Err faults.Memory
totals at header (Ok order) not is = grind arith
totals at header (Err fault) not is = (let same : fault ≡ faults.Memory = cc in not cc)

first_other : (at : ℕ) (header : List ℕ) (order : Option Order) → first_len at header order ≢ Err faults.Memory
first_other at header (Some order) is = cc
first_other at header None is =
    let section = totals at header (section_order at header) (order_other at header) in
    grind (arith, section)

layout_other : (to_cut : Bool) (layout : Layout) (at : ℕ) (header : List ℕ) → layout_len to_cut layout at header ≢ Err faults.Memory
layout_other to_cut layouts.Start at header is = first_other at header (pcap_order header) is
layout_other to_cut (layouts.Pcap order) at header is = grind arith
layout_other to_cut (layouts.Section order) at header is =
    let section = totals at header (section_order at header) (order_other at header) in
    grind (arith, section)

within : (limit at : ℕ) (len : Result ℕ Fault) → len ≢ Err faults.Memory → len_within limit at len ≢ Err faults.Memory
within limit at (Err fault) not is = not is
within limit at (Ok len) not is = grind arith

pub header-other : (before : Before) (at : ℕ) (octets : List ℕ) (fault : Fault) → HeaderFails before at octets fault → fault ≢ faults.Memory
header-other before at octets fault (inr (end, past, told)) memory = (let both : faults.TooLong at ≡ faults.Memory = sym told ∙ memory in cc)
header-other before at octets fault (inl (whole, is)) memory =
    within before.limit at (layout_len before.to_cut before.layout at (header_of before octets)) (layout_other before.to_cut before.layout at (header_of before octets))
    (subst (λ (f : Fault). block_len before at (header_of before octets) ≡ Err f) memory is)

-- ---- the fault of a capture

found-other : (senders : Senders) (at : ℕ) (what : Found) (fault : Fault) → RefusesFound senders at what fault → fault ≢ faults.Memory
found-other senders at (refused lack) fault told is = lack-other at lack (sym told ∙ is)
found-other senders at (found place ends octets has_trailer) fault (told, many) is = cc
found-other senders at passed fault none is = absurd none
found-other senders at untold fault none is = absurd none
found-other senders at (left reason missed) fault none is = absurd none

refused-other : (wanted : Wanted) (senders : Senders) (sightings : List Sighting) (fault : Fault) → IsRefused wanted senders sightings fault → fault ≢ faults.Memory
refused-other wanted senders [] fault refuses is = absurd refuses
refused-other wanted senders (sighting ∷ later) fault (what, finds, inl refuses) is = found-other senders sighting.at what fault refuses is
refused-other wanted senders (sighting ∷ later) fault (what, finds, inr (uncounted, refusal)) is = refused-other wanted senders later fault refusal is

stops-other : (wanted : Wanted) (senders : Senders) (passage : Passage) (before : Before) (at : ℕ) (octets : List ℕ) (fault : Fault) → StopsAt wanted senders passage before at octets fault
    → fault ≢ faults.Memory
stops-other wanted senders passage before at octets fault (inl header) is = header-other before at octets fault header is
stops-other wanted senders passage before at octets fault (inr (block, begins, inl said)) is = said_other before at block (subst (λ (f : Fault). block_said before at block ≡ Err f) is said)
stops-other wanted senders passage before at octets fault (inr (block, begins, inr (content, said, refuses))) is =
    refused-other wanted senders (sightings_in passage at content) fault refuses is

short-other : (before : Before) (at : ℕ) (rest : List ℕ) (fault : Fault) → IsShortBy before at rest fault → fault ≢ faults.Memory
short-other before at rest fault (inl (not, told)) is = cc
short-other before at rest fault (inr (started, some, told)) is = cc

pub fault-other : (limit : Extent) (wanted : Wanted) (octets : List ℕ) (fault : Fault) → CaptureFault limit wanted octets fault → fault ≢ faults.Memory
fault-other limit wanted octets fault (inl stops) = stops-other wanted (senders_listed wanted.are_listed stops.made) (passage_of stops.blocks) (context_behind (start limit) stops.blocks) (length (octets_of stops.blocks)) stops.rest fault
    stops.stops
fault-other limit wanted octets fault (inr (inr lost)) = refused-other wanted (senders_listed wanted.are_listed lost.made) (missing_in (passage_of lost.blocks).known.unfinished) fault lost.lost
fault-other limit wanted octets fault (inr (inl short)) = short-other (context_behind (start limit) short.blocks) (length (octets_of short.blocks)) short.rest fault short.short
