-- How long the blocks of a capture are: draft-ietf-opsawg-pcap, 4 and 5; draft-ietf-opsawg-pcapng,
-- 3.1 and 4.1. A record of a pcap file counts as a block, and so does its header.
use Rattle.std.specs.Prelude.{ℕ, ◌+◌, ◌-◌, ◌%◌, Bool, ◌==◌, ◌&&◌, ◌||◌, nat_lt, if◌then◌else◌, List}
use Rattle.std.specs.Prelude.{Option, Some, None, Result, Ok, Err}
use Rattle.babel_capture.specs.declared.layout.Layout.{Layout}
use Rattle.babel_capture.specs.declared.layout.Layout.TheVariants as layouts
use Rattle.babel_capture.specs.declared.fault.Fault.{Fault}
use Rattle.babel_capture.specs.declared.fault.Fault.TheVariants as faults
use Rattle.babel_capture.specs.declared.order.Order.{Order}
use Rattle.babel_capture.specs.declared.order.Order.TheVariants as orders
use Rattle.babel_capture.specs.Context.{Before}
use Rattle.babel_capture.specs.Numbers.{number_at}

-- draft-ietf-opsawg-pcap, 4: 0xA1B2C3D4 where times are in microseconds, 0xA1B23C4D where they are
-- in nanoseconds
abbrev pub is_pcap_magic : ℕ → Bool
is_pcap_magic number = number == 0xa1b2c3d4 || number == 0xa1b23c4d

-- the byte order of a pcap file, by its first octets
abbrev pub pcap_order : List ℕ → Option Order
pcap_order header =
    if is_pcap_magic (number_at orders.Big 4 header 0) then Some orders.Big
    else if is_pcap_magic (number_at orders.Little 4 header 0) then Some orders.Little
    else None

-- draft-ietf-opsawg-pcapng, 4.1: the type of a section header, 0x0A0D0D0A, which is the same in
-- either order
abbrev pub is_section : List ℕ → Bool
is_section header = number_at orders.Big 4 header 0 == 0x0a0d0d0a

-- draft-ietf-opsawg-pcapng, 4.1: the byte order of a section, by the number 0x1A2B3C4D at 8
abbrev pub section_order : ℕ → List ℕ → Result Order Fault
section_order at header =
    if number_at orders.Big 4 header 8 == 0x1a2b3c4d then Ok orders.Big
    else if number_at orders.Little 4 header 8 == 0x1a2b3c4d then Ok orders.Little
    else Err (faults.BadOrder at)

-- draft-ietf-opsawg-pcapng, 3.1: the total length, a multiple of 4, and here at least so many
-- octets; over 16 MiB are not read
abbrev pub total_len : ℕ → Order → ℕ → List ℕ → Result ℕ Fault
total_len least order at header =
    let total : ℕ = number_at order 4 header 4 in
    if nat_lt total least || nat_lt 16777216 total || nat_lt 0 (total % 4)
    then Err (faults.BadLength at) else Ok total

-- draft-ietf-opsawg-pcapng, 4.1: a section header has at least 28 octets
abbrev pub total_in : ℕ → List ℕ → Result Order Fault → Result ℕ Fault
total_in at header (Ok order) = total_len 28 order at header
total_in at header (Err fault) = Err fault

abbrev pub section_len : ℕ → List ℕ → Result ℕ Fault
section_len at header = total_in at header (section_order at header)

-- draft-ietf-opsawg-pcap, 5: 16 octets and the captured length, which is at 8; over 262,144 are not
-- read. That one of no octets is no packet where that had none, by the length at 12, is this
-- project's own: it is what a full disk leaves. With `to_cut` the capture ends there, at a record
-- without a length.
abbrev pub record_len : (to_cut : Bool) → Order → ℕ → List ℕ → Result ℕ Fault
record_len to_cut order at header =
    let captured : ℕ = number_at order 4 header 8 in
    if nat_lt 262144 captured then Err (faults.BadLength at)
    else if captured == 0 && number_at order 4 header 12 == 0
    then (if to_cut then Ok 0 else Err (faults.BadLength at)) else Ok (16 + captured)

-- draft-ietf-opsawg-pcap, 4; draft-ietf-opsawg-pcapng, 4.1: the first block, by its magic number
abbrev pub first_len : ℕ → List ℕ → Option Order → Result ℕ Fault
first_len at header (Some order) = Ok 24
first_len at header None = if is_section header then section_len at header
    else Err faults.NotCapture

abbrev pub layout_len : (to_cut : Bool) → Layout → ℕ → List ℕ → Result ℕ Fault
layout_len to_cut layouts.Start at header = first_len at header (pcap_order header)
layout_len to_cut (layouts.Pcap order) at header = record_len to_cut order at header
layout_len to_cut (layouts.Section order) at header = if is_section header
    then section_len at header else total_len 12 order at header

-- how many octets tell a block's length
abbrev pub header_len : Layout → ℕ
header_len layouts.Start = 24
header_len (layouts.Pcap order) = 16
header_len (layouts.Section order) = 12

abbrev pub len_within : ℕ → ℕ → Result ℕ Fault → Result ℕ Fault
len_within limit at (Err fault) = Err fault
len_within limit at (Ok len) = if nat_lt (limit - at) len then Err (faults.TooLong at) else Ok len

-- the length of the block that begins with this header, at this offset; 0 where what is read ends
abbrev pub block_len : Before → ℕ → List ℕ → Result ℕ Fault
block_len before at header =
    len_within before.limit at (layout_len before.to_cut before.layout at header)
