-- pcapng files, as they are laid out, and what they are read as: draft-ietf-opsawg-pcapng, 3.1 and
-- 4.1 to 4.4.
use Rattle.std.specs.Prelude.{◌≡◌, ◌≢◌, ℕ, ◌+◌, ◌%◌, ◌^◌, ◌<◌, ◌≤◌, ◌⊎◌, List, [], ◌∷◌, ◌++◌}
use Rattle.std.specs.Prelude.{◌*◌, length, slice_get, true, false, Option, None, Some, ℤ}
use Rattle.babel_capture.specs.declared.clock.Stamp.{Stamp}
use Rattle.babel_capture.specs.declared.layout.Interface.{Interface}
use Rattle.babel_capture.specs.declared.link.Link.{Link}
use Rattle.babel_capture.specs.declared.order.Order.{Order}
use Rattle.babel_capture.specs.Contents.{Captured, clock_in, kept_len}
use Rattle.babel_capture.specs.Link.{link_of}
use Rattle.babel_capture.specs.Options.{Options, all_options}
use Rattle.babel_capture.specs.PcapFiles.{written}
use Rattle.babel_capture.specs.Times.{moment_in}

-- 3.1: a block of this type: its type, its length, what it holds, and its length again
abbrev pub block_octets : Order → ℕ → List ℕ → List ℕ
block_octets order kind body =
    let total : ℕ = 12 + length body in
    written order 4 kind ++ (written order 4 total ++ (body ++ written order 4 total))

-- 4.1: the minor version, eight octets of the section's length, and options
pub record SectionHeader : Type 0 where
  pub minor : ℕ
  pub len : List ℕ
  pub options : List ℕ

abbrev pub section_body : Order → SectionHeader → List ℕ
section_body order head =
    written order 4 0x1a2b3c4d ++ (written order 2 1 ++ (written order 2 head.minor
    ++ (head.len ++ head.options)))

-- 4.2, 4.3, 4.4: a description of an interface: link type, a reserved number, the most octets that
-- are kept of a packet, and options; an enhanced packet: the interface, two numbers of its time,
-- how many octets it had, those that were kept, and padding and options; the packet block that it
-- replaced, with the number of drops beside that of the interface; a simple packet; a block of
-- another type; or the header of a section, in the section's byte order
pub data PcapngBlock : Type 0 where
  described : (link_number reserved snap_len : ℕ) (options : List ℕ) → PcapngBlock
  enhanced : (number high low whole_len : ℕ) (frame more : List ℕ) → PcapngBlock
  old : (number drops high low whole_len : ℕ) (frame more : List ℕ) → PcapngBlock
  simple : (whole_len : ℕ) (frame padding : List ℕ) → PcapngBlock
  another : (kind : ℕ) (body : List ℕ) → PcapngBlock
  begins : (order : Order) (head : SectionHeader) → PcapngBlock

-- the byte order of a block, and of those after it
abbrev pub order_in : Order → PcapngBlock → Order
order_in order (begins next head) = next
order_in order block = order

abbrev pub kind_of : PcapngBlock → ℕ
kind_of (described link_number reserved snap_len options) = 1
kind_of (enhanced number high low whole_len frame more) = 6
kind_of (old number drops high low whole_len frame more) = 2
kind_of (simple whole_len frame padding) = 3
kind_of (another kind body) = kind
kind_of (begins order head) = 0x0a0d0d0a

abbrev pub body_of : Order → PcapngBlock → List ℕ
body_of order (described link_number reserved snap_len options) =
    written order 2 link_number ++ (written order 2 reserved
    ++ (written order 4 snap_len ++ options))
body_of order (enhanced number high low whole_len frame more) =
    written order 4 number ++ (written order 4 high ++ (written order 4 low
    ++ (written order 4 (length frame) ++ (written order 4 whole_len ++ (frame ++ more)))))
body_of order (old number drops high low whole_len frame more) =
    written order 2 number ++ (written order 2 drops ++ (written order 4 high
    ++ (written order 4 low ++ (written order 4 (length frame) ++ (written order 4 whole_len
    ++ (frame ++ more))))))
body_of order (simple whole_len frame padding) = written order 4 whole_len ++ (frame ++ padding)
body_of order (another kind body) = body
body_of order (begins next head) = section_body next head

abbrev pub octets_in : Order → PcapngBlock → List ℕ
octets_in order block = block_octets (order_in order block) (kind_of block) (body_of order block)

abbrev pub octets_from : Order → List PcapngBlock → List ℕ
octets_from order [] = []
octets_from order (block ∷ blocks) =
    octets_in order block ++ octets_from (order_in order block) blocks

-- the header of the first section, and the blocks after it
abbrev pub pcapng_octets : Order → SectionHeader → List PcapngBlock → List ℕ
pcapng_octets order head blocks = octets_from order (begins order head ∷ blocks)

-- 3.1: what a block holds fills words of four octets, and at most 16 MiB are read of one
pub record Fits (body : List ℕ) : Type 0 where
  pub words : length body % 4 ≡ 0
  pub few : 12 + length body ≤ 16777216

-- a type that is none of those that are read
abbrev pub NoneOf : ℕ → Type 0
NoneOf kind =
    (kind ≢ 0x0a0d0d0a) × (kind ≢ 1) × (kind ≢ 2) × (kind ≢ 3) × (kind ≢ 6)

-- the version is 1.0 or 1.2
pub record IsSection (order : Order) (head : SectionHeader) : Type 0 where
  pub is_minor : (head.minor ≡ 0) ⊎ (head.minor ≡ 2)
  pub len_sized : length head.len ≡ 8
  pub fits : Fits (section_body order head)

abbrev pub packet_at : (first number : ℕ) → Link → Option ℤ → List ℕ → ℕ → Captured
packet_at first number link moment frame whole = record {
  interface = number;
  section = first;
  link = link;
  moment = moment;
  frame = frame;
  whole_len = whole;
  ends_within = true;
}

-- 4.3: the time of a packet, in two halves
abbrev pub halves : ℕ → ℕ → Option Stamp
halves high low = Some (record { seconds = 0; units = high * 2 ^ 32 + low })

-- the first packet is this one, of an interface that was described and a link type that is read,
-- and its time is counted as that interface's are
pub record IsPacket (first : ℕ) (interfaces : List Interface) (number : ℕ) (stamp : Option Stamp)
    (whole_len : ℕ) (frame : List ℕ) (packets later : List Captured) : Type 0 where
  pub len_fits : whole_len < 2 ^ 32
  pub interface : Interface
  pub is_described : slice_get interfaces number ≡ Some interface
  pub link : Link
  pub is_link : link_of interface.link ≡ Some link
  pub is_packet : packets
      ≡ packet_at first number link (moment_in interface.clock stamp) frame whole_len ∷ later

abbrev pub interface_of : ℕ → ℕ → Options → Interface
interface_of link_number snap_len options =
    record { link = link_number; snap_len = snap_len; clock = clock_in options }

-- Blocks, of which each fits, hold these packets, where these interfaces were described before, of
-- which those of this section begin at `first`: the numbers of a block fit their fields; no option
-- of a description runs past it, or has a length that it can't have; a packet is of an interface
-- that was described, by its number in the section, of a link type that is read, and a simple one
-- of the section's first; of a simple one as much is kept as that interface keeps; blocks of other
-- types hold none; and a section has interfaces of its own.
abbrev pub Hold : Order → ℕ → List Interface → List PcapngBlock → List Captured → Type 0
Hold order first interfaces [] packets = packets ≡ []
Hold order first interfaces (described link_number reserved snap_len options ∷ blocks) packets =
    Fits (body_of order (described link_number reserved snap_len options))
    × (link_number < 2 ^ 16) × (snap_len < 2 ^ 32) × (length interfaces < 65536)
    × ((all_options order options).is_bad ≡ false)
    × Hold order first (interfaces ++ interface_of link_number snap_len (all_options order options)
    ∷ []) blocks packets
Hold order first interfaces (enhanced number high low whole_len frame more ∷ blocks) packets =
    Fits (body_of order (enhanced number high low whole_len frame more)) × (number < 2 ^ 32)
    × (high < 2 ^ 32) × (low < 2 ^ 32) × ((later : List Captured)
    × IsPacket first interfaces (first + number) (halves high low) whole_len frame packets later
    × Hold order first interfaces blocks later)
Hold order first interfaces (old number drops high low whole_len frame more ∷ blocks) packets =
    Fits (body_of order (old number drops high low whole_len frame more)) × (number < 2 ^ 16)
    × (high < 2 ^ 32) × (low < 2 ^ 32) × ((later : List Captured)
    × IsPacket first interfaces (first + number) (halves high low) whole_len frame packets later
    × Hold order first interfaces blocks later)
Hold order first interfaces (simple whole_len frame padding ∷ blocks) packets =
    Fits (body_of order (simple whole_len frame padding))
    × ((later : List Captured)
    × (is : IsPacket first interfaces first None whole_len frame packets later)
    × (length frame ≡ kept_len is.interface.snap_len whole_len)
    × Hold order first interfaces blocks later)
Hold order first interfaces (another kind body ∷ blocks) packets =
    Fits body × (kind < 2 ^ 32) × NoneOf kind × Hold order first interfaces blocks packets
Hold order first interfaces (begins next head ∷ blocks) packets =
    IsSection next head × Hold next (length interfaces) interfaces blocks packets
