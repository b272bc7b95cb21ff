-- pcap files, as they are laid out, and what they are read as: draft-ietf-opsawg-pcap, 4 and 5.
use Rattle.std.specs.Prelude.{◌≡◌, ℕ, ◌+◌, ◌*◌, ◌^◌, ◌<◌, ◌≤◌, List, [], ◌∷◌, ◌++◌, length, map}
use Rattle.std.specs.Prelude.{Contains, Some, ℤ, pos, ◌==◌, if◌then◌else◌, true}
use Rattle.std.specs.List.{All, flat_map}
use Rattle.byteorder.specs.Endian.{big_bytes, little_bytes}
use Rattle.babel_capture.specs.declared.link.Link.{Link}
use Rattle.babel_capture.specs.declared.order.Order.{Order}
use Rattle.babel_capture.specs.declared.order.Order.TheVariants as orders
use Rattle.babel_capture.specs.Blocks.{BlockAt, AreBlocks, context_behind, octets_of, start}
use Rattle.babel_capture.specs.Contents.{Captured, Content, file, section, describes, holds}
use Rattle.babel_capture.specs.Contents.{skips, nothing}
use Rattle.babel_capture.specs.Link.{link_of}
use Rattle.babel_capture.specs.Reading.{HasStarted}
use Rattle.babel_capture.specs.Window.{Extent}

-- a number in so many octets, in a file of this byte order
abbrev pub written : Order → ℕ → ℕ → List ℕ
written orders.Big count number = big_bytes count number
written orders.Little count number = little_bytes count number

-- draft-ietf-opsawg-pcap, 5: a record: seconds, and micro- or nanoseconds; how many octets the
-- packet had, and those that were kept
pub record PcapRecord : Type 0 where
  pub seconds : ℕ
  pub fraction : ℕ
  pub whole_len : ℕ
  pub frame : List ℕ

abbrev pub record_octets : Order → PcapRecord → List ℕ
record_octets order packet =
    written order 4 packet.seconds ++ (written order 4 packet.fraction
    ++ (written order 4 (length packet.frame) ++ (written order 4 packet.whole_len
    ++ packet.frame)))

-- draft-ietf-opsawg-pcap, 4: the header: byte order, magic number, two reserved numbers, the most
-- octets that are kept of a packet, and the link type, with other bits above it; and the records
pub record PcapFile : Type 0 where
  pub order : Order
  pub magic : ℕ
  pub reserved : ℕ
  pub reserved_too : ℕ
  pub snap_len : ℕ
  pub other_bits : ℕ
  pub link_number : ℕ
  pub records : List PcapRecord

abbrev pub header_octets : PcapFile → List ℕ
header_octets pcap =
    written pcap.order 4 pcap.magic ++ (written pcap.order 2 2 ++ (written pcap.order 2 4
    ++ (written pcap.order 4 pcap.reserved ++ (written pcap.order 4 pcap.reserved_too
    ++ (written pcap.order 4 pcap.snap_len
    ++ written pcap.order 4 (pcap.other_bits * 2 ^ 16 + pcap.link_number))))))

abbrev pub pcap_octets : PcapFile → List ℕ
pcap_octets pcap = header_octets pcap ++ flat_map (record_octets pcap.order) pcap.records

-- numbers fit their fields, a packet had octets, and at most 262,144 of them are kept
pub record IsPcapRecord (packet : PcapRecord) : Type 0 where
  pub seconds_fit : packet.seconds < 2 ^ 32
  pub fraction_fits : packet.fraction < 2 ^ 32
  pub len_fits : packet.whole_len < 2 ^ 32
  pub few : length packet.frame ≤ 262144
  pub some : 0 < length packet.frame + packet.whole_len

-- the magic number is that of microseconds or of nanoseconds; numbers fit their fields; and the
-- link type is one that is read
pub record IsPcap (pcap : PcapFile) (link : Link) : Type 0 where
  pub is_magic : Contains (0xa1b2c3d4 ∷ 0xa1b23c4d ∷ []) pcap.magic
  pub snap_fits : pcap.snap_len < 2 ^ 32
  pub bits_fit : pcap.other_bits < 2 ^ 16
  pub link_fits : pcap.link_number < 2 ^ 16
  pub is_link : link_of pcap.link_number ≡ Some link
  pub are_records : All IsPcapRecord pcap.records

-- its time in nanoseconds since the start of 1970
abbrev pub record_moment : ℕ → PcapRecord → ℤ
record_moment magic packet =
    pos (packet.seconds * 1000000000
    + packet.fraction * (if magic == 0xa1b23c4d then 1 else 1000))

-- the packets of its one interface
abbrev pub packets_in : PcapFile → Link → List Captured
packets_in pcap link = map (λ packet. record {
  interface = 0;
  section = 0;
  link = link;
  moment = Some (record_moment pcap.magic packet);
  frame = packet.frame;
  whole_len = packet.whole_len;
  ends_within = true;
}) pcap.records

-- the octets are a capture, whole blocks to the last, which hold exactly these packets
abbrev pub held_in : Content → List Captured
held_in (file order interface) = []
held_in (section order) = []
held_in (describes interface name) = []
held_in (holds packet) = packet ∷ []
held_in (skips packet) = []
held_in nothing = []

abbrev pub packets_of : List BlockAt → List Captured
packets_of blocks = flat_map (λ block. held_in block.content) blocks

pub record IsReadAs (limit : Extent) (octets : List ℕ) (packets : List Captured) : Type 0 where
  pub blocks : List BlockAt
  pub whole : octets ≡ octets_of blocks
  pub are_blocks : AreBlocks (start limit) 0 blocks
  pub started : HasStarted (context_behind (start limit) blocks)
  pub held : packets_of blocks ≡ packets
