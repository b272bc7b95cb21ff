-- A pcap file is read as the packets of its records.
use Rattle.std.proofs.Common.{◌≡◌, ℕ, ◌+◌, ◌-◌, ◌*◌, ◌%◌, ◌^◌, ◌<◌, ◌≤◌, ◌⊎◌, inl, inr, false, List, [], ◌∷◌, ◌++◌, length, take, drop, refl, sym, ap, subst, ◌∙◌, length-append, arith, nat_lt}
use Rattle.std.proofs.Math.Seq.{drop-append_seam}
use Rattle.std.proofs.lemmas.List.{take_all}
use Rattle.std.proofs.lemmas.Bool.Decides.{nat_tests}
use Rattle.std.specs.Prelude.{Contains, None, Some, Ok, map, slice_range, Bool, true, pos, ◌==◌, ◌&&◌, if◌then◌else◌}
use Rattle.std.specs.List.{All, flat_map}
use Rattle.std.proofs.lemmas.List.Elements.{All-head, All-tail}
use Rattle.byteorder.specs.Endian.{big_bytes, big_number, little_bytes, little_number}
use Rattle.byteorder.specs.Numbers.{big_number-reads_back, little_number-reads_back}
use Rattle.babel_capture.specs.declared.clock.Resolution.TheVariants as resolutions
use Rattle.babel_capture.specs.declared.layout.Interface.{Interface}
use Rattle.babel_capture.specs.declared.layout.Layout.TheVariants as layouts
use Rattle.babel_capture.specs.declared.link.Link.{Link}
use Rattle.babel_capture.specs.declared.order.Order.{Order}
use Rattle.babel_capture.specs.declared.order.Order.TheVariants as orders
use Rattle.babel_capture.specs.Blocks.{BlockAt, AreBlocks, IsBlock, context_behind, octets_of, start}
use Rattle.babel_capture.specs.Contents.{Captured, file, holds, block_said, pcap_clock}
use Rattle.babel_capture.specs.Context.{Before}
use Rattle.babel_capture.specs.Lengths.{block_len, pcap_order}
use Rattle.babel_capture.specs.Link.{link_of}
use Rattle.babel_capture.specs.Numbers.{number_at}
use Rattle.babel_capture.specs.Reading.{HasStarted}
use Rattle.babel_capture.specs.Times.{moment_of}
use Rattle.babel_capture.specs.Capture.{IsRead}
use Rattle.babel_capture.specs.Gathering.{Gathering}
use Rattle.babel_capture.proofs.NumberLaws.{rest_is}
use Rattle.babel_capture.proofs.OneCapture.{blocks_one, some_header}
use Rattle.babel_capture.specs.PcapFiles.{record_moment, written, PcapRecord, record_octets, PcapFile, header_octets, pcap_octets, IsPcapRecord, IsPcap, packets_in, packets_of, held_in, IsReadAs}
use Rattle.babel_capture.specs.declared.window.Window.TheVariants as windows
use Rattle.babel_capture.specs.Window.{Extent, all_times}

-- what was written is read back
pub written-long : (order : Order) (number : ℕ) → length (written order 4 number) ≡ 4
written-long orders.Big number = refl
written-long orders.Little number = refl

pub written-back : (order : Order) (count number : ℕ) (before after : List ℕ) → number < 256 ^ count
    → number_at order count (before ++ (written order count number ++ after)) (length before) ≡ number
unfolding number_at
written-back orders.Big count number before after fits = ap (big_number count) (drop-append_seam before (big_bytes count number ++ after)) ∙ big_number-reads_back count number after fits
written-back orders.Little count number before after fits = ap (little_number count) (drop-append_seam before (little_bytes count number ++ after))
    ∙ little_number-reads_back count number after fits

-- ---- a record

record_long : (order : Order) (packet : PcapRecord) → length (record_octets order packet) ≡ 16 + length packet.frame
record_long orders.Big packet = omega arith
record_long orders.Little packet = omega arith

at_captured : (order : Order) (packet : PcapRecord) → IsPcapRecord packet → number_at order 4 (record_octets order packet) 8 ≡ length packet.frame
at_captured orders.Big packet is =
    written-back orders.Big 4 (length packet.frame) (big_bytes 4 packet.seconds ++ big_bytes 4 packet.fraction) (big_bytes 4 packet.whole_len ++ packet.frame) (let few = is.few in omega arith)
at_captured orders.Little packet is =
    written-back orders.Little 4 (length packet.frame) (little_bytes 4 packet.seconds ++ little_bytes 4 packet.fraction) (little_bytes 4 packet.whole_len ++ packet.frame)
    (let few = is.few in omega arith)

at_whole : (order : Order) (packet : PcapRecord) → IsPcapRecord packet → number_at order 4 (record_octets order packet) 12 ≡ packet.whole_len
at_whole orders.Big packet is =
    written-back orders.Big 4 packet.whole_len (big_bytes 4 packet.seconds ++ big_bytes 4 packet.fraction ++ big_bytes 4 (length packet.frame)) packet.frame is.len_fits
at_whole orders.Little packet is =
    written-back orders.Little 4 packet.whole_len (little_bytes 4 packet.seconds ++ little_bytes 4 packet.fraction ++ little_bytes 4 (length packet.frame)) packet.frame is.len_fits

-- its header alone
at_captured_front : (order : Order) (packet : PcapRecord) → IsPcapRecord packet → number_at order 4 (take 16 (record_octets order packet)) 8 ≡ length packet.frame
at_captured_front orders.Big packet is =
    written-back orders.Big 4 (length packet.frame) (big_bytes 4 packet.seconds ++ big_bytes 4 packet.fraction) (big_bytes 4 packet.whole_len ++ []) (let few = is.few in omega arith)
at_captured_front orders.Little packet is =
    written-back orders.Little 4 (length packet.frame) (little_bytes 4 packet.seconds ++ little_bytes 4 packet.fraction) (little_bytes 4 packet.whole_len ++ []) (let few = is.few in omega arith)

at_whole_front : (order : Order) (packet : PcapRecord) → IsPcapRecord packet → number_at order 4 (take 16 (record_octets order packet)) 12 ≡ packet.whole_len
at_whole_front orders.Big packet is =
    written-back orders.Big 4 packet.whole_len (big_bytes 4 packet.seconds ++ big_bytes 4 packet.fraction ++ big_bytes 4 (length packet.frame)) [] is.len_fits
at_whole_front orders.Little packet is =
    written-back orders.Little 4 packet.whole_len (little_bytes 4 packet.seconds ++ little_bytes 4 packet.fraction ++ little_bytes 4 (length packet.frame)) [] is.len_fits

-- a packet had octets
none_blank : (kept whole : ℕ) → 0 < kept + whole → (kept == 0 && whole == 0) ≡ false
none_blank kept whole some = by (kept == 0) (whole == 0) refl refl
  where
    by : (b c : Bool) → (kept == 0) ≡ b → (whole == 0) ≡ c → (b && c) ≡ false
    by false c no_octets had_none = refl
    by true false no_octets had_none = refl
    by true true no_octets had_none =
        (let kept_none : kept ≡ 0 = grind (arith, nat_tests) in let whole_none : whole ≡ 0 = grind (arith, nat_tests) in absurd (omega (arith, some)))

at_seconds : (order : Order) (packet : PcapRecord) → IsPcapRecord packet → number_at order 4 (record_octets order packet) 0 ≡ packet.seconds
at_seconds order packet is =
    written-back order 4 packet.seconds [] (written order 4 packet.fraction ++ (written order 4 (length packet.frame) ++ (written order 4 packet.whole_len ++ packet.frame))) is.seconds_fit

at_fraction : (order : Order) (packet : PcapRecord) → IsPcapRecord packet → number_at order 4 (record_octets order packet) 4 ≡ packet.fraction
at_fraction orders.Big packet is =
    written-back orders.Big 4 packet.fraction (big_bytes 4 packet.seconds) (big_bytes 4 (length packet.frame) ++ (big_bytes 4 packet.whole_len ++ packet.frame)) is.fraction_fits
at_fraction orders.Little packet is =
    written-back orders.Little 4 packet.fraction (little_bytes 4 packet.seconds) (little_bytes 4 (length packet.frame) ++ (little_bytes 4 packet.whole_len ++ packet.frame)) is.fraction_fits

-- its time
moment_by : (is_nano : Bool) (seconds fraction : ℕ)
    → moment_of (record { resolution = if is_nano then resolutions.Ten 9 else resolutions.Ten 6; offset = pos 0 }) (record { seconds = seconds; units = fraction })
    ≡ pos (seconds * 1000000000 + fraction * (if is_nano then 1 else 1000))
moment_by true seconds fraction = ap pos (omega arith)
moment_by false seconds fraction = ap pos (omega arith)

frame_of : (order : Order) (packet : PcapRecord) → drop 16 (record_octets order packet) ≡ packet.frame
frame_of orders.Big packet = refl
frame_of orders.Little packet = refl

-- what follows the header of a file
abbrev interface_in : PcapFile → Interface
interface_in pcap = record { link = pcap.link_number; snap_len = pcap.snap_len; clock = pcap_clock pcap.magic }

abbrev behind : PcapFile → ℕ → Before
behind pcap limit = record { limit = limit; layout = layouts.Pcap pcap.order; first = 0; interfaces = interface_in pcap ∷ []; window = windows.Whole; start = None; to_cut = false }

abbrev captured_in : PcapFile → Link → PcapRecord → Captured
captured_in pcap link packet = record { interface = 0; section = 0; link = link; moment = Some (record_moment pcap.magic packet); frame = packet.frame; whole_len = packet.whole_len; ends_within = true }

abbrev block_in : PcapFile → Link → ℕ → PcapRecord → BlockAt
block_in pcap link at packet = record { at = at; octets = record_octets pcap.order packet; content = holds (captured_in pcap link packet) }

module _ (pcap : PcapFile) (link : Link) (limit : ℕ) (is_link : link_of pcap.link_number ≡ Some link) where
  record_is : (at : ℕ) (packet : PcapRecord) → IsPcapRecord packet → at + length (record_octets pcap.order packet) ≤ limit → IsBlock (behind pcap limit) at (record_octets pcap.order packet)
  record_is at packet is fits =
      let octets = record_octets pcap.order packet in
      let long = record_long pcap.order packet in
      let few = is.few in
      let captured : number_at pcap.order 4 (take 16 octets) 8 ≡ length packet.frame = at_captured_front pcap.order packet is in
      let allowed : nat_lt 262144 (length packet.frame) ≡ false = grind (arith, nat_tests) in
      let within : nat_lt (limit - at) (16 + length packet.frame) ≡ false = grind (arith, nat_tests) in
      let whole : number_at pcap.order 4 (take 16 octets) 12 ≡ packet.whole_len = at_whole_front pcap.order packet is in
      let not_blank : (length packet.frame == 0 && packet.whole_len == 0) ≡ false = none_blank (length packet.frame) packet.whole_len is.some in
      let len : block_len (behind pcap limit) at (take 16 octets) ≡ Ok (16 + length packet.frame) = rw (captured, whole, allowed, not_blank, within) refl in
      record { header = omega (arith, long); len = len ∙ ap Ok (sym long) }

  record_says : (at : ℕ) (packet : PcapRecord) → IsPcapRecord packet → block_said (behind pcap limit) at (record_octets pcap.order packet) ≡ Ok (holds (captured_in pcap link packet))
  unfolding block_said
  record_says at packet is =
      let octets = record_octets pcap.order packet in
      let whole : number_at pcap.order 4 octets 12 ≡ packet.whole_len = at_whole pcap.order packet is in
      let frame : slice_range octets 16 (length octets) ≡ packet.frame = rest_is 16 octets ∙ frame_of pcap.order packet in
      let seconds : number_at pcap.order 4 octets 0 ≡ packet.seconds = at_seconds pcap.order packet is in
      let fraction : number_at pcap.order 4 octets 4 ≡ packet.fraction = at_fraction pcap.order packet is in
      let moment = moment_by (pcap.magic == 0xa1b23c4d) packet.seconds packet.fraction in
      rw (whole, frame, seconds, fraction, is_link, moment) refl

  blocks_in : ℕ → List PcapRecord → List BlockAt
  blocks_in at [] = []
  blocks_in at (packet ∷ packets) = block_in pcap link at packet ∷ blocks_in (at + length (record_octets pcap.order packet)) packets

  records_are : (at : ℕ) (packets : List PcapRecord) → All IsPcapRecord packets → at + length (flat_map (record_octets pcap.order) packets) ≤ limit → AreBlocks (behind pcap limit) at
      (blocks_in at packets)
  unfolding blocks_in
  records_are at [] are fits = tt
  records_are at (packet ∷ packets) are fits =
      let octets = record_octets pcap.order packet in
      let long = length-append octets (flat_map (record_octets pcap.order) packets) in
      let is = All-head IsPcapRecord packet packets are in (
        refl,
        record_is at packet is (omega (arith, long)),
        record_says at packet is,
        records_are (at + length octets) packets (All-tail IsPcapRecord packet packets are) (omega (arith, long)),
      )

  records_octets : (at : ℕ) (packets : List PcapRecord) → flat_map (record_octets pcap.order) packets ≡ octets_of (blocks_in at packets)
  unfolding blocks_in
  records_octets at [] = refl
  records_octets at (packet ∷ packets) = ap (λ (rest : List ℕ). record_octets pcap.order packet ++ rest) (records_octets (at + length (record_octets pcap.order packet)) packets)

  records_hold : (at : ℕ) (packets : List PcapRecord) → flat_map (λ (block : BlockAt). held_in block.content) (blocks_in at packets) ≡ map (captured_in pcap link) packets
  unfolding blocks_in
  records_hold at [] = refl
  records_hold at (packet ∷ packets) = ap (λ (rest : List Captured). captured_in pcap link packet ∷ rest) (records_hold (at + length (record_octets pcap.order packet)) packets)

  records_stay : (at : ℕ) (packets : List PcapRecord) → context_behind (behind pcap limit) (blocks_in at packets) ≡ behind pcap limit
  unfolding blocks_in
  records_stay at [] = refl
  records_stay at (packet ∷ packets) = records_stay (at + length (record_octets pcap.order packet)) packets

-- ---- the header of a file

magic_of : (magic : ℕ) → Contains (0xa1b2c3d4 ∷ 0xa1b23c4d ∷ []) magic → (magic ≡ 0xa1b2c3d4) ⊎ (magic ≡ 0xa1b23c4d)
magic_of magic one = grind (arith, one)

magic_fits : (magic : ℕ) → (magic ≡ 0xa1b2c3d4) ⊎ (magic ≡ 0xa1b23c4d) → magic < 2 ^ 32
magic_fits magic (inl is) = omega (arith, is)
magic_fits magic (inr is) = omega (arith, is)

order_told : (order : Order) (magic : ℕ) (after : List ℕ) → (magic ≡ 0xa1b2c3d4) ⊎ (magic ≡ 0xa1b23c4d) → pcap_order (written order 4 magic ++ after) ≡ Some order
unfolding number_at
order_told orders.Big magic after (inl is) = rw is refl
order_told orders.Big magic after (inr is) = rw is refl
order_told orders.Little magic after (inl is) = rw is refl
order_told orders.Little magic after (inr is) = rw is refl

abbrev past_magic : Order → ℕ → ℕ → ℕ → ℕ → List ℕ
past_magic order reserved too snap bits = written order 2 2 ++ (written order 2 4 ++ (written order 4 reserved ++ (written order 4 too ++ (written order 4 snap ++ written order 4 bits))))

abbrev header_by : Order → ℕ → ℕ → ℕ → ℕ → ℕ → List ℕ
header_by order magic reserved too snap bits = written order 4 magic ++ past_magic order reserved too snap bits

header_long : (order : Order) (magic reserved too snap bits : ℕ) → length (header_by order magic reserved too snap bits) ≡ 24
header_long orders.Big magic reserved too snap bits = refl
header_long orders.Little magic reserved too snap bits = refl

fields : (order : Order) (magic reserved too snap bits : ℕ) → snap < 2 ^ 32 → bits < 2 ^ 32
    → (number_at order 2 (header_by order magic reserved too snap bits) 4 ≡ 2) × (number_at order 2 (header_by order magic reserved too snap bits) 6 ≡ 4)
    × (number_at order 4 (header_by order magic reserved too snap bits) 16 ≡ snap) × (number_at order 4 (header_by order magic reserved too snap bits) 20 ≡ bits)
fields orders.Big magic reserved too snap bits snap_fits bits_fit =
    let last = big_bytes 4 reserved ++ (big_bytes 4 too ++ (big_bytes 4 snap ++ big_bytes 4 bits)) in
    let front = big_bytes 4 magic ++ (big_bytes 2 2 ++ (big_bytes 2 4 ++ (big_bytes 4 reserved ++ big_bytes 4 too))) in (
      written-back orders.Big 2 2 (big_bytes 4 magic) (big_bytes 2 4 ++ last) (omega arith),
      written-back orders.Big 2 4 (big_bytes 4 magic ++ big_bytes 2 2) last (omega arith),
      written-back orders.Big 4 snap front (big_bytes 4 bits) snap_fits,
      written-back orders.Big 4 bits (front ++ big_bytes 4 snap) [] bits_fit,
    )
fields orders.Little magic reserved too snap bits snap_fits bits_fit =
    let last = little_bytes 4 reserved ++ (little_bytes 4 too ++ (little_bytes 4 snap ++ little_bytes 4 bits)) in
    let front = little_bytes 4 magic ++ (little_bytes 2 2 ++ (little_bytes 2 4 ++ (little_bytes 4 reserved ++ little_bytes 4 too))) in (
      written-back orders.Little 2 2 (little_bytes 4 magic) (little_bytes 2 4 ++ last) (omega arith),
      written-back orders.Little 2 4 (little_bytes 4 magic ++ little_bytes 2 2) last (omega arith),
      written-back orders.Little 4 snap front (little_bytes 4 bits) snap_fits,
      written-back orders.Little 4 bits (front ++ little_bytes 4 snap) [] bits_fit,
    )

header_order : (pcap : PcapFile) (link : Link) → IsPcap pcap link → pcap_order (header_octets pcap) ≡ Some pcap.order
header_order pcap link is =
    order_told pcap.order pcap.magic (past_magic pcap.order pcap.reserved pcap.reserved_too pcap.snap_len (pcap.other_bits * 2 ^ 16 + pcap.link_number)) (magic_of pcap.magic is.is_magic)

header_is : (pcap : PcapFile) (link : Link) (limit : ℕ) → IsPcap pcap link → 24 ≤ limit → IsBlock (start (all_times limit)) 0 (header_octets pcap)
header_is pcap link limit is fits =
    let octets = header_octets pcap in
    let long : length octets ≡ 24 = header_long pcap.order pcap.magic pcap.reserved pcap.reserved_too pcap.snap_len (pcap.other_bits * 2 ^ 16 + pcap.link_number) in
    let all : take 24 octets ≡ octets = take_all 24 octets (omega (arith, long)) in
    let order : pcap_order octets ≡ Some pcap.order = header_order pcap link is in
    let within : nat_lt (limit - 0) 24 ≡ false = grind (arith, nat_tests) in
    let len : block_len (start (all_times limit)) 0 (take 24 octets) ≡ Ok 24 = rw (all, order, within) refl in
    record { header = omega (arith, long); len = len ∙ ap Ok (sym long) }

header_says : (pcap : PcapFile) (link : Link) (limit : ℕ) → IsPcap pcap link
    → block_said (start (all_times limit)) 0 (header_octets pcap) ≡ Ok (file pcap.order (interface_in pcap))
unfolding block_said
header_says pcap link limit is =
    let octets = header_octets pcap in
    let bits = pcap.other_bits * 2 ^ 16 + pcap.link_number in
    let bits_fit = is.bits_fit in
    let link_fits = is.link_fits in
    let order : pcap_order octets ≡ Some pcap.order = header_order pcap link is in
    let field = fields pcap.order pcap.magic pcap.reserved pcap.reserved_too pcap.snap_len bits is.snap_fits (omega arith) in
    let number : bits % 65536 ≡ pcap.link_number = omega arith in
    let magic : number_at pcap.order 4 octets 0 ≡ pcap.magic =
    written-back pcap.order 4 pcap.magic [] (past_magic pcap.order pcap.reserved pcap.reserved_too pcap.snap_len bits) (magic_fits pcap.magic (magic_of pcap.magic is.is_magic)) in
    rw (order, field.0, field.1, field.2, field.3, number, magic) refl

pub pcap_is_read : (limit : ℕ) (pcap : PcapFile) (link : Link) → IsPcap pcap link → length (pcap_octets pcap) ≤ limit → IsReadAs (all_times limit) (pcap_octets pcap) (packets_in pcap link)
pcap_is_read limit pcap link is fits =
    let header = header_octets pcap in
    let later = flat_map (record_octets pcap.order) pcap.records in
    let blocks = blocks_in pcap link limit is.is_link (0 + length header) pcap.records in
    let long : length header ≡ 24 = header_long pcap.order pcap.magic pcap.reserved pcap.reserved_too pcap.snap_len (pcap.other_bits * 2 ^ 16 + pcap.link_number) in
    let count = length-append header later in
    let first : BlockAt = record { at = 0; octets = header; content = file pcap.order (interface_in pcap) } in
    record {
      blocks = first ∷ blocks;
      whole = ap (λ (rest : List ℕ). header ++ rest) (records_octets pcap link limit is.is_link (0 + length header) pcap.records);
      are_blocks = (
        refl,
        header_is pcap link limit is (omega (arith, long, count)),
        header_says pcap link limit is,
        records_are pcap link limit is.is_link (0 + length header) pcap.records is.are_records (omega (arith, count)),
      );
      started = subst HasStarted (sym (records_stay pcap link limit is.is_link (0 + length header) pcap.records)) tt;
      held = records_hold pcap link limit is.is_link (0 + length header) pcap.records;
    }

pub packets_are_one : (limit : Extent) (octets : List ℕ) (packets : List Captured) (gathering : Gathering) → IsReadAs limit octets packets → (read : IsRead limit octets gathering)
    → packets_of read.blocks ≡ packets
packets_are_one limit octets packets gathering is read =
    let same = (blocks_one (start limit) 0 is.blocks read.blocks [] [] is.are_blocks read.are_blocks (ap (λ (t : List ℕ). t ++ []) (sym is.whole ∙ read.whole))
    (inl (some_header (context_behind (start limit) is.blocks).layout)) (inl (some_header (context_behind (start limit) read.blocks).layout))).0 in
    ap packets_of (sym same) ∙ is.held
