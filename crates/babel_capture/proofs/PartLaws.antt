-- A fragment that is laid out as the headers say is seen as that fragment.
use Rattle.std.proofs.Common.{◌≡◌, ℕ, zero, suc, ◌+◌, ◌-◌, ◌*◌, ◌^◌, ◌<◌, ◌≤◌, inl, inr, Bool, true, false, List, [], ◌∷◌, ◌++◌, length, take, drop, refl, sym, ap, ◌∙◌, length-append}
use Rattle.std.proofs.Common.{append_assoc, arith, nat_lt, bit_and, not, ◌==◌, ◌&&◌, ◌||◌}
use Rattle.std.proofs.Math.Seq.{drop-append_seam, take-append_seam, take-append-add}
use Rattle.std.proofs.lemmas.Bool.Decides.{nat_tests}
use Rattle.std.proofs.lemmas.Nat.{and_mask}
use Rattle.std.proofs.lemmas.Nat.Bits.{and_high_mask, and_pow}
use Rattle.byteorder.specs.Endian.{big_bytes}
use Rattle.babel_prefix.specs.declared.family.Family.TheVariants.{V4, V6}
use Rattle.babel_capture.specs.declared.link.Link.{Link}
use Rattle.babel_capture.specs.declared.place.Place.{Place}
use Rattle.babel_capture.specs.Frame.{frame_sight}
use Rattle.babel_capture.specs.Headers.{NextHeader, fragment_offset as offset_in, has_more_fragments as more_in, is_atomic, past_header, past_headers}
use Rattle.babel_capture.specs.IpFragments.{IpFragment, fragment_sight}
use Rattle.babel_capture.specs.Ipv4.{ipv4_sight, ipv4_fragment, ipv4_header_len, total_len, fragment_offset, has_more_fragments, is_fragment}
use Rattle.babel_capture.specs.Ipv6.{ipv6_sight, ipv6_fragment, payload_len, first_header}
use Rattle.std.specs.List.{All}
use Rattle.babel_capture.specs.LaidOut.{Extension, IsOptions, Ipv4Header, Ipv6Header, HasOffset, IsIpv4, IsOfSeveral, IsPartHeader, IsPartOverIp, PartHeader}
use Rattle.babel_capture.specs.LaidOut.{extensions_before, first_before, ipv4_header, ipv6_header, part_header}
use Rattle.babel_capture.specs.LinkHeaders.{IsHeader}
use Rattle.babel_capture.specs.Octets.{network_number, ip_version}
use Rattle.babel_capture.proofs.LaidOutLaws.{header_of, in_frame, ipv4_version, ipv6_version, number-back, over_ipv4, over_ipv6, past-options, words_of}

-- a flag, as it is read
flag_is : (flag : ℕ) (bit : ℕ) → flag < 2 → bit ≡ flag * 2 ^ 13 → not (bit == 0) ≡ (flag == 1)
flag_is zero bit low is = grind (arith, nat_tests)
flag_is (suc zero) bit low is = grind (arith, nat_tests)
flag_is (suc (suc n)) bit low is = absurd (omega arith)

low_flag_is : (flag : ℕ) (bit : ℕ) → flag < 2 → bit ≡ flag → not (bit == 0) ≡ (flag == 1)
low_flag_is zero bit low is = grind (arith, nat_tests)
low_flag_is (suc zero) bit low is = grind (arith, nat_tests)
low_flag_is (suc (suc n)) bit low is = absurd (omega arith)

several : (flag units : ℕ) → IsOfSeveral flag units → (not (8 * units == 0) || (flag == 1)) ≡ true
several zero units of = grind (arith, nat_tests)
several (suc zero) units of = grind (arith, nat_tests)
several (suc (suc n)) units of = absurd (omega arith)

-- ---- IPv4

module _ (place : Place) (ip : Ipv4Header) (carried after : List ℕ) (flag units all : ℕ) (fits : IsIpv4 ip (length carried)) (id_fits : ip.id < 2 ^ 16)
    (of_several : IsOfSeveral flag units) (offset : HasOffset flag units ip.flags) (there : 20 + 4 * ip.words + length carried ≤ all) where
  abbrev len : ℕ
  len = length carried

  abbrev octets : List ℕ
  octets = ipv4_header ip len ++ (carried ++ after)

  abbrev part4 : IpFragment
  part4 = record {
    id = record {
      origin = record { place = place; sender = record { family = V4; bits = ip.sender } };
      destination = record { family = V4; bits = ip.destination };
      identification = ip.id;
    };
    offset = 8 * units;
    more = flag == 1;
    is_cut = false;
    carried = record { number = 17; octets = carried; whole = len; in_fragment = true };
  }

  ipv4_part : ipv4_sight place octets all ≡ fragment_sight part4
  unfolding ipv4_sight
  ipv4_part =
      let front = ipv4_header ip len in
      let words = ip.words in
      let header = 20 + 4 * words in
      let total = header + len in
      let few = fits.words_fit in
      let low = of_several.0 in
      let start = (4 * 2 ^ 4 + (5 + words)) ∷ ip.service ∷ [] in
      let to_id = start ++ big_bytes 2 total in
      let to_flags = to_id ++ big_bytes 2 ip.id in
      let to_sender = to_flags ++ big_bytes 2 ip.flags ++ ip.ttl ∷ 17 ∷ big_bytes 2 ip.checksum in
      let to_destination = to_sender ++ big_bytes 4 ip.sender in
      let behind = ip.options ++ (carried ++ after) in
      let after_flags = ip.ttl ∷ 17 ∷ big_bytes 2 ip.checksum ++ big_bytes 4 ip.sender ++ big_bytes 4 ip.destination ++ behind in
      let flags_fit : ip.flags < 2 ^ 16 = omega (arith, low, offset.bits_fit, offset.units_fit, offset.are_flags) in
      let at_header : ipv4_header_len octets ≡ header = ap (λ (n : ℕ). 4 * n) (words_of words few) ∙ omega arith in
      let at_total : total_len octets ≡ total = number-back start 2 total (big_bytes 2 ip.id ++ big_bytes 2 ip.flags ++ after_flags) fits.len_fits in
      let at_id : network_number 4 2 octets ≡ ip.id = number-back to_id 2 ip.id (big_bytes 2 ip.flags ++ after_flags) id_fits in
      let at_flags : network_number 6 2 octets ≡ ip.flags = number-back to_flags 2 ip.flags after_flags flags_fit in
      let at_sender : network_number 12 4 octets ≡ ip.sender = number-back to_sender 4 ip.sender (big_bytes 4 ip.destination ++ behind) fits.sender_fits in
      let at_destination : network_number 16 4 octets ≡ ip.destination = number-back to_destination 4 ip.destination behind fits.destination_fits in
      let masked : bit_and ip.flags 0x1fff ≡ units = and_mask ip.flags 13 ∙ omega (arith, offset.units_fit, offset.are_flags) in
      let bit : bit_and ip.flags 0x2000 ≡ flag * 2 ^ 13 = and_pow ip.flags 13 ∙ omega (arith, low, offset.units_fit, offset.are_flags) in
      let offset_is : fragment_offset octets ≡ 8 * units = ap (λ (n : ℕ). 8 * bit_and n 0x1fff) at_flags ∙ ap (λ (n : ℕ). 8 * n) masked in
      let more_is : has_more_fragments octets ≡ (flag == 1) = ap (λ (n : ℕ). not (bit_and n 0x2000 == 0)) at_flags ∙ flag_is flag (bit_and ip.flags 0x2000) low bit in
      let is : is_fragment octets ≡ true = rw (offset_is, more_is) (several flag units of_several) in
      let front_len : length front ≡ header = omega (arith, fits.options_len) in
      let taken : take total octets ≡ front ++ carried = ap (λ (n : ℕ). take (n + len) octets) (sym front_len) ∙ take-append-add front (carried ++ after) len
      ∙ ap (λ (c : List ℕ). front ++ c) (take-append_seam carried after) in
      let kept : drop header (take total octets) ≡ carried = ap (drop header) taken ∙ ap (λ (n : ℕ). drop n (front ++ carried)) (sym front_len) ∙ drop-append_seam front carried in
      let some : nat_lt (length octets) 1 ≡ false = grind (arith, nat_tests) in
      let is_ip : not (ip_version octets == 4) ≡ false = rw (ipv4_version ip len (carried ++ after) few) refl in
      let long_header : nat_lt header 20 ≡ false = grind (arith, nat_tests) in
      let header_fits : nat_lt (ipv4_header_len octets) 20 ≡ false = rw at_header long_header in
      let protocol_kept : nat_lt (length octets) 10 ≡ false = grind (arith, nat_tests) in
      let header_kept : nat_lt (length octets) 20 ≡ false = grind (arith, nat_tests) in
      let uncut : nat_lt all total ≡ false = grind (arith, nat_tests) in
      let count : total - header ≡ len = omega arith in
      let one : ipv4_fragment place octets all ≡ part4 = rw (offset_is, more_is, at_id, at_sender, at_destination, at_total, at_header, uncut, kept, count) refl in
      rw (some, is_ip, header_fits, protocol_kept, header_kept, is) (ap fragment_sight one)

-- ---- IPv6

-- the header of fragments stays the next one
stays : (header : NextHeader) → header.number ≡ 44 → is_atomic header.octets ≡ false → past_header header ≡ header
unfolding past_header
stays header number part = grind (arith, nat_tests)

stays-all : (n : ℕ) (header : NextHeader) → header.number ≡ 44 → is_atomic header.octets ≡ false → past_headers n header ≡ header
unfolding past_headers
stays-all zero header number part = refl
stays-all (suc n) header number part = ap past_header (stays-all n header number part) ∙ stays header number part

module _ (place : Place) (ip : Ipv6Header) (headers : List Extension) (part : PartHeader) (carried after : List ℕ) (all : ℕ) where
  abbrev inner : List ℕ
  inner = extensions_before headers 44

  abbrev kept6 : List ℕ
  kept6 = part_header part ++ carried

  abbrev total6 : ℕ
  total6 = length inner + (8 + length carried)

  abbrev octets6 : List ℕ
  octets6 = ipv6_header ip total6 (first_before headers 44) ++ (inner ++ (kept6 ++ after))

  abbrev part6 : IpFragment
  part6 = record {
    id = record {
      origin = record { place = place; sender = record { family = V6; bits = ip.sender } };
      destination = record { family = V6; bits = ip.destination };
      identification = part.id;
    };
    offset = 8 * part.units;
    more = part.flag == 1;
    is_cut = false;
    carried = record { number = part.next; octets = carried; whole = length carried; in_fragment = true };
  }

  unless_both : (a b : Bool) → (not a || b) ≡ true → (a && not b) ≡ false
  unless_both true true is = refl
  unless_both true false is = absurd cc
  unless_both false b is = refl

  ipv6_part : length headers ≤ 8 → All IsOptions headers → IsPartHeader part → ip.class < 2 ^ 4 → ip.sender < 2 ^ 128 → ip.destination < 2 ^ 128 → total6 < 2 ^ 16 → 40 + total6 ≤ all
      → ipv6_sight place octets6 all ≡ fragment_sight part6
  unfolding ipv6_sight
  ipv6_part few are is class_fits sender_fits destination_fits len_fits there =
      let number = first_before headers 44 in
      let field = 8 * part.units + (2 * part.bits + part.flag) in
      let low = is.of_several.0 in
      let field_fits : field < 2 ^ 16 = omega (arith, low, is.units_fit, is.bits_fit) in
      let at_field : network_number 2 2 kept6 ≡ field = number-back (part.next ∷ part.reserved ∷ []) 2 field (big_bytes 4 part.id ++ carried) field_fits in
      let at_id : network_number 4 4 kept6 ≡ part.id = number-back (part.next ∷ part.reserved ∷ big_bytes 2 field) 4 part.id carried is.id_fits in
      let masked : bit_and field 0xfff8 ≡ 8 * part.units = and_high_mask 16 3 (omega arith) field field_fits ∙ omega (arith, low, is.bits_fit) in
      let bit : bit_and field 0x0001 ≡ part.flag = and_mask field 1 ∙ omega (arith, low) in
      let offset_is : offset_in kept6 ≡ 8 * part.units = ap (λ (n : ℕ). bit_and n 0xfff8) at_field ∙ masked in
      let more_is : more_in kept6 ≡ (part.flag == 1) = ap (λ (n : ℕ). not (bit_and n 0x0001 == 0)) at_field ∙ low_flag_is part.flag (bit_and field 0x0001) low bit in
      let is_part : is_atomic kept6 ≡ false = rw (offset_is, more_is) (unless_both (8 * part.units == 0) (part.flag == 1) (several part.flag part.units is.of_several)) in
      let class = ip.class in
      let front = (6 * 2 ^ 4 + class) ∷ big_bytes 3 ip.flow in
      let to_sender = front ++ big_bytes 2 total6 ++ number ∷ ip.hop_limit ∷ [] in
      let behind = inner ++ (kept6 ++ after) in
      let at_total : payload_len octets6 ≡ total6 = number-back front 2 total6 (number ∷ ip.hop_limit ∷ (big_bytes 16 ip.sender ++ (big_bytes 16 ip.destination ++ behind))) len_fits in
      let at_sender : network_number 8 16 octets6 ≡ ip.sender = number-back to_sender 16 ip.sender (big_bytes 16 ip.destination ++ behind) sender_fits in
      let at_destination : network_number 24 16 octets6 ≡ ip.destination = number-back (to_sender ++ big_bytes 16 ip.sender) 16 ip.destination behind destination_fits in
      let long : length kept6 ≡ 8 + length carried = omega arith in
      let taken : take total6 (drop 40 octets6) ≡ inner ++ kept6 = take-append-add inner (kept6 ++ after) (8 + length carried)
      ∙ ap (λ (c : List ℕ). inner ++ c) (ap (λ (n : ℕ). take n (kept6 ++ after)) (sym long) ∙ take-append_seam kept6 after) in
      let held = header_of 44 kept6 (8 + length carried) false in
      let left : total6 - length inner ≡ 8 + length carried = omega arith in
      let first : first_header octets6 ≡ header_of number (inner ++ kept6) total6 false = rw (at_total, taken) refl in
      let passed : past_headers 8 (first_header octets6) ≡ held =
      ap (past_headers 8) first ∙ past-options headers 44 8 kept6 total6 few are ∙ ap (λ (n : ℕ). past_headers (8 - length headers) (header_of 44 kept6 n false)) left
      ∙ stays-all (8 - length headers) held refl is_part in
      let some : nat_lt (length octets6) 1 ≡ false = grind (arith, nat_tests) in
      let is_ip : not (ip_version octets6 == 6) ≡ false = rw (ipv6_version ip total6 number behind class_fits) refl in
      let next : nat_lt (length octets6) 7 ≡ false = grind (arith, nat_tests) in
      let header_there : nat_lt (8 + length carried) 8 ≡ false = grind (arith, nat_tests) in
      let fixed_kept : nat_lt (length octets6) 40 ≡ false = grind (arith, nat_tests) in
      let header_kept : nat_lt (length kept6) 8 ≡ false = grind (arith, nat_tests) in
      let uncut : nat_lt all (40 + total6) ≡ false = grind (arith, nat_tests) in
      let count : 8 + length carried - 8 ≡ length carried = omega arith in
      let one : ipv6_fragment place octets6 all held ≡ part6 = rw (at_sender, at_destination, at_id, offset_is, more_is, at_total, uncut, count) refl in
      rw (some, is_ip, next, passed, header_there, fixed_kept, header_kept) (ap fragment_sight one)

-- ---- in a frame

pub part_in_frame : (link : Link) (interface ether_type : ℕ) (place : Place) (fragment : IpFragment) (header packet after : List ℕ) (all : ℕ) → IsHeader link interface ether_type place header
    → IsPartOverIp ether_type place packet fragment → length header + length packet ≤ all → frame_sight interface link (header ++ (packet ++ after)) all ≡ fragment_sight fragment
part_in_frame link interface ether_type place fragment header packet after all is (inl over) there =
    let ip = over.ip in
    let carried = over.carried in
    let long = ap length over.is_packet in
    let fits : 20 + 4 * ip.words + length carried ≤ all - length header = omega (arith, there, long, over.fits.options_len, length-append ip.options carried) in
    let laid : packet ++ after ≡ ipv4_header ip (length carried) ++ (carried ++ after) = ap (λ (p : List ℕ). p ++ after) over.is_packet ∙ append_assoc (ipv4_header ip (length carried)) carried after in
    let seen = ipv4_part place ip carried after over.flag over.units (all - length header) over.fits over.id_fits over.of_several over.offset fits in
    in_frame link interface ether_type place header (packet ++ after) all (fragment_sight fragment) is
    (over_ipv4 place ether_type ip (length carried) (all - length header) (carried ++ after) (packet ++ after) (fragment_sight fragment) over.is_type over.fits.words_fit laid
    (seen ∙ ap fragment_sight (sym over.is_fragment)))
part_in_frame link interface ether_type place fragment header packet after all is (inr over) there =
    let ip = over.ip in
    let carried = over.carried in
    let inside = extensions_before over.headers 44 in
    let kept = part_header over.part ++ carried in
    let number = first_before over.headers 44 in
    let total = length inside + (8 + length carried) in
    let front = ipv6_header ip total number in
    let long = ap length over.is_packet in
    let fits : 40 + total ≤ all - length header = omega (arith, there, long, length-append inside kept) in
    let laid : packet ++ after ≡ front ++ (inside ++ (kept ++ after)) = ap (λ (p : List ℕ). p ++ after) over.is_packet ∙ append_assoc front (inside ++ kept) after
    ∙ ap (λ (o : List ℕ). front ++ o) (append_assoc inside kept after) in
    let seen = ipv6_part place ip over.headers over.part carried after (all - length header) over.few over.are_headers over.is_part over.class_fits over.sender_fits over.destination_fits over.len_fits fits in
    in_frame link interface ether_type place header (packet ++ after) all (fragment_sight fragment) is
    (over_ipv6 place ether_type ip total number (all - length header) (inside ++ (kept ++ after)) (packet ++ after) (fragment_sight fragment) over.is_type over.class_fits laid
    (seen ∙ ap fragment_sight (sym over.is_fragment)))
