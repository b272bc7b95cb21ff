-- What is seen as a packet is laid out in its frame, layer by layer.
use Rattle.std.proofs.Common.{◌≡◌, ℕ, zero, suc, ◌+◌, ◌-◌, ◌*◌, ◌/◌, ◌%◌, ◌^◌, ◌<◌, ◌≤◌, ◌⊎◌, inl, inr, Bool, true, false, List, [], ◌∷◌, ◌++◌, length, take, drop, refl, sym, ap, subst, ◌∙◌}
use Rattle.std.proofs.Common.{length-append, append_assoc, arith, nat_lt, slice_index, bit_and, not, ◌==◌, ◌&&◌, ◌||◌, if◌then◌else◌, Option, None}
use Rattle.std.specs.Prelude.{Contains}
use Rattle.std.specs.List.{All}
use Rattle.std.proofs.lemmas.Bool.Decides.{nat_tests}
use Rattle.std.proofs.lemmas.List.{drop-drop, drop-take, length-drop, length-take, length-take-le}
use Rattle.std.proofs.lemmas.List.Elements.{All-drop, All-take}
use Rattle.std.proofs.lemmas.Nat.{and_mask}
use Rattle.std.proofs.lemmas.Nat.Bits.{and_high_mask, and_pow}
use Rattle.byteorder.specs.Endian.{big_bytes}
use Rattle.babel_capture.specs.declared.ends.Ends.{Ends}
use Rattle.babel_capture.specs.declared.lack.Lack.TheVariants as lacks
use Rattle.babel_capture.specs.declared.place.Place.{Place}
use Rattle.babel_capture.specs.Headers.{NextHeader, fragment_offset as offset_in, has_len, has_more_fragments as flagged, header_len, is_atomic, is_unkept, past_header, past_headers, telling_len}
use Rattle.babel_capture.specs.declared.fragment.UdpPlace.{UdpPlace}
use Rattle.babel_capture.specs.IpFragments.{IpFragment, first_sight, fragment_sight, is_taken, taken, udp_place_in}
use Rattle.babel_capture.specs.InFrame.{AreOctets}
use Rattle.babel_capture.specs.Ipv4.{carries_udp, fragment_offset, has_more_fragments, ipv4_carried_sight, ipv4_fragment, ipv4_header_len, ipv4_ends, ipv4_sight, is_fragment, total_len}
use Rattle.babel_capture.specs.Ipv6.{first_header, ipv6_carried_sight, ipv6_fragment, ipv6_fragment_sight, ipv6_ends, ipv6_sight, payload_len, upper_sight}
use Rattle.babel_capture.specs.LaidOut.{AreExtensions, Extension, HasFlags, IsBabel, IsWhole, Ipv4Header, Ipv6Header, UdpDatagram, extensions, first_number}
use Rattle.babel_capture.specs.LaidOut.{ipv4_header, ipv4_octets, ipv6_header, ipv6_octets, udp_octets, udp_size}
use Rattle.babel_capture.specs.Octets.{ip_version, network_number}
use Rattle.babel_capture.specs.Sight.{Carried, Sight, carries, datagram, fragmented, lacking, not_link_local, other, other_port, too_short}
use Rattle.babel_capture.specs.Udp.{destination_port, is_babel, is_of_routers, len_sight, may_send, source_port, udp_len, udp_sight, unkept_sight}
use Rattle.babel_capture.proofs.LaidOutLaws.{past-first_header}
use Rattle.babel_capture.proofs.ReadBack.{field_is, number_fits, octet_is, part_is}

-- ---- what is said of a packet that is seen

abbrev OnCarried : (List ℕ → Type 0) → Carried → Type 0
OnCarried P other_port = Unit {0}
OnCarried P not_link_local = Unit {0}
OnCarried P (lacking lack) = Unit {0}
OnCarried P (carries payload) = P payload

abbrev pub OnPacket : (Place → Ends → List ℕ → Type 0) → Sight → Type 0
OnPacket P other = Unit {0}
OnPacket P too_short = Unit {0}
OnPacket P (fragmented fragment) = Unit {0}
OnPacket P (datagram place ends carried) = OnCarried (P place ends) carried

module _ (P Q : Place → Ends → List ℕ → Type 0) (follows : (place : Place) (ends : Ends) (payload : List ℕ) → P place ends payload → Q place ends payload) where
  carried-map : (place : Place) (ends : Ends) (carried : Carried) → OnCarried (P place ends) carried → OnCarried (Q place ends) carried
  carried-map place ends other_port holds = tt
  carried-map place ends not_link_local holds = tt
  carried-map place ends (lacking lack) holds = tt
  carried-map place ends (carries payload) holds = follows place ends payload holds

  pub on-map : (sight : Sight) → OnPacket P sight → OnPacket Q sight
  on-map other holds = tt
  on-map too_short holds = tt
  on-map (fragmented fragment) holds = tt
  on-map (datagram place ends carried) holds = carried-map place ends carried holds

-- whichever of the two is seen
module _ (P : Place → Ends → List ℕ → Type 0) where
  pub unless : (b : Bool) (x y : Sight) → OnPacket P x → (b ≡ false → OnPacket P y) → OnPacket P (if b then x else y)
  unless true x y here there = here
  unless false x y here there = there refl

  pub choose : (b : Bool) (x y : Sight) → (b ≡ true → OnPacket P x) → (b ≡ false → OnPacket P y) → OnPacket P (if b then x else y)
  choose true x y here there = here refl
  choose false x y here there = there refl

-- a fragment is no packet
module _ (P : Place → Ends → List ℕ → Type 0) (ip : IpFragment) where
  first_seen : (upper : NextHeader) → OnPacket P (first_sight ip upper)
  first_seen upper =
      let at : Option UdpPlace = udp_place_in ip upper in
      let ports : Sight = if nat_lt (length upper.octets) 4 then too_short else taken ip at in
      let udp : Sight = if nat_lt upper.whole 8 then taken ip None else ports in
      let again : Sight = if upper.number == 44 then other else taken ip None in
      let others : Sight = if is_unkept upper then too_short else again in
      choose P (upper.number == 17) udp others
      (λ _. unless P (nat_lt upper.whole 8) (taken ip None) ports tt (λ _. unless P (nat_lt (length upper.octets) 4) too_short (taken ip at) tt (λ _. tt)))
      (λ _. unless P (is_unkept upper) too_short again tt (λ _. unless P (upper.number == 44) other (taken ip None) tt (λ _. tt)))

  fragment_seen : OnPacket P (fragment_sight ip)
  fragment_seen =
      let first : Sight = first_sight ip (past_headers 8 ip.carried) in
      let each : Sight = if ip.offset == 0 then first else taken ip None in
      unless P (not (is_taken ip)) other each tt (λ _. choose P (ip.offset == 0) first (taken ip None) (λ _. first_seen (past_headers 8 ip.carried)) (λ _. tt))

pub room : (whole needed : ℕ) → nat_lt whole needed ≡ false → needed ≤ whole
room whole needed enough = grind (arith, nat_tests)

pub not_not : (b : Bool) → not b ≡ false → b ≡ true
not_not true is = refl
not_not false is = cc

pub number_is : (a b : ℕ) → (a == b) ≡ true → a ≡ b
number_is a b is = grind (arith, nat_tests)

or_left : (a b : Bool) → (a || b) ≡ false → a ≡ false
or_left true b is = is
or_left false b is = refl

or_right : (a b : Bool) → (a || b) ≡ false → b ≡ false
or_right true b is = absurd cc
or_right false b is = is

-- ---- UDP

-- these octets, of `all`, are a datagram of Babel with this payload, and others after it
record IsUdp (ends : Ends) (octets : List ℕ) (all : ℕ) (payload : List ℕ) : Type 0 where
  udp : UdpDatagram
  rest : List ℕ
  is_babel : IsBabel udp
  may : may_send ends.sender ≡ true
  payload_is : payload ≡ udp.payload
  whole : octets ≡ udp_octets udp ++ rest
  fits : udp_size udp ≤ all

abbrev UdpSeen : Place → Ends → Bool → List ℕ → ℕ → Place → Ends → List ℕ → Type 0
UdpSeen place ends is_cut octets all there from payload =
    (there ≡ place) × (from ≡ ends) × (is_cut ≡ false) × IsUdp ends octets all payload

udp_in : (ends : Ends) (octets : List ℕ) (all : ℕ) → AreOctets octets → is_of_routers octets ≡ true → may_send ends.sender ≡ true → udp_len octets ≤ all → 8 ≤ udp_len octets
    → udp_len octets ≤ length octets → IsUdp ends octets all (take (udp_len octets - 8) (drop 8 octets))
udp_in ends octets all are routers may fits header kept =
    let len = udp_len octets in
    let payload = take (len - 8) (drop 8 octets) in
    let rest = drop (len - 8) (drop 8 octets) in
    let source : source_port octets ≡ 6696 = grind (arith, nat_tests, routers) in
    let destination : destination_port octets ≡ 6696 = grind (arith, nat_tests, routers) in
    let long : length payload ≡ len - 8 = length-take-le (len - 8) (drop 8 octets) (omega (arith, length-drop 8 octets)) in
    let size : len ≡ 8 + length payload = omega arith in
    let udp : UdpDatagram = record { source = source_port octets; destination = destination_port octets; checksum = network_number 6 2 octets; payload = payload } in
    let number = number_fits 4 2 octets are in
    let from_checksum : drop 6 octets ≡ big_bytes 2 (network_number 6 2 octets) ++ (payload ++ rest) =
    field_is 6 2 octets are (omega arith) ∙ ap (λ (t : List ℕ). big_bytes 2 (network_number 6 2 octets) ++ t) (part_is (len - 8) (drop 8 octets)) in
    let from_len : drop 4 octets ≡ big_bytes 2 (8 + length payload) ++ drop 6 octets = field_is 4 2 octets are (omega arith) ∙ ap (λ (n : ℕ). big_bytes 2 n ++ drop 6 octets) size in
    record {
      udp = udp;
      rest = rest;
      is_babel = record { source = source; destination = destination; len_fits = omega (arith, number, size) };
      may = may;
      payload_is = refl;
      whole = field_is 0 2 octets are (omega arith) ∙ ap (λ (t : List ℕ). big_bytes 2 (source_port octets) ++ t) (field_is 2 2 octets are (omega arith)
          ∙ ap (λ (t : List ℕ). big_bytes 2 (destination_port octets) ++ t) (from_len ∙ ap (λ (t : List ℕ). big_bytes 2 (8 + length payload) ++ t) from_checksum));
      fits = omega arith;
    }

module _ (place : Place) (ends : Ends) (octets : List ℕ) (all : ℕ) (are : AreOctets octets) where
  abbrev Whole : Place → Ends → List ℕ → Type 0
  Whole = UdpSeen place ends false octets all

  len_seen : is_of_routers octets ≡ true → may_send ends.sender ≡ true → OnPacket Whole (len_sight place ends octets all)
  len_seen routers may =
      let len = udp_len octets in
      let snapped : Sight = datagram place ends (lacking lacks.Snapped) in
      let cut : Sight = datagram place ends (lacking lacks.CutShort) in
      let payload : Sight = datagram place ends (carries (take (len - 8) (drop 8 octets))) in
      let kept : Sight = if nat_lt (length octets) len then snapped else payload in
      let long : Sight = if nat_lt len 8 then other else kept in
      let fitting : Sight = if nat_lt all len then cut else long in
      let told : Sight = if nat_lt (length octets) 6 then snapped else fitting in
      unless Whole (nat_lt all 6) other told tt (λ _.
      unless Whole (nat_lt (length octets) 6) snapped fitting tt (λ _.
      unless Whole (nat_lt all len) cut long tt (λ fits.
      unless Whole (nat_lt len 8) other kept tt (λ header.
      unless Whole (nat_lt (length octets) len) snapped payload tt (λ there.
      (refl, refl, refl, udp_in ends octets all are routers may (room all len fits) (room len 8 header) (room (length octets) len there)))))))

  udp_seen : (is_cut : Bool) → OnPacket (UdpSeen place ends is_cut octets all) (udp_sight place ends is_cut octets all)
  unfolding udp_sight
  udp_seen is_cut =
      let P = UdpSeen place ends is_cut octets all in
      let len : Sight = len_sight place ends octets all in
      let cut : Sight = if is_cut then datagram place ends (lacking lacks.CutShort) else len in
      let local : Sight = if not (may_send ends.sender) then datagram place ends not_link_local else cut in
      let babel : Sight = if not (is_of_routers octets) then datagram place ends other_port else local in
      let ports : Sight = if not (is_babel octets) then other else babel in
      let kept : Sight = if nat_lt (length octets) 4 then too_short else ports in
      unless P (nat_lt all 4) other kept tt (λ _.
      unless P (nat_lt (length octets) 4) too_short ports tt (λ _.
      unless P (not (is_babel octets)) other babel tt (λ _.
      unless P (not (is_of_routers octets)) (datagram place ends other_port) local tt (λ routers.
      unless P (not (may_send ends.sender)) (datagram place ends not_link_local) cut tt (λ may.
      unless P is_cut (datagram place ends (lacking lacks.CutShort)) len tt (λ fits.
      on-map Whole P (λ there from payload seen. (seen.0, seen.1, fits, seen.3)) len
      (len_seen (not_not (is_of_routers octets) routers) (not_not (may_send ends.sender) may))))))))

-- ---- IP

-- these octets, of `all`, are such a packet, and others after it
pub record IsIp (ether_type : ℕ) (ends : Ends) (octets : List ℕ) (all : ℕ) (payload : List ℕ) : Type 0 where
  pub packet : List ℕ
  pub after : List ℕ
  pub more : ℕ
  pub some : 1 ≤ length packet
  pub is_whole : IsWhole ether_type ends packet more (carries payload)
  pub whole : octets ≡ packet ++ after
  pub fits : length packet + more ≤ all

abbrev pub IpSeen : Place → ℕ → List ℕ → ℕ → Place → Ends → List ℕ → Type 0
IpSeen place ether_type octets all there from payload = (there ≡ place) × IsIp ether_type from octets all payload

-- ---- IPv4

-- the first octet: version 4, and the words of the header
first_octet : (octet : ℕ) → octet / 2 ^ 4 ≡ 4 → 20 ≤ 4 * bit_and octet 0x0f → (octet ≡ 4 * 2 ^ 4 + (5 + (bit_and octet 0x0f - 5))) × (bit_and octet 0x0f ≤ 15)
first_octet octet version long =
    let low : bit_and octet 0x0f ≡ octet % 2 ^ 4 = and_mask octet 4 in
    (omega arith, omega arith)

-- no fragment by its flags
flags_in : (flags : ℕ) → flags < 2 ^ 16 → not (8 * bit_and flags 0x1fff == 0) ≡ false → not (bit_and flags 0x2000 == 0) ≡ false → HasFlags 0 flags
flags_in flags fits offset last =
    let low : bit_and flags 0x1fff ≡ flags % 2 ^ 13 = and_mask flags 13 in
    let none : 8 * bit_and flags 0x1fff ≡ 0 = number_is (8 * bit_and flags 0x1fff) 0 (not_not (8 * bit_and flags 0x1fff == 0) offset) in
    let bit : bit_and flags 0x2000 ≡ flags / 2 ^ 13 % 2 * 2 ^ 13 = and_pow flags 13 in
    let unset : bit_and flags 0x2000 ≡ 0 = number_is (bit_and flags 0x2000) 0 (not_not (bit_and flags 0x2000 == 0) last) in
    record { bits = flags / 2 ^ 14; bits_fit = omega arith; are_flags = omega arith }

module _ (octets : List ℕ) (are : AreOctets octets) where
  abbrev words : ℕ
  words = bit_and (slice_index octets 0) 0x0f - 5

  abbrev ip_of : Ipv4Header
  ip_of = record {
    words = words;
    service = slice_index octets 1;
    id = network_number 4 2 octets;
    flags = network_number 6 2 octets;
    ttl = slice_index octets 8;
    checksum = network_number 10 2 octets;
    sender = network_number 12 4 octets;
    destination = network_number 16 4 octets;
    options = take (4 * words) (drop 20 octets);
  }

  ipv4_header_is : (len : ℕ) → 20 ≤ length octets → ip_version octets ≡ 4 → 20 ≤ ipv4_header_len octets → slice_index octets 9 ≡ 17 → total_len octets ≡ 20 + 4 * words + len
      → octets ≡ ipv4_header ip_of len ++ drop (20 + 4 * words) octets
  ipv4_header_is len long version header udp total =
      let first = first_octet (slice_index octets 0) version header in
      let options : drop 20 octets ≡ ip_of.options ++ drop (20 + 4 * words) octets =
      part_is (4 * words) (drop 20 octets) ∙ ap (λ (t : List ℕ). ip_of.options ++ t) (drop-drop (4 * words) 20 octets) in
      let addresses : drop 12 octets ≡ big_bytes 4 ip_of.sender ++ (big_bytes 4 ip_of.destination ++ drop 20 octets) =
      field_is 12 4 octets are (omega arith) ∙ ap (λ (t : List ℕ). big_bytes 4 ip_of.sender ++ t) (field_is 16 4 octets are (omega arith)) in
      let from_ttl : drop 8 octets ≡ ip_of.ttl ∷ 17 ∷ (big_bytes 2 ip_of.checksum ++ drop 12 octets) =
      octet_is 8 octets (omega arith) ∙ ap (λ (t : List ℕ). ip_of.ttl ∷ t) (octet_is 9 octets (omega arith) ∙ ap (λ (n : ℕ). n ∷ drop 10 octets) udp
      ∙ ap (λ (t : List ℕ). 17 ∷ t) (field_is 10 2 octets are (omega arith))) in
      let from_total : drop 2 octets ≡ big_bytes 2 (20 + 4 * words + len) ++ (big_bytes 2 ip_of.id ++ (big_bytes 2 ip_of.flags ++ drop 8 octets)) =
      field_is 2 2 octets are (omega arith) ∙ ap (λ (n : ℕ). big_bytes 2 n ++ drop 4 octets) total
      ∙ ap (λ (t : List ℕ). big_bytes 2 (20 + 4 * words + len) ++ t) (field_is 4 2 octets are (omega arith) ∙ ap (λ (t : List ℕ). big_bytes 2 ip_of.id ++ t) (field_is 6 2 octets are (omega arith))) in
      let front : octets ≡ (4 * 2 ^ 4 + (5 + words)) ∷ ip_of.service ∷ drop 2 octets =
      octet_is 0 octets (omega arith) ∙ ap (λ (n : ℕ). n ∷ drop 1 octets) first.0 ∙ ap (λ (t : List ℕ). (4 * 2 ^ 4 + (5 + words)) ∷ t) (octet_is 1 octets (omega arith)) in
      front ∙ ap (λ (t : List ℕ). (4 * 2 ^ 4 + (5 + words)) ∷ ip_of.service ∷ t) (from_total
      ∙ ap (λ (t : List ℕ). big_bytes 2 (20 + 4 * words + len) ++ (big_bytes 2 ip_of.id ++ (big_bytes 2 ip_of.flags ++ t))) (from_ttl
      ∙ ap (λ (t : List ℕ). ip_of.ttl ∷ 17 ∷ (big_bytes 2 ip_of.checksum ++ t)) (addresses
      ∙ ap (λ (t : List ℕ). big_bytes 4 ip_of.sender ++ (big_bytes 4 ip_of.destination ++ t)) options)))

-- what carries the octets that are seen
within_is : (header total : ℕ) (octets front rest : List ℕ) → header ≤ total → drop header (take total octets) ≡ front ++ rest
    → drop header octets ≡ front ++ (rest ++ drop (total - header) (drop header octets))
within_is header total octets front rest fits is =
    let m = total - header in
    let whole : header + m ≡ total = omega arith in
    let part : take m (drop header octets) ≡ front ++ rest = sym (drop-take header m octets) ∙ ap (λ (n : ℕ). drop header (take n octets)) whole ∙ is in
    part_is m (drop header octets) ∙ ap (λ (t : List ℕ). t ++ drop m (drop header octets)) part ∙ append_assoc front rest (drop m (drop header octets))

ipv4_in : (octets : List ℕ) (all : ℕ) (payload : List ℕ) → AreOctets octets → 20 ≤ length octets → ip_version octets ≡ 4 → 20 ≤ ipv4_header_len octets → slice_index octets 9 ≡ 17
    → is_fragment octets ≡ false → total_len octets ≤ all
    → IsUdp (ipv4_ends octets) (drop (ipv4_header_len octets) (take (total_len octets) octets)) (total_len octets - ipv4_header_len octets) payload
    → IsIp 0x0800 (ipv4_ends octets) octets all payload
ipv4_in octets all payload are long version header udp whole_one there is =
    let n = words octets are in
    let ip = ip_of octets are in
    let h = 20 + 4 * n in
    let total = total_len octets in
    let carried = udp_octets is.udp in
    let low = (first_octet (slice_index octets 0) version header).1 in
    let header_is : ipv4_header_len octets ≡ h = omega arith in
    let size : length carried ≡ 8 + length is.udp.payload = omega arith in
    let number = number_fits 2 2 octets are in
    let more = total - h - length carried in
    let fits = is.fits in
    let total_is : total ≡ h + (length carried + more) = omega arith in
    let whole : drop h (take total octets) ≡ carried ++ is.rest = ap (λ (k : ℕ). drop k (take total octets)) (sym header_is) ∙ is.whole in
    let kept : h ≤ length octets =
    omega (arith, ap length whole, length-drop h (take total octets), length-take total octets, length-append carried is.rest, size) in
    let packet = ipv4_octets ip carried more in
    let after = is.rest ++ drop (total - h) (drop h octets) in
    let options_len : length ip.options ≡ 4 * n = length-take-le (4 * n) (drop 20 octets) (omega (arith, length-drop 20 octets)) in
    record {
      packet = packet;
      after = after;
      more = more;
      some = omega arith;
      is_whole = (
        is.udp,
        is.is_babel,
        inl (record {
          is_type = refl;
          ip = ip;
          fits = record { words_fit = omega arith; options_len = options_len; sender_fits = number_fits 12 4 octets are; destination_fits = number_fits 16 4 octets are; len_fits = omega (arith, number, total_is) };
          no_fragment = flags_in (network_number 6 2 octets) (number_fits 6 2 octets are) (or_left (not (fragment_offset octets == 0)) (has_more_fragments octets) whole_one)
              (or_right (not (fragment_offset octets == 0)) (has_more_fragments octets) whole_one);
          are_ends = refl;
          is_packet = refl;
        }),
        ap carries is.payload_is,
      );
      whole = ipv4_header_is octets are (length carried + more) long version header udp total_is
          ∙ ap (λ (t : List ℕ). ipv4_header ip (length carried + more) ++ t) (within_is h total octets carried is.rest (omega arith) whole)
          ∙ sym (append_assoc (ipv4_header ip (length carried + more)) carried after);
      fits = omega (arith, length-append ip.options carried, options_len, total_is, there);
    }

module _ (place : Place) (octets : List ℕ) (all : ℕ) (are : AreOctets octets) where
  abbrev Over4 : Place → Ends → List ℕ → Type 0
  Over4 = IpSeen place 0x0800 octets all

  ipv4_carried_seen : 20 ≤ length octets → ip_version octets ≡ 4 → 20 ≤ ipv4_header_len octets → slice_index octets 9 ≡ 17 → OnPacket Over4 (ipv4_carried_sight place octets all)
  ipv4_carried_seen long version header udp =
      let total = total_len octets in
      let carried = drop (ipv4_header_len octets) (take total octets) in
      let bytes = All-drop (λ (octet : ℕ). octet < 256) (ipv4_header_len octets) (take total octets) (All-take (λ (octet : ℕ). octet < 256) total octets are) in
      let of_udp : Sight = udp_sight place (ipv4_ends octets) (nat_lt all total) carried (total - ipv4_header_len octets) in
      let ip = ipv4_fragment place octets all in
      choose Over4 (is_fragment octets) (fragment_sight ip) of_udp (λ _. fragment_seen Over4 ip) (λ whole_one.
      on-map (UdpSeen place (ipv4_ends octets) (nat_lt all total) carried (total - ipv4_header_len octets)) Over4
      (λ there from payload seen. (
        seen.0,
        subst (λ (s : Ends). IsIp 0x0800 s octets all payload) (sym seen.1)
            (ipv4_in octets all payload are long version header udp whole_one (room all total seen.2) seen.3),
      ))
      of_udp (udp_seen place (ipv4_ends octets) carried (total - ipv4_header_len octets) bytes (nat_lt all total)))

  neither : (a b : Bool) → (not a || b) ≡ false → (a ≡ true) × (b ≡ false)
  neither true b is = (refl, is)
  neither false b is = absurd cc

  pub ipv4_seen : OnPacket Over4 (ipv4_sight place octets all)
  unfolding ipv4_sight
  ipv4_seen =
      let carried : Sight = ipv4_carried_sight place octets all in
      let whole_header : Sight = if nat_lt (length octets) 20 then too_short else carried in
      let of_udp : Sight = if not (carries_udp octets) then other else whole_header in
      let told : Sight = if nat_lt (length octets) 10 then too_short else of_udp in
      let is_other = not (ip_version octets == 4) || nat_lt (ipv4_header_len octets) 20 in
      let ip : Sight = if is_other then other else told in
      unless Over4 (nat_lt (length octets) 1) too_short ip tt (λ _.
      unless Over4 is_other other told tt (λ version.
      unless Over4 (nat_lt (length octets) 10) too_short of_udp tt (λ _.
      unless Over4 (not (carries_udp octets)) other whole_header tt (λ udp.
      unless Over4 (nat_lt (length octets) 20) too_short carried tt (λ long.
      (let is = neither (ip_version octets == 4) (nat_lt (ipv4_header_len octets) 20) version in
      ipv4_carried_seen (room (length octets) 20 long) (number_is (ip_version octets) 4 is.0) (room (ipv4_header_len octets) 20 is.1)
      (number_is (slice_index octets 9) 17 (not_not (carries_udp octets) udp))))))))

-- ---- extension headers

-- a header that is passed over, or not
module _ (header : NextHeader) where
  abbrev options_next : NextHeader
  options_next = record {
    number = slice_index header.octets 0;
    octets = drop (header_len header.octets) header.octets;
    whole = header.whole - header_len header.octets;
    in_fragment = header.in_fragment;
  }

  abbrev fragment_next : NextHeader
  fragment_next = record {
    number = slice_index header.octets 0;
    octets = drop 8 header.octets;
    whole = header.whole - 8;
    in_fragment = true;
  }

  abbrev Steps : NextHeader → Type 0
  Steps next =
      (next ≡ header)
      ⊎ ((nat_lt (length header.octets) (telling_len header.number) ≡ false) × (has_len header.number ≡ true) × (next ≡ options_next))
      ⊎ ((nat_lt (length header.octets) (telling_len header.number) ≡ false) × (has_len header.number ≡ false)
      × ((header.number == 44 && is_atomic header.octets && not header.in_fragment) ≡ true) × (next ≡ fragment_next))

  step_by : (a b c : Bool) → nat_lt (length header.octets) (telling_len header.number) ≡ a → has_len header.number ≡ b
      → (header.number == 44 && is_atomic header.octets && not header.in_fragment) ≡ c
      → Steps (if a then header else if b then options_next else if c then fragment_next else header)
  step_by true b c is_a is_b is_c = inl refl
  step_by false true c is_a is_b is_c = inr (inl (is_a, is_b, refl))
  step_by false false true is_a is_b is_c = inr (inr (is_a, is_b, is_c, refl))
  step_by false false false is_a is_b is_c = inl refl

  step_of : Steps (past_header header)
  unfolding past_header
  step_of =
      step_by (nat_lt (length header.octets) (telling_len header.number)) (has_len header.number) (header.number == 44 && is_atomic header.octets && not header.in_fragment)
      refl refl refl

-- octets past headers are octets
bytes_after : (header next : NextHeader) → Steps header next → AreOctets header.octets → AreOctets next.octets
bytes_after header next (inl is) are = subst (λ (h : NextHeader). AreOctets h.octets) (sym is) are
bytes_after header next (inr (inl (kept, has, is))) are =
    subst (λ (h : NextHeader). AreOctets h.octets) (sym is) (All-drop (λ (octet : ℕ). octet < 256) (header_len header.octets) header.octets are)
bytes_after header next (inr (inr (kept, has, first, is))) are =
    subst (λ (h : NextHeader). AreOctets h.octets) (sym is) (All-drop (λ (octet : ℕ). octet < 256) 8 header.octets are)

past-bytes : (n : ℕ) (header : NextHeader) → AreOctets header.octets → AreOctets (past_headers n header).octets
unfolding past_headers
past-bytes zero header are = are
past-bytes (suc n) header are = bytes_after (past_headers n header) (past_header (past_headers n header)) (step_of (past_headers n header)) (past-bytes n header are)

-- what stands before the header of UDP
record IsPast (n : ℕ) (header upper : NextHeader) : Type 0 where
  headers : List Extension
  few : length headers ≤ n
  are : AreExtensions header.in_fragment headers
  number : header.number ≡ first_number headers
  laid : header.octets ≡ extensions headers ++ upper.octets
  left : upper.whole ≡ header.whole - length (extensions headers)

-- with one header more before it
one-past : (n : ℕ) (header next upper : NextHeader) (holds : List ℕ)
    → ((headers : List Extension) → AreExtensions next.in_fragment headers → AreExtensions header.in_fragment (record { number = header.number; holds = holds } ∷ headers))
    → header.octets ≡ next.number ∷ (holds ++ next.octets) → next.whole ≡ header.whole - (1 + length holds) → IsPast n next upper → IsPast (suc n) header upper
one-past n header next upper holds is laid left past =
    let first : Extension = record { number = header.number; holds = holds } in
    let inner = extensions past.headers in
    record {
      headers = first ∷ past.headers;
      few = omega (arith, past.few);
      are = is past.headers past.are;
      number = refl;
      laid = laid ∙ ap (λ (n : ℕ). n ∷ (holds ++ next.octets)) past.number
          ∙ ap (λ (t : List ℕ). first_number past.headers ∷ t) (ap (λ (t : List ℕ). holds ++ t) past.laid ∙ sym (append_assoc holds inner upper.octets));
      left = omega (arith, left, past.left, length-append holds inner);
    }

three : (a b c : Bool) → (a || b || c) ≡ true → (a ≡ true) ⊎ ((b ≡ true) ⊎ (c ≡ true))
three true b c is = inl refl
three false true c is = inr (inl refl)
three false false c is = inr (inr is)

is_options : (number : ℕ) → has_len number ≡ true → Contains (0 ∷ 43 ∷ 60 ∷ []) number
is_options number has = by (three (number == 0) (number == 43) (number == 60) has)
  where
    by : ((number == 0) ≡ true) ⊎ (((number == 43) ≡ true) ⊎ ((number == 60) ≡ true)) → Contains (0 ∷ 43 ∷ 60 ∷ []) number
    by (inl one) = (0, omega arith, sym (number_is number 0 one))
    by (inr (inl one)) = (1, omega arith, sym (number_is number 43 one))
    by (inr (inr one)) = (2, omega arith, sym (number_is number 60 one))

telling_options : (number : ℕ) → has_len number ≡ true → telling_len number ≡ 2
telling_options number has = rw has refl

telling_fragment : (number : ℕ) → number ≡ 44 → telling_len number ≡ 4
telling_fragment number is = rw is refl

and_left : (a b : Bool) → (a && b) ≡ true → a ≡ true
and_left true b is = refl
and_left false b is = is

and_right : (a b : Bool) → (a && b) ≡ true → b ≡ true
and_right true b is = is
and_right false b is = absurd cc

is_not : (b : Bool) → not b ≡ true → b ≡ false
is_not true is = absurd cc
is_not false is = refl

options_past : (n : ℕ) (header upper : NextHeader) → has_len header.number ≡ true → 2 ≤ length header.octets → 0 < length (drop (header_len header.octets) header.octets)
    → IsPast n (options_next header) upper → IsPast (suc n) header upper
options_past n header upper has told some past =
    let octets = header.octets in
    let units = slice_index octets 1 in
    let more = take (6 + 8 * units) (drop 2 octets) in
    let len : header_len octets ≡ 2 + (6 + 8 * units) = omega arith in
    let long : header_len octets < length octets = omega (arith, some, length-drop (header_len octets) octets) in
    let sized : length more ≡ 6 + 8 * units = length-take-le (6 + 8 * units) (drop 2 octets) (omega (arith, length-drop 2 octets)) in
    let rest : drop 2 octets ≡ more ++ drop (header_len octets) octets =
    part_is (6 + 8 * units) (drop 2 octets) ∙ ap (λ (t : List ℕ). more ++ t) (drop-drop (6 + 8 * units) 2 octets ∙ ap (λ (k : ℕ). drop k octets) (sym len)) in
    let laid : octets ≡ slice_index octets 0 ∷ units ∷ (more ++ drop (header_len octets) octets) =
    octet_is 0 octets (omega arith) ∙ ap (λ (t : List ℕ). slice_index octets 0 ∷ t) (octet_is 1 octets (omega arith) ∙ ap (λ (t : List ℕ). units ∷ t) rest) in
    one-past n header (options_next header) upper (units ∷ more)
    (λ headers are. inl (record { is_number = is_options header.number has; units = units; more = more; is_held = refl; sized = sized }, are)) laid (omega arith) past

-- the bits of an atomic fragment
bits_in : (bits : ℕ) → bits < 2 ^ 16 → (bit_and bits 0xfff8 == 0) ≡ true → not (bit_and bits 0x0001 == 0) ≡ false → (bits / 2 < 2 ^ 2) × (bits ≡ 2 * (bits / 2) + 0)
bits_in bits fits offset last =
    let high : bit_and bits 0xfff8 ≡ bits / 2 ^ 3 * 2 ^ 3 = and_high_mask 16 3 (omega arith) bits fits in
    let none : bit_and bits 0xfff8 ≡ 0 = number_is (bit_and bits 0xfff8) 0 offset in
    let low : bit_and bits 0x0001 ≡ bits % 2 ^ 1 = and_mask bits 1 in
    let even : bit_and bits 0x0001 ≡ 0 = number_is (bit_and bits 0x0001) 0 (not_not (bit_and bits 0x0001 == 0) last) in
    (omega arith, omega arith)

fragment_past : (n : ℕ) (header upper : NextHeader) → AreOctets header.octets → (header.number == 44 && is_atomic header.octets && not header.in_fragment) ≡ true
    → 0 < length (drop 8 header.octets) → IsPast n (fragment_next header) upper → IsPast (suc n) header upper
fragment_past n header upper are is_one some past =
    let octets = header.octets in
    let one = and_left (header.number == 44 && is_atomic header.octets) (not header.in_fragment) is_one in
    let apart : header.in_fragment ≡ false = is_not header.in_fragment (and_right (header.number == 44 && is_atomic header.octets) (not header.in_fragment) is_one) in
    let bits = network_number 2 2 octets in
    let atomic : is_atomic octets ≡ true = and_right (header.number == 44) (is_atomic octets) one in
    let first : (offset_in octets == 0) ≡ true = and_left (offset_in octets == 0) (not (flagged octets)) atomic in
    let last : flagged octets ≡ false = is_not (flagged octets) (and_right (offset_in octets == 0) (not (flagged octets)) atomic) in
    let id = take 4 (drop 4 octets) in
    let long : 8 < length octets = omega (arith, some, length-drop 8 octets) in
    let number : header.number ≡ 44 = number_is header.number 44 (and_left (header.number == 44) (is_atomic octets) one) in
    let in_bits = bits_in bits (number_fits 2 2 octets are) first last in
    let sized : length id ≡ 4 = length-take-le 4 (drop 4 octets) (omega (arith, length-drop 4 octets)) in
    let rest : drop 4 octets ≡ id ++ drop 8 octets = part_is 4 (drop 4 octets) ∙ ap (λ (t : List ℕ). id ++ t) (drop-drop 4 4 octets) in
    let laid : octets ≡ slice_index octets 0 ∷ slice_index octets 1 ∷ (big_bytes 2 (2 * (bits / 2) + 0) ++ (id ++ drop 8 octets)) =
    octet_is 0 octets (omega arith) ∙ ap (λ (t : List ℕ). slice_index octets 0 ∷ t) (octet_is 1 octets (omega arith) ∙ ap (λ (t : List ℕ). slice_index octets 1 ∷ t)
    (field_is 2 2 octets are (omega arith) ∙ ap (λ (b : ℕ). big_bytes 2 b ++ drop 4 octets) in_bits.1 ∙ ap (λ (t : List ℕ). big_bytes 2 (2 * (bits / 2) + 0) ++ t) rest)) in
    one-past n header (fragment_next header) upper (slice_index octets 1 ∷ (big_bytes 2 (2 * (bits / 2) + 0) ++ id))
    (λ headers are. inr (record { is_number = number; reserved = slice_index octets 1; bits = bits / 2; bits_fit = in_bits.0; id = id; is_held = refl; sized = sized }, apart, are)) laid
    (omega (arith, sized)) past

-- more may be passed over
more-past : (n : ℕ) (header upper : NextHeader) → IsPast n header upper → IsPast (suc n) header upper
more-past n header upper past = record {
  headers = past.headers;
  few = omega (arith, past.few);
  are = past.are;
  number = past.number;
  laid = past.laid;
  left = past.left;
}

some_before : (k : ℕ) (next upper : NextHeader) → IsPast k next upper → 0 < length upper.octets → 0 < length next.octets
some_before k next upper past more = omega (arith, ap length past.laid, length-append (extensions past.headers) upper.octets, more)

-- the next header is passed over, and then those after it
module _ (n : ℕ) (header : NextHeader) (are : AreOctets header.octets)
    (later : (next : NextHeader) → AreOctets next.octets → (past_headers n next).number ≡ 17 → 0 < length (past_headers n next).octets
    → IsPast n next (past_headers n next)) where
  past_by : (next : NextHeader) → Steps header next → (past_headers n next).number ≡ 17 → 0 < length (past_headers n next).octets
      → IsPast (suc n) header (past_headers n next)
  past_by next (inl is) udp some =
      let upper = past_headers n next in
      more-past n header upper (subst (λ (h : NextHeader). IsPast n h upper) is (later next (bytes_after header next (inl is) are) udp some))
  past_by next (inr (inl (kept, has, is))) udp some =
      let upper = past_headers n next in
      let past = subst (λ (h : NextHeader). IsPast n h upper) is (later next (bytes_after header next (inr (inl (kept, has, is))) are) udp some) in
      options_past n header upper has (subst (λ (k : ℕ). k ≤ length header.octets) (telling_options header.number has) (room (length header.octets) (telling_len header.number) kept))
      (some_before n (options_next header) upper past some) past
  past_by next (inr (inr (kept, has, first, is))) udp some =
      let upper = past_headers n next in
      let past = subst (λ (h : NextHeader). IsPast n h upper) is (later next (bytes_after header next (inr (inr (kept, has, first, is))) are) udp some) in
      fragment_past n header upper are first (some_before n (fragment_next header) upper past some) past

past-in : (n : ℕ) (header : NextHeader) → AreOctets header.octets → (past_headers n header).number ≡ 17
    → 0 < length (past_headers n header).octets → IsPast n header (past_headers n header)
unfolding past_headers
past-in zero header are udp some = record {
  headers = [];
  few = omega arith;
  are = tt;
  number = udp;
  laid = refl;
  left = omega arith;
}
past-in (suc n) header are udp some =
    let same = past-first_header n header in
    subst (IsPast (suc n) header) (sym same)
    (past_by n header are (λ next bytes of_udp more. past-in n next bytes of_udp more) (past_header header) (step_of header)
    (ap (λ (h : NextHeader). h.number) (sym same) ∙ udp) (subst (λ (h : NextHeader). 0 < length h.octets) same some))

-- ---- IPv6

module _ (octets : List ℕ) (are : AreOctets octets) where
  abbrev ip6_of : Ipv6Header
  ip6_of = record {
    class = slice_index octets 0 % 2 ^ 4;
    flow = network_number 1 3 octets;
    hop_limit = slice_index octets 7;
    sender = network_number 8 16 octets;
    destination = network_number 24 16 octets;
  }

  ipv6_header_is : 40 ≤ length octets → ip_version octets ≡ 6 → octets ≡ ipv6_header ip6_of (payload_len octets) (slice_index octets 6) ++ drop 40 octets
  ipv6_header_is long version =
      let first : slice_index octets 0 ≡ 6 * 2 ^ 4 + ip6_of.class = omega (arith, version) in
      let addresses : drop 8 octets ≡ big_bytes 16 ip6_of.sender ++ (big_bytes 16 ip6_of.destination ++ drop 40 octets) =
      field_is 8 16 octets are (omega arith) ∙ ap (λ (t : List ℕ). big_bytes 16 ip6_of.sender ++ t) (field_is 24 16 octets are (omega arith)) in
      let from_number : drop 6 octets ≡ slice_index octets 6 ∷ ip6_of.hop_limit ∷ drop 8 octets =
      octet_is 6 octets (omega arith) ∙ ap (λ (t : List ℕ). slice_index octets 6 ∷ t) (octet_is 7 octets (omega arith)) in
      let from_flow : drop 1 octets ≡ big_bytes 3 ip6_of.flow ++ (big_bytes 2 (payload_len octets) ++ drop 6 octets) =
      field_is 1 3 octets are (omega arith) ∙ ap (λ (t : List ℕ). big_bytes 3 ip6_of.flow ++ t) (field_is 4 2 octets are (omega arith)) in
      octet_is 0 octets (omega arith) ∙ ap (λ (n : ℕ). n ∷ drop 1 octets) first
      ∙ ap (λ (t : List ℕ). (6 * 2 ^ 4 + ip6_of.class) ∷ t) (from_flow
      ∙ ap (λ (t : List ℕ). big_bytes 3 ip6_of.flow ++ (big_bytes 2 (payload_len octets) ++ t)) (from_number
      ∙ ap (λ (t : List ℕ). slice_index octets 6 ∷ ip6_of.hop_limit ∷ t) addresses))

ipv6_in : (octets : List ℕ) (all : ℕ) (payload : List ℕ) (upper : NextHeader) → AreOctets octets → 40 ≤ length octets → ip_version octets ≡ 6 → 40 + payload_len octets ≤ all
    → IsPast 8 (first_header octets) upper → IsUdp (ipv6_ends octets) upper.octets upper.whole payload → IsIp 0x86dd (ipv6_ends octets) octets all payload
ipv6_in octets all payload upper are long version there past is =
    let ip = ip6_of octets are in
    let total = payload_len octets in
    let headers = past.headers in
    let inner = extensions headers in
    let carried = udp_octets is.udp in
    let size : length carried ≡ 8 + length is.udp.payload = omega arith in
    let number = number_fits 4 2 octets are in
    let more = total - length inner - length carried in
    let fits = is.fits in
    let left = past.left in
    let total_is : total ≡ length inner + (length carried + more) = omega arith in
    let tail = drop total (drop 40 octets) in
    let after = is.rest ++ tail in
    let kept : take total (drop 40 octets) ≡ inner ++ (carried ++ is.rest) = past.laid ∙ ap (λ (t : List ℕ). inner ++ t) is.whole in
    let rest : drop 40 octets ≡ (inner ++ carried) ++ after =
    part_is total (drop 40 octets) ∙ ap (λ (t : List ℕ). t ++ tail) (kept ∙ sym (append_assoc inner carried is.rest)) ∙ append_assoc (inner ++ carried) is.rest tail in
    let header_is : ipv6_header ip total (slice_index octets 6) ≡ ipv6_header ip (length inner + (length carried + more)) (first_number headers) =
    ap (λ (n : ℕ). ipv6_header ip n (slice_index octets 6)) total_is ∙ ap (ipv6_header ip (length inner + (length carried + more))) past.number in
    let packet = ipv6_octets ip headers carried more in
    record {
      packet = packet;
      after = after;
      more = more;
      some = omega arith;
      is_whole = (
        is.udp,
        is.is_babel,
        inr (record {
          is_type = refl;
          ip = ip;
          are_ends = refl;
          headers = headers;
          few = past.few;
          are_headers = past.are;
          fits = record {
            class_fits = omega arith;
            sender_fits = number_fits 8 16 octets are;
            destination_fits = number_fits 24 16 octets are;
            link_local = number_is (network_number 8 16 octets / 2 ^ 118) 0x3fa is.may;
            len_fits = omega (arith, number, total_is);
          };
          is_packet = refl;
        }),
        ap carries is.payload_is,
      );
      whole = ipv6_header_is octets are long version ∙ ap (λ (t : List ℕ). t ++ drop 40 octets) header_is
          ∙ ap (λ (t : List ℕ). ipv6_header ip (length inner + (length carried + more)) (first_number headers) ++ t) rest
          ∙ sym (append_assoc (ipv6_header ip (length inner + (length carried + more)) (first_number headers)) (inner ++ carried) after);
      fits = omega (arith, length-append inner carried, total_is, there);
    }

module _ (place : Place) (octets : List ℕ) (all : ℕ) (are : AreOctets octets) where
  abbrev Over6 : Place → Ends → List ℕ → Type 0
  Over6 = IpSeen place 0x86dd octets all

  some_udp : (ends : Ends) (carried : List ℕ) (whole : ℕ) (payload : List ℕ) → IsUdp ends carried whole payload → 0 < length carried
  some_udp ends carried whole payload is = omega (arith, ap length is.whole, length-append (udp_octets is.udp) is.rest)

  ipv6_carried_seen : ip_version octets ≡ 6 → (past_headers 8 (first_header octets)).number ≡ 17 → OnPacket Over6 (ipv6_carried_sight place octets all (past_headers 8 (first_header octets)))
  ipv6_carried_seen version udp =
      let total = payload_len octets in
      let upper = past_headers 8 (first_header octets) in
      let cut = nat_lt all (40 + total) in
      let bytes = All-take (λ (octet : ℕ). octet < 256) total (drop 40 octets) (All-drop (λ (octet : ℕ). octet < 256) 40 octets are) in
      let carried : Sight = udp_sight place (ipv6_ends octets) cut upper.octets upper.whole in
      let none : Sight = unkept_sight upper.whole in
      choose Over6 (nat_lt (length octets) 40) none carried (λ _. unless Over6 (nat_lt upper.whole 4) other too_short tt (λ _. tt)) (λ long.
      on-map (UdpSeen place (ipv6_ends octets) cut upper.octets upper.whole) Over6
      (λ there from payload seen. (
        seen.0,
        subst (λ (s : Ends). IsIp 0x86dd s octets all payload) (sym seen.1)
            (ipv6_in octets all payload upper are (room (length octets) 40 long) version (room all (40 + total) seen.2)
            (past-in 8 (first_header octets) bytes udp (some_udp (ipv6_ends octets) upper.octets upper.whole payload seen.3)) seen.3),
      ))
      carried (udp_seen place (ipv6_ends octets) upper.octets upper.whole (past-bytes 8 (first_header octets) bytes) cut))

  ipv6_fragment_seen : OnPacket Over6 (ipv6_fragment_sight place octets all (past_headers 8 (first_header octets)))
  ipv6_fragment_seen =
      let header = past_headers 8 (first_header octets) in
      let ip = ipv6_fragment place octets all header in
      let is_short = nat_lt (length octets) 40 || nat_lt (length header.octets) 8 in
      let kept : Sight = if is_short then too_short else fragment_sight ip in
      unless Over6 (nat_lt header.whole 8) other kept tt (λ _. unless Over6 is_short too_short (fragment_sight ip) tt (λ _. fragment_seen Over6 ip))

  pub ipv6_seen : OnPacket Over6 (ipv6_sight place octets all)
  unfolding ipv6_sight
  ipv6_seen =
      let upper = past_headers 8 (first_header octets) in
      let carried : Sight = ipv6_carried_sight place octets all upper in
      let fragment : Sight = ipv6_fragment_sight place octets all upper in
      let unkept : Sight = if is_unkept upper then too_short else other in
      let no_udp : Sight = if upper.number == 44 && not upper.in_fragment then fragment else unkept in
      let of_upper : Sight = upper_sight place octets all upper in
      let told : Sight = if nat_lt (length octets) 7 then too_short else of_upper in
      let is_other = not (ip_version octets == 6) in
      let ip : Sight = if is_other then other else told in
      unless Over6 (nat_lt (length octets) 1) too_short ip tt (λ _.
      unless Over6 is_other other told tt (λ version.
      unless Over6 (nat_lt (length octets) 7) too_short of_upper tt (λ _.
      choose Over6 (upper.number == 17) carried no_udp
      (λ udp. ipv6_carried_seen (number_is (ip_version octets) 6 (not_not (ip_version octets == 6) version)) (number_is upper.number 17 udp))
      (λ _. choose Over6 (upper.number == 44 && not upper.in_fragment) fragment unkept (λ _. ipv6_fragment_seen) (λ _. unless Over6 (is_unkept upper) too_short other tt (λ _. tt))))))
