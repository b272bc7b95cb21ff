-- Babel datagrams in IP packets, as their headers lay them out: RFC 768; RFC 791, 3.1; RFC 8200, 3.
use Rattle.std.specs.Prelude.{◌≡◌, ℕ, ◌+◌, ◌*◌, ◌/◌, ◌^◌, ◌<◌, ◌≤◌, ◌⊎◌, List, [], ◌∷◌, ◌++◌}
use Rattle.std.specs.Prelude.{length, Contains, Bool, ◌==◌, false, true}
use Rattle.std.specs.List.{All}
use Rattle.byteorder.specs.Endian.{big_bytes}
use Rattle.babel_prefix.specs.declared.family.Family.TheVariants.{V4, V6}
use Rattle.babel_capture.specs.declared.ends.Ends.{Ends}
use Rattle.babel_capture.specs.declared.place.Place.{Place}
use Rattle.babel_capture.specs.IpFragments.{IpFragment}
use Rattle.babel_capture.specs.Sight.{Carried, carries}

-- ---- UDP

-- RFC 768: source port, destination port, length of header and payload, checksum, and the payload
pub record UdpDatagram : Type 0 where
  pub source : ℕ
  pub destination : ℕ
  pub checksum : ℕ
  pub payload : List ℕ

abbrev pub udp_size : UdpDatagram → ℕ
udp_size udp = 8 + length udp.payload

abbrev pub udp_octets : UdpDatagram → List ℕ
udp_octets udp =
    big_bytes 2 udp.source ++ (big_bytes 2 udp.destination ++ (big_bytes 2 (udp_size udp)
    ++ (big_bytes 2 udp.checksum ++ udp.payload)))

-- RFC 8966, 4: both ports are that of Babel; the length fits its field
pub record IsBabel (udp : UdpDatagram) : Type 0 where
  pub source : udp.source ≡ 6696
  pub destination : udp.destination ≡ 6696
  pub len_fits : udp_size udp < 2 ^ 16

-- ---- IPv6

-- RFC 8200, 3: the high half of the traffic class; its low half and the flow label; hop limit,
-- source and destination
pub record Ipv6Header : Type 0 where
  pub class : ℕ
  pub flow : ℕ
  pub hop_limit : ℕ
  pub sender : ℕ
  pub destination : ℕ

-- RFC 8200, 4: an extension header: its number, and what it holds after the number of the next one
pub record Extension : Type 0 where
  pub number : ℕ
  pub holds : List ℕ

-- RFC 8200, 4.3, 4.4, 4.6: hop-by-hop options, routing or destination options: how many octets it
-- has, in units of 8 without the first, and these octets
pub record IsOptions (header : Extension) : Type 0 where
  pub is_number : Contains (0 ∷ 43 ∷ 60 ∷ []) header.number
  pub units : ℕ
  pub more : List ℕ
  pub is_held : header.holds ≡ units ∷ more
  pub sized : length more ≡ 6 + 8 * units

-- RFC 8200, 4.5: the header of the first fragment: a reserved octet, the offset 0, two reserved
-- bits, this flag of more fragments, and an identification
pub record IsFragment (flag : ℕ) (header : Extension) : Type 0 where
  pub is_number : header.number ≡ 44
  pub reserved : ℕ
  pub bits : ℕ
  pub bits_fit : bits < 2 ^ 2
  pub id : List ℕ
  pub is_held : header.holds ≡ reserved ∷ (big_bytes 2 (2 * bits + flag) ++ id)
  pub sized : length id ≡ 4

-- what a whole packet may have, in a fragment or not: an atomic fragment, RFC 6946, is all that
-- there is, and has no other in it
abbrev pub AreExtensions : (in_fragment : Bool) → List Extension → Type 0
AreExtensions in_fragment [] = Unit {0}
AreExtensions in_fragment (header ∷ headers) =
    (IsOptions header × AreExtensions in_fragment headers)
    ⊎ (IsFragment 0 header × (in_fragment ≡ false) × AreExtensions true headers)

-- the number of what comes first, an extension header if there are any, and else what is after
-- them, of this number; and the octets of these headers, each of which begins with the number of
-- what comes after it
abbrev pub first_before : List Extension → (last : ℕ) → ℕ
first_before [] last = last
first_before (header ∷ headers) last = header.number

abbrev pub extensions_before : List Extension → (last : ℕ) → List ℕ
extensions_before [] last = []
extensions_before (header ∷ headers) last =
    first_before headers last ∷ (header.holds ++ extensions_before headers last)

-- the same before UDP
abbrev pub first_number : List Extension → ℕ
first_number headers = first_before headers 17

abbrev pub extensions : List Extension → List ℕ
extensions headers = extensions_before headers 17

-- RFC 8200, 3: the fixed header, before so many octets, which begin with the header of this number
abbrev pub ipv6_header : Ipv6Header → ℕ → ℕ → List ℕ
ipv6_header ip len number =
    (6 * 2 ^ 4 + ip.class) ∷ (big_bytes 3 ip.flow ++ (big_bytes 2 len ++ number ∷ ip.hop_limit
    ∷ (big_bytes 16 ip.sender ++ big_bytes 16 ip.destination)))

-- RFC 8200, 3: a packet of UDP, after these extension headers, up to where so many octets more end
-- the packet
abbrev pub ipv6_octets : Ipv6Header → List Extension → List ℕ → (more : ℕ) → List ℕ
ipv6_octets ip headers carried more =
    ipv6_header ip (length (extensions headers) + (length carried + more)) (first_number headers)
    ++ (extensions headers ++ carried)

-- class, length and addresses fit their fields, and the sender begins with the ten bits of
-- fe80::/10: RFC 4291, 2.5.6; RFC 8966, 4
pub record IsIpv6 (ip : Ipv6Header) (len : ℕ) : Type 0 where
  pub class_fits : ip.class < 2 ^ 4
  pub sender_fits : ip.sender < 2 ^ 128
  pub destination_fits : ip.destination < 2 ^ 128
  pub link_local : ip.sender / 2 ^ 118 ≡ 0x3fa
  pub len_fits : len < 2 ^ 16

-- ---- IPv4

-- RFC 791, 3.1: the words of the options; type of service, identification, flags and fragment
-- offset, time to live, checksum, source, destination and options
pub record Ipv4Header : Type 0 where
  pub words : ℕ
  pub service : ℕ
  pub id : ℕ
  pub flags : ℕ
  pub ttl : ℕ
  pub checksum : ℕ
  pub sender : ℕ
  pub destination : ℕ
  pub options : List ℕ

-- the header of a packet of UDP, which carries so many octets
abbrev pub ipv4_header : Ipv4Header → ℕ → List ℕ
ipv4_header ip len =
    (4 * 2 ^ 4 + (5 + ip.words)) ∷ ip.service ∷ (big_bytes 2 (20 + 4 * ip.words + len)
    ++ (big_bytes 2 ip.id ++ (big_bytes 2 ip.flags ++ ip.ttl ∷ 17 ∷ (big_bytes 2 ip.checksum
    ++ (big_bytes 4 ip.sender ++ (big_bytes 4 ip.destination ++ ip.options))))))

-- RFC 791, 3.1: a packet of UDP, up to where so many octets more end the packet
abbrev pub ipv4_octets : Ipv4Header → List ℕ → (more : ℕ) → List ℕ
ipv4_octets ip carried more = ipv4_header ip (length carried + more) ++ carried

-- options, length and addresses fit their fields
pub record IsIpv4 (ip : Ipv4Header) (len : ℕ) : Type 0 where
  pub words_fit : ip.words ≤ 10
  pub options_len : length ip.options ≡ 4 * ip.words
  pub sender_fits : ip.sender < 2 ^ 32
  pub destination_fits : ip.destination < 2 ^ 32
  pub len_fits : 20 + 4 * ip.words + len < 2 ^ 16

-- ---- IP packets of Babel datagrams, with their EtherType: RFC 894; RFC 2464, 3

-- RFC 791, 3.1: a reserved bit and "don't fragment", whatever they are; this flag of more
-- fragments; and the offset 0
pub record HasFlags (flag flags : ℕ) : Type 0 where
  pub bits : ℕ
  pub bits_fit : bits < 2 ^ 2
  pub are_flags : flags ≡ (2 * bits + flag) * 2 ^ 13

-- the addresses of these headers
abbrev pub ends4 : Ipv4Header → Ends
ends4 ip = record {
  sender = record { family = V4; bits = ip.sender };
  destination = record { family = V4; bits = ip.destination };
}

abbrev pub ends6 : Ipv6Header → Ends
ends6 ip = record {
  sender = record { family = V6; bits = ip.sender };
  destination = record { family = V6; bits = ip.destination };
}

-- a whole one between these addresses, which is no fragment: the packet up to the end of the
-- datagram, and how many octets more it has, since IP may carry more than that (RFC 9868, 3)
pub record OverIpv4 (ether_type : ℕ) (ends : Ends) (udp : UdpDatagram) (packet : List ℕ)
    (more : ℕ) : Type 0 where
  pub is_type : ether_type ≡ 0x0800
  pub ip : Ipv4Header
  pub fits : IsIpv4 ip (length (udp_octets udp) + more)
  pub no_fragment : HasFlags 0 ip.flags
  pub are_ends : ends ≡ ends4 ip
  pub is_packet : packet ≡ ipv4_octets ip (udp_octets udp) more

pub record OverIpv6 (ether_type : ℕ) (ends : Ends) (udp : UdpDatagram) (packet : List ℕ)
    (more : ℕ) : Type 0 where
  pub is_type : ether_type ≡ 0x86dd
  pub ip : Ipv6Header
  pub are_ends : ends ≡ ends6 ip
  pub headers : List Extension
  pub few : length headers ≤ 8
  pub are_headers : AreExtensions false headers
  pub fits : IsIpv6 ip (length (extensions headers) + (length (udp_octets udp) + more))
  pub is_packet : packet ≡ ipv6_octets ip headers (udp_octets udp) more

abbrev pub IsOverIp : ℕ → Ends → UdpDatagram → List ℕ → (more : ℕ) → Type 0
IsOverIp ether_type ends udp packet more =
    OverIpv4 ether_type ends udp packet more ⊎ OverIpv6 ether_type ends udp packet more

-- ---- fragments of datagrams of UDP

-- RFC 791, 3.1: a reserved bit and "don't fragment", whatever they are; this flag of more
-- fragments, and the offset in units of 8 octets
pub record HasOffset (flag units flags : ℕ) : Type 0 where
  pub bits : ℕ
  pub bits_fit : bits < 2 ^ 2
  pub units_fit : units < 2 ^ 13
  pub are_flags : flags ≡ (2 * bits + flag) * 2 ^ 13 + units

-- it is one of several: more come after it, or it begins later
abbrev pub IsOfSeveral : (flag units : ℕ) → Type 0
IsOfSeveral flag units = (flag < 2) × (0 < flag + units)

pub record PartOverIpv4 (ether_type : ℕ) (place : Place) (packet : List ℕ)
    (fragment : IpFragment) : Type 0 where
  pub is_type : ether_type ≡ 0x0800
  pub ip : Ipv4Header
  pub carried : List ℕ
  pub flag : ℕ
  pub units : ℕ
  pub fits : IsIpv4 ip (length carried)
  pub id_fits : ip.id < 2 ^ 16
  pub of_several : IsOfSeveral flag units
  pub offset : HasOffset flag units ip.flags
  pub is_packet : packet ≡ ipv4_header ip (length carried) ++ carried
  pub is_fragment : fragment ≡ record {
    id = record {
      origin = record { place = place; sender = record { family = V4; bits = ip.sender } };
      destination = record { family = V4; bits = ip.destination };
      identification = ip.id;
    };
    offset = 8 * units;
    more = flag == 1;
    is_cut = false;
    carried = record {
      number = 17;
      octets = carried;
      whole = length carried;
      in_fragment = true;
    };
  }

-- RFC 8200, 4.5: the header of fragments: the number of what the datagram begins with, a reserved
-- octet, the offset in units of 8 octets, two reserved bits, this flag of more fragments, and the
-- identification
pub record PartHeader : Type 0 where
  pub next : ℕ
  pub reserved : ℕ
  pub units : ℕ
  pub bits : ℕ
  pub flag : ℕ
  pub id : ℕ

abbrev pub part_header : PartHeader → List ℕ
part_header part =
    part.next ∷ part.reserved
    ∷ (big_bytes 2 (8 * part.units + (2 * part.bits + part.flag)) ++ big_bytes 4 part.id)

pub record IsPartHeader (part : PartHeader) : Type 0 where
  pub units_fit : part.units < 2 ^ 13
  pub bits_fit : part.bits < 2 ^ 2
  pub id_fits : part.id < 2 ^ 32
  pub of_several : IsOfSeveral part.flag part.units

pub record PartOverIpv6 (ether_type : ℕ) (place : Place) (packet : List ℕ)
    (fragment : IpFragment) : Type 0 where
  pub is_type : ether_type ≡ 0x86dd
  pub ip : Ipv6Header
  pub headers : List Extension
  pub few : length headers ≤ 8
  pub are_headers : All IsOptions headers
  pub part : PartHeader
  pub is_part : IsPartHeader part
  pub carried : List ℕ
  pub class_fits : ip.class < 2 ^ 4
  pub sender_fits : ip.sender < 2 ^ 128
  pub destination_fits : ip.destination < 2 ^ 128
  pub len_fits : length (extensions_before headers 44) + (8 + length carried) < 2 ^ 16
  pub is_packet : packet
      ≡ ipv6_header ip (length (extensions_before headers 44) + (8 + length carried))
      (first_before headers 44)
      ++ (extensions_before headers 44 ++ (part_header part ++ carried))
  pub is_fragment : fragment ≡ record {
    id = record {
      origin = record { place = place; sender = record { family = V6; bits = ip.sender } };
      destination = record { family = V6; bits = ip.destination };
      identification = part.id;
    };
    offset = 8 * part.units;
    more = part.flag == 1;
    is_cut = false;
    carried = record {
      number = part.next;
      octets = carried;
      whole = length carried;
      in_fragment = true;
    };
  }

abbrev pub IsPartOverIp : ℕ → Place → List ℕ → IpFragment → Type 0
IsPartOverIp ether_type place packet fragment =
    PartOverIpv4 ether_type place packet fragment ⊎ PartOverIpv6 ether_type place packet fragment

-- what such a packet is seen as
abbrev pub IsWhole : ℕ → Ends → List ℕ → (more : ℕ) → Carried → Type 0
IsWhole ether_type ends packet more carried =
    (udp : UdpDatagram) × IsBabel udp × IsOverIp ether_type ends udp packet more
    × (carried ≡ carries udp.payload)
