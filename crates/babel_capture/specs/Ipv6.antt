-- IPv6 packets: RFC 8200.
use Rattle.std.specs.Prelude.{ℕ, ◌+◌, ◌-◌, Bool, true, false, not, ◌==◌, ◌&&◌, ◌||◌, nat_lt}
use Rattle.std.specs.Prelude.{if◌then◌else◌, List, length, drop, take, slice_index}
use Rattle.babel_prefix.specs.declared.family.Family.TheVariants.{V6}
use Rattle.babel_capture.specs.declared.ends.Ends.{Ends}
use Rattle.babel_capture.specs.declared.place.Place.{Place}
use Rattle.babel_capture.specs.Headers.{NextHeader, fragment_offset, has_more_fragments}
use Rattle.babel_capture.specs.Headers.{past_headers, is_unkept}
use Rattle.babel_capture.specs.IpFragments.{IpFragment, fragment_sight}
use Rattle.babel_capture.specs.Octets.{network_number, ip_version}
use Rattle.babel_capture.specs.Sight.{Sight, other, too_short}
use Rattle.babel_capture.specs.Udp.{udp_sight, unkept_sight}

-- RFC 8200, 3: the octets after the fixed header of 40
abbrev pub payload_len : List ℕ → ℕ
payload_len octets = network_number 4 2 octets

abbrev pub ipv6_ends : List ℕ → Ends
ipv6_ends octets = record {
  sender = record { family = V6; bits = network_number 8 16 octets };
  destination = record { family = V6; bits = network_number 24 16 octets };
}

-- the first header after the fixed one, which says its number; the packet ends where its payload
-- does
abbrev pub first_header : List ℕ → NextHeader
first_header octets = record {
  number = slice_index octets 6;
  octets = take (payload_len octets) (drop 40 octets);
  whole = payload_len octets;
  in_fragment = false;
}

-- it says more octets than its frame had
abbrev pub is_cut : List ℕ → ℕ → Bool
is_cut octets all = nat_lt all (40 + payload_len octets)

-- UDP after the other headers of a packet, of which the recorder kept the fixed header or not
abbrev pub ipv6_carried_sight : Place → List ℕ → ℕ → NextHeader → Sight
ipv6_carried_sight place octets all upper =
    if nat_lt (length octets) 40 then unkept_sight upper.whole
    else udp_sight place (ipv6_ends octets) (is_cut octets all) upper.octets upper.whole

-- RFC 8200, 4.5: a fragment, by the header of fragments
abbrev pub ipv6_fragment : Place → List ℕ → ℕ → NextHeader → IpFragment
ipv6_fragment place octets all header = record {
  id = record {
    origin = record { place = place; sender = (ipv6_ends octets).sender };
    destination = (ipv6_ends octets).destination;
    identification = network_number 4 4 header.octets;
  };
  offset = fragment_offset header.octets;
  more = has_more_fragments header.octets;
  is_cut = is_cut octets all;
  carried = record {
    number = slice_index header.octets 0;
    octets = drop 8 header.octets;
    whole = header.whole - 8;
    in_fragment = true;
  };
}

abbrev pub ipv6_fragment_sight : Place → List ℕ → ℕ → NextHeader → Sight
ipv6_fragment_sight place octets all header =
    if nat_lt header.whole 8 then other
    else if nat_lt (length octets) 40 || nat_lt (length header.octets) 8 then too_short
    else fragment_sight (ipv6_fragment place octets all header)

-- RFC 768: UDP has the number 17; before another extension header whose octets the recorder did not
-- keep, nobody can tell. A packet with a second fragment header is passed over.
abbrev pub upper_sight : Place → List ℕ → ℕ → NextHeader → Sight
upper_sight place octets all upper =
    if upper.number == 17 then ipv6_carried_sight place octets all upper
    else if upper.number == 44 && not upper.in_fragment
    then ipv6_fragment_sight place octets all upper
    else if is_unkept upper then too_short
    else other

-- A packet, of which the recorder kept these octets, in a frame that had `all` octets from the
-- packet's first one on: what comes after at most 8 extension headers.
unfoldable pub ipv6_sight : Place → List ℕ → ℕ → Sight
ipv6_sight place octets all =
    if nat_lt (length octets) 1 then too_short
    else if not (ip_version octets == 6) then other
    else if nat_lt (length octets) 7 then too_short
    else upper_sight place octets all (past_headers 8 (first_header octets))
