-- IPv4 packets: RFC 791.
use Rattle.std.specs.Prelude.{ℕ, ◌-◌, ◌*◌, Bool, not, ◌==◌, ◌||◌, nat_lt, bit_and, true}
use Rattle.std.specs.Prelude.{if◌then◌else◌, List, length, drop, take, slice_index}
use Rattle.babel_prefix.specs.declared.family.Family.TheVariants.{V4}
use Rattle.babel_capture.specs.declared.ends.Ends.{Ends}
use Rattle.babel_capture.specs.declared.place.Place.{Place}
use Rattle.babel_capture.specs.IpFragments.{IpFragment, fragment_sight}
use Rattle.babel_capture.specs.Octets.{network_number, ip_version}
use Rattle.babel_capture.specs.Sight.{Sight, other, too_short}
use Rattle.babel_capture.specs.Udp.{udp_sight}

-- RFC 791, 3.1: the octets of the header, which four bits give in words of 4 octets
abbrev pub ipv4_header_len : List ℕ → ℕ
ipv4_header_len octets = 4 * bit_and (slice_index octets 0) 0x0f

-- RFC 791, 3.1: the octets of header and data
abbrev pub total_len : List ℕ → ℕ
total_len octets = network_number 2 2 octets

-- RFC 791, 3.1: where a fragment begins, in octets, which 13 bits give in units of 8; more
-- fragments after this one
abbrev pub fragment_offset : List ℕ → ℕ
fragment_offset octets = 8 * bit_and (network_number 6 2 octets) 0x1fff

abbrev pub has_more_fragments : List ℕ → Bool
has_more_fragments octets = not (bit_and (network_number 6 2 octets) 0x2000 == 0)

-- RFC 791, 3.1; RFC 768: protocol 17
abbrev pub carries_udp : List ℕ → Bool
carries_udp octets = slice_index octets 9 == 17

abbrev pub ipv4_ends : List ℕ → Ends
ipv4_ends octets = record {
  sender = record { family = V4; bits = network_number 12 4 octets };
  destination = record { family = V4; bits = network_number 16 4 octets };
}

-- what is carried, from the end of the header to the total length, as far as it was kept
abbrev pub ipv4_carried : List ℕ → List ℕ
ipv4_carried octets = drop (ipv4_header_len octets) (take (total_len octets) octets)

-- how many octets that was
abbrev pub carried_len : List ℕ → ℕ
carried_len octets = total_len octets - ipv4_header_len octets

-- IP says more octets than its frame had
abbrev pub is_cut : List ℕ → ℕ → Bool
is_cut octets all = nat_lt all (total_len octets)

-- RFC 791, 3.2: a fragment, by its header
abbrev pub is_fragment : List ℕ → Bool
is_fragment octets = not (fragment_offset octets == 0) || has_more_fragments octets

abbrev pub ipv4_fragment : Place → List ℕ → ℕ → IpFragment
ipv4_fragment place octets all = record {
  id = record {
    origin = record { place = place; sender = (ipv4_ends octets).sender };
    destination = (ipv4_ends octets).destination;
    identification = network_number 4 2 octets;
  };
  offset = fragment_offset octets;
  more = has_more_fragments octets;
  is_cut = is_cut octets all;
  carried = record {
    number = 17;
    octets = ipv4_carried octets;
    whole = carried_len octets;
    in_fragment = true;
  };
}

-- what is carried by a packet of UDP of at least 20 octets
abbrev pub ipv4_carried_sight : Place → List ℕ → ℕ → Sight
ipv4_carried_sight place octets all =
    if is_fragment octets then fragment_sight (ipv4_fragment place octets all)
    else udp_sight place (ipv4_ends octets) (is_cut octets all) (ipv4_carried octets)
    (carried_len octets)

-- A packet, of which the recorder kept these octets, in a frame that had `all` octets from the
-- packet's first one on. RFC 791, 3.1: its header, by its first octets: each field is read if the
-- recorder kept it.
unfoldable pub ipv4_sight : Place → List ℕ → ℕ → Sight
ipv4_sight place octets all =
    if nat_lt (length octets) 1 then too_short
    else if not (ip_version octets == 4) || nat_lt (ipv4_header_len octets) 20 then other
    else if nat_lt (length octets) 10 then too_short
    else if not (carries_udp octets) then other
    else if nat_lt (length octets) 20 then too_short
    else ipv4_carried_sight place octets all
