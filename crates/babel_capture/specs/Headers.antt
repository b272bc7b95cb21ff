-- The extension headers of IPv6 packets: RFC 8200, 4.
use Rattle.std.specs.Prelude.{ℕ, zero, suc, ◌+◌, ◌-◌, ◌*◌, Bool, true, not, ◌==◌, ◌&&◌, ◌||◌, nat_lt}
use Rattle.std.specs.Prelude.{nat_le}
use Rattle.std.specs.Prelude.{bit_and}
use Rattle.std.specs.Prelude.{if◌then◌else◌, List, length, drop, slice_index}
use Rattle.babel_capture.specs.Octets.{network_number}

-- a header after the fixed one: its number; the octets from its first one on that the recorder
-- kept, and how many there were; and whether a fragment header came before it
pub record NextHeader : Type 0 where
  pub number : ℕ
  pub octets : List ℕ
  pub whole : ℕ
  pub in_fragment : Bool

-- RFC 8200, 4.3, 4.4, 4.6: the hop-by-hop options, routing and destination options headers
abbrev pub has_len : ℕ → Bool
has_len number = number == 0 || number == 43 || number == 60

-- RFC 8200, 4.3, 4.4, 4.6: their octets, which they give in units of 8, without the first
abbrev pub header_len : List ℕ → ℕ
header_len octets = 8 * (slice_index octets 1 + 1)

-- RFC 8200, 4.5: the fragment header, of 8 octets: where the fragment begins, in octets, and
-- whether more come after it. An atomic one (RFC 6946) begins at 0, and is all that there is.
abbrev pub fragment_offset : List ℕ → ℕ
fragment_offset octets = bit_and (network_number 2 2 octets) 0xfff8

abbrev pub has_more_fragments : List ℕ → Bool
has_more_fragments octets = not (bit_and (network_number 2 2 octets) 0x0001 == 0)

abbrev pub is_atomic : List ℕ → Bool
is_atomic octets = fragment_offset octets == 0 && not (has_more_fragments octets)

-- RFC 8200, 4.3 to 4.6: how many of its octets tell what comes after an extension header: number
-- and length; or, of the fragment header, number and offset
abbrev pub telling_len : ℕ → ℕ
telling_len number = if has_len number then 2 else if number == 44 then 4 else 0

-- the packet has the octets that tell it, and the recorder did not keep them
abbrev pub is_unkept : NextHeader → Bool
is_unkept header =
    nat_le (telling_len header.number) header.whole
    && nat_lt (length header.octets) (telling_len header.number)

-- Past the next header, where it is one of these. A packet has one fragment header at most.
unfoldable pub past_header : NextHeader → NextHeader
past_header header =
    if nat_lt (length header.octets) (telling_len header.number) then header
    else if has_len header.number then record {
      number = slice_index header.octets 0;
      octets = drop (header_len header.octets) header.octets;
      whole = header.whole - header_len header.octets;
      in_fragment = header.in_fragment;
    }
    else if header.number == 44 && is_atomic header.octets && not header.in_fragment then record {
      number = slice_index header.octets 0;
      octets = drop 8 header.octets;
      whole = header.whole - 8;
      in_fragment = true;
    }
    else header

-- past as many headers at most
unfoldable pub past_headers : ℕ → NextHeader → NextHeader
past_headers zero header = header
past_headers (suc n) header = past_header (past_headers n header)
