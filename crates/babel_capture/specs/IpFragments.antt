-- IP packets that are fragments: RFC 791, 3.2; RFC 8200, 4.5.
use Rattle.std.specs.Prelude.{ℕ, ◌+◌, ◌-◌, ◌%◌, Bool, not, ◌==◌, ◌&&◌, nat_lt, length}
use Rattle.std.specs.Prelude.{if◌then◌else◌, Option, None, Some}
use Rattle.babel_prefix.specs.Address.{Address}
use Rattle.babel_prefix.specs.declared.family.Family.{Family}
use Rattle.babel_prefix.specs.declared.family.Family.TheVariants.{V4, V6}
use Rattle.babel_capture.specs.declared.fragment.DatagramId.{DatagramId}
use Rattle.babel_capture.specs.declared.fragment.UdpPlace.{UdpPlace}
use Rattle.babel_capture.specs.Headers.{NextHeader, is_unkept, past_headers}
use Rattle.babel_capture.specs.Sight.{Sight, other, too_short, fragmented}
use Rattle.babel_capture.specs.Udp.{is_babel, is_of_routers}

-- a fragment as its headers say: of which datagram, where in that it begins, in octets, whether
-- more come after it, and whether IP says more octets than its frame had; and what it carries,
-- which in the first fragment is a header of this number
pub record IpFragment : Type 0 where
  pub id : DatagramId
  pub offset : ℕ
  pub more : Bool
  pub is_cut : Bool
  pub carried : NextHeader

-- RFC 8966, 4: the groups that routers send to, 224.0.0.111 and ff02::1:6
abbrev pub is_group_by : Family → ℕ → Bool
is_group_by V4 bits = bits == 0xe000006f
is_group_by V6 bits = bits == 0xff020000000000000000000000010006

abbrev pub is_group : Address → Bool
is_group address = is_group_by address.family address.bits

-- RFC 791, 3.2; RFC 8200, 4.5: it is all there, ends at 65,535 octets or before, and has a multiple
-- of 8 octets if more come after it, and others before it if not
abbrev pub is_taken : IpFragment → Bool
is_taken ip =
    not ip.is_cut && nat_lt (ip.offset + ip.carried.whole) 65536
    && (if ip.more then not (ip.carried.whole == 0) && ip.carried.whole % 8 == 0
    else not (ip.offset == 0))

-- the fragment, where UDP begins there in the datagram
abbrev pub taken : IpFragment → Option UdpPlace → Sight
taken ip udp = fragmented (record {
  id = ip.id;
  offset = ip.offset;
  more = ip.more;
  len = ip.carried.whole;
  octets = ip.carried.octets;
  udp = udp;
  is_to_group = is_group ip.id.destination && ip.carried.number == 17;
})

-- UDP begins there in the datagram, if it is from or to the port of Babel
abbrev pub udp_place_in : IpFragment → NextHeader → Option UdpPlace
udp_place_in ip udp =
    if is_babel udp.octets then Some (record {
      at = ip.carried.whole - udp.whole;
      is_of_routers = is_of_routers udp.octets;
    })
    else None

-- RFC 7112, 5: the first fragment has all headers, here up to the end of that of UDP, which is this
-- one; else, or where its ports are others, the datagram is none of Babel
abbrev pub first_sight : IpFragment → NextHeader → Sight
first_sight ip upper =
    if upper.number == 17 then
    (if nat_lt upper.whole 8 then taken ip None
    else if nat_lt (length upper.octets) 4 then too_short
    else taken ip (udp_place_in ip upper))
    else if is_unkept upper then too_short
    else if upper.number == 44 then other
    else taken ip None

-- one that is not taken is passed over, and so is one in a fragment
abbrev pub fragment_sight : IpFragment → Sight
fragment_sight ip =
    if not (is_taken ip) then other
    else if ip.offset == 0 then first_sight ip (past_headers 8 ip.carried)
    else taken ip None
