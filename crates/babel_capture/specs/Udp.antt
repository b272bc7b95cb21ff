-- UDP datagrams of Babel: RFC 768; RFC 8966, 4.
use Rattle.std.specs.Prelude.{ℕ, ◌-◌, ◌/◌, ◌^◌, Bool, true, not, ◌==◌, ◌&&◌, ◌||◌, nat_lt}
use Rattle.std.specs.Prelude.{if◌then◌else◌, List, length, drop, take}
use Rattle.babel_prefix.specs.Address.{Address}
use Rattle.babel_prefix.specs.declared.family.Family.{Family}
use Rattle.babel_prefix.specs.declared.family.Family.TheVariants.{V4, V6}
use Rattle.babel_capture.specs.declared.ends.Ends.{Ends}
use Rattle.babel_capture.specs.declared.lack.Lack.TheVariants as lacks
use Rattle.babel_capture.specs.declared.place.Place.{Place}
use Rattle.babel_capture.specs.Octets.{network_number}
use Rattle.babel_capture.specs.Sight.{Sight, other, too_short, datagram}
use Rattle.babel_capture.specs.Sight.{other_port, not_link_local, lacking, carries}

-- RFC 768: the ports
abbrev pub source_port : List ℕ → ℕ
source_port octets = network_number 0 2 octets

abbrev pub destination_port : List ℕ → ℕ
destination_port octets = network_number 2 2 octets

-- RFC 8966, 4: from or to port 6696; and both, as routers send them and read them
abbrev pub is_babel : List ℕ → Bool
is_babel octets = source_port octets == 6696 || destination_port octets == 6696

abbrev pub is_of_routers : List ℕ → Bool
is_of_routers octets = source_port octets == 6696 && destination_port octets == 6696

-- RFC 4291, 2.5.6: an address of IPv6 in fe80::/10, which RFC 8966, 4, asks of a sender; of IPv4
-- any address is one
abbrev pub may_send_by : Family → ℕ → Bool
may_send_by V4 bits = true
may_send_by V6 bits = bits / 2 ^ 118 == 0x3fa

abbrev pub may_send : Address → Bool
may_send sender = may_send_by sender.family sender.bits

-- RFC 768: the octets of header and payload, as the header says
abbrev pub udp_len : List ℕ → ℕ
udp_len octets = network_number 4 2 octets

-- a datagram that routers read, by its length, if IP carries that much, and the recorder kept it
abbrev pub len_sight : Place → Ends → List ℕ → ℕ → Sight
len_sight place ends octets all =
    if nat_lt all 6 then other
    else if nat_lt (length octets) 6 then datagram place ends (lacking lacks.Snapped)
    else if nat_lt all (udp_len octets) then datagram place ends (lacking lacks.CutShort)
    else if nat_lt (udp_len octets) 8 then other
    else if nat_lt (length octets) (udp_len octets)
    then datagram place ends (lacking lacks.Snapped)
    else datagram place ends (carries (take (udp_len octets - 8) (drop 8 octets)))

-- a datagram from or to the port of Babel: the first of these that applies
abbrev pub babel_sight : Place → Ends → Bool → List ℕ → ℕ → Sight
babel_sight place ends is_cut octets all =
    if not (is_of_routers octets) then datagram place ends other_port
    else if not (may_send ends.sender) then datagram place ends not_link_local
    else if is_cut then datagram place ends (lacking lacks.CutShort)
    else len_sight place ends octets all

-- one of which fragments are missing: RFC 8200, 4.5
abbrev pub missing_sight : Place → Ends → (is_of_routers : Bool) → Sight
missing_sight place ends of_routers =
    if not of_routers then datagram place ends other_port
    else if not (may_send ends.sender) then datagram place ends not_link_local
    else datagram place ends (lacking lacks.Fragment)

-- what has no ports to be read: IP carries so many octets, too few for ports, or more
abbrev pub unkept_sight : ℕ → Sight
unkept_sight all = if nat_lt all 4 then other else too_short

-- RFC 768: what IP carries, which are `all` octets, of which the recorder kept these; whether IP
-- says more octets than its frame had
unfoldable pub udp_sight : Place → Ends → Bool → List ℕ → ℕ → Sight
udp_sight place ends is_cut octets all =
    if nat_lt all 4 then other
    else if nat_lt (length octets) 4 then too_short
    else if not (is_babel octets) then other
    else babel_sight place ends is_cut octets all
