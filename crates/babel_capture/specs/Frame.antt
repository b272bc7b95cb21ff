-- What a captured frame is to us, by its link type: the registry at tcpdump.org/linktypes.html.
use Rattle.std.specs.Prelude.{ℕ, ◌-◌, Bool, not, ◌==◌, ◌||◌, nat_lt, min, if◌then◌else◌, List}
use Rattle.std.specs.Prelude.{length, drop, Some}
use Rattle.byteorder.specs.Endian.{big_number, little_number}
use Rattle.babel_capture.specs.declared.link.Link.{Link}
use Rattle.babel_capture.specs.declared.link.Link.TheVariants as links
use Rattle.babel_capture.specs.declared.place.Place.{Place}
use Rattle.babel_capture.specs.Ethernet.{is_tag, typed_sight}
use Rattle.babel_capture.specs.Ipv4.{ipv4_sight}
use Rattle.babel_capture.specs.Ipv6.{ipv6_sight}
use Rattle.babel_capture.specs.Octets.{network_number, ip_version}
use Rattle.babel_capture.specs.Place.{no_vlans, place_on}
use Rattle.babel_capture.specs.Sight.{Sight, other, too_short}

-- a header of `len` octets, which has at `field` the EtherType of what comes after it
abbrev pub header_sight : ℕ → ℕ → Place → List ℕ → ℕ → Sight
header_sight field len place octets all =
    if nat_lt (length octets) len then too_short
    else typed_sight place (record {
      ether_type = network_number field 2 octets;
      vlans = no_vlans;
      octets = drop len octets;
      whole = all - len;
    })

-- what may have IP after it
abbrev pub leads_to_ip : ℕ → Bool
leads_to_ip ether_type = ether_type == 0x0800 || ether_type == 0x86dd || is_tag ether_type

-- the link that a cooked frame of version 2 names, at 4
abbrev pub on_link : ℕ → List ℕ → Place
on_link interface octets = record (place_on interface) { link = Some (network_number 4 4 octets) }

-- a cooked frame of version 2, whose header of 20 octets begins with the EtherType
abbrev pub cooked2_sight : ℕ → List ℕ → ℕ → Sight
cooked2_sight interface octets all =
    if nat_lt (length octets) 2 then too_short
    else if not (leads_to_ip (network_number 0 2 octets)) then other
    else header_sight 0 20 (on_link interface octets) octets all

-- an IP packet, of the version that it says
abbrev pub raw_sight : Place → List ℕ → ℕ → Sight
raw_sight place octets all =
    if nat_lt (length octets) 1 then too_short
    else if ip_version octets == 4 then ipv4_sight place octets all
    else if ip_version octets == 6 then ipv6_sight place octets all
    else other

-- the number of a protocol family in four octets, in the byte order in which it is the lower one
abbrev pub protocol_family : List ℕ → ℕ
protocol_family octets = min (big_number 4 octets) (little_number 4 octets)

-- IPv6 is 10 in Linux, 24 in NetBSD and OpenBSD, 28 in FreeBSD and 30 in macOS
abbrev pub is_ipv6_family : ℕ → Bool
is_ipv6_family family = family == 10 || family == 24 || family == 28 || family == 30

-- a protocol family, and then an IP packet; IPv4 is 2 everywhere
abbrev pub family_sight : Place → List ℕ → ℕ → Sight
family_sight place octets all =
    if nat_lt (length octets) 4 then too_short
    else if protocol_family octets == 2 then ipv4_sight place (drop 4 octets) (all - 4)
    else if is_ipv6_family (protocol_family octets)
    then ipv6_sight place (drop 4 octets) (all - 4)
    else other

-- A frame on this interface that had `all` octets, of which the recorder kept these first ones.
unfoldable pub frame_sight : ℕ → Link → List ℕ → ℕ → Sight
frame_sight interface links.Null octets all = family_sight (place_on interface) octets all
frame_sight interface links.Ethernet octets all = header_sight 12 14 (place_on interface) octets all
frame_sight interface links.RawIp octets all = raw_sight (place_on interface) octets all
frame_sight interface links.Loop octets all = family_sight (place_on interface) octets all
frame_sight interface links.Cooked octets all = header_sight 14 16 (place_on interface) octets all
frame_sight interface links.RawIpv4 octets all = ipv4_sight (place_on interface) octets all
frame_sight interface links.RawIpv6 octets all = ipv6_sight (place_on interface) octets all
frame_sight interface links.Cooked2 octets all = cooked2_sight interface octets all
