-- What comes after an EtherType: IEEE 802.3, 3.2; IEEE 802.1Q, 9.
use Rattle.std.specs.Prelude.{ℕ, zero, suc, ◌-◌, Bool, ◌==◌, ◌&&◌, ◌||◌, nat_le, nat_lt, bit_and}
use Rattle.std.specs.Prelude.{if◌then◌else◌, List, length, drop}
use Rattle.babel_capture.specs.declared.place.Place.{Place}
use Rattle.babel_capture.specs.declared.place.Vlans.{Vlans}
use Rattle.babel_capture.specs.Ipv4.{ipv4_sight}
use Rattle.babel_capture.specs.Ipv6.{ipv6_sight}
use Rattle.babel_capture.specs.Octets.{network_number}
use Rattle.babel_capture.specs.Place.{with_vlan}
use Rattle.babel_capture.specs.Sight.{Sight, other, too_short}

-- an EtherType, the VLAN numbers of the tags before it, the octets after it that the recorder kept,
-- and how many there were
pub record Payload : Type 0 where
  pub ether_type : ℕ
  pub vlans : Vlans
  pub octets : List ℕ
  pub whole : ℕ

-- IEEE 802.1Q, 9: a customer's or a service provider's VLAN tag; 0x9100 and 0x9200 were used for
-- the second before the standard had it
abbrev pub is_tag : ℕ → Bool
is_tag ether_type =
    ether_type == 0x8100 || ether_type == 0x88a8 || ether_type == 0x9100 || ether_type == 0x9200

-- IEEE 802.1Q, 9.6: the VLAN number of a tag, the lower 12 bits of its first two octets
abbrev pub tag_number : List ℕ → ℕ
tag_number octets = bit_and (network_number 0 2 octets) 0x0fff

-- IEEE 802.1Q, 9: past a tag's two octets and the EtherType after them, if a tag comes next
unfoldable pub past_tag : Payload → Payload
past_tag payload =
    if is_tag payload.ether_type && nat_le 4 (length payload.octets) then record {
      ether_type = network_number 2 2 payload.octets;
      vlans = with_vlan payload.vlans (tag_number payload.octets);
      octets = drop 4 payload.octets;
      whole = payload.whole - 4;
    }
    else payload

-- past as many tags at most
unfoldable pub past_tags : ℕ → Payload → Payload
past_tags zero payload = payload
past_tags (suc n) payload = past_tag (past_tags n payload)

-- the place of a frame on an interface, with the VLANs that its tags name
abbrev pub in_vlans : Place → Vlans → Place
in_vlans place vlans = record place { vlans = vlans }

-- RFC 894; RFC 2464, 3: the EtherTypes of IPv4 and IPv6; nobody can tell after a tag that the
-- recorder did not keep
abbrev pub ip_sight : Place → Payload → Sight
ip_sight place payload =
    if payload.ether_type == 0x0800 then ipv4_sight place payload.octets payload.whole
    else if payload.ether_type == 0x86dd then ipv6_sight place payload.octets payload.whole
    else if is_tag payload.ether_type && nat_lt (length payload.octets) 4 then too_short
    else other

-- IPv4 or IPv6 after at most 4 tags
unfoldable pub typed_sight : Place → Payload → Sight
typed_sight place payload =
    let untagged : Payload = past_tags 4 payload in
    ip_sight (in_vlans place untagged.vlans) untagged
