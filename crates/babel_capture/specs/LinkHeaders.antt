-- What stands before an IP packet in a frame: IEEE 802.3, 3.2; IEEE 802.1Q, 9;
-- tcpdump.org/linktypes.html.
use Rattle.std.specs.Prelude.{◌≡◌, ◌≢◌, ℕ, ◌+◌, ◌*◌, ◌^◌, ◌<◌, ◌≤◌, ◌⊎◌, List, [], ◌∷◌, ◌++◌}
use Rattle.std.specs.Prelude.{length}
use Rattle.std.specs.Prelude.{fold, Some, Contains}
use Rattle.std.specs.List.{All}
use Rattle.byteorder.specs.Endian.{big_bytes, little_bytes}
use Rattle.babel_capture.specs.declared.link.Link.{Link}
use Rattle.babel_capture.specs.declared.link.Link.TheVariants as links
use Rattle.babel_capture.specs.declared.place.Place.{Place}
use Rattle.babel_capture.specs.declared.place.Vlans.{Vlans}
use Rattle.babel_capture.specs.Place.{no_vlans, place_on, with_vlan}

-- ---- VLAN tags

-- IEEE 802.1Q, 9: a tag: the EtherType that says that one comes next, its priority and drop bit,
-- and the number of its VLAN
pub record Tag : Type 0 where
  pub kind : ℕ
  pub priority : ℕ
  pub number : ℕ

-- priority with drop bit, and number, fit their 4 and 12 bits
pub record IsTag (tag : Tag) : Type 0 where
  pub is_kind : Contains (0x8100 ∷ 0x88a8 ∷ 0x9100 ∷ 0x9200 ∷ []) tag.kind
  pub priority_fits : tag.priority < 2 ^ 4
  pub number_fits : tag.number < 2 ^ 12

-- IEEE 802.1Q, 9: the EtherType of what comes next, a tag if there are any; and what comes after it
-- and before the packet: each tag's two octets and the next EtherType
abbrev pub first_type : List Tag → ℕ → ℕ
first_type [] ether_type = ether_type
first_type (tag ∷ tags) ether_type = tag.kind

abbrev pub after_type : List Tag → ℕ → List ℕ
after_type [] ether_type = []
after_type (tag ∷ tags) ether_type =
    big_bytes 2 (tag.priority * 2 ^ 12 + tag.number)
    ++ (big_bytes 2 (first_type tags ether_type) ++ after_type tags ether_type)

-- the VLANs that tags name, the outer one first
abbrev pub vlans_of : List Tag → Vlans
vlans_of tags = fold (λ vlans tag. with_vlan vlans tag.number) no_vlans tags

-- ---- link headers

-- so many octets, an EtherType, and up to four tags: by IEEE 802.3, 3.2, two addresses of six
-- octets; in frames of Linux cooked, version 1, fourteen octets
pub record IsTyped (front : ℕ) (interface ether_type : ℕ) (place : Place)
    (header : List ℕ) : Type 0 where
  pub addresses : List ℕ
  pub sized : length addresses ≡ front
  pub tags : List Tag
  pub few : length tags ≤ 4
  pub are_tags : All IsTag tags
  pub is_place : place ≡ record (place_on interface) { vlans = vlans_of tags }
  pub is_header : header
      ≡ addresses ++ (big_bytes 2 (first_type tags ether_type) ++ after_type tags ether_type)

-- Linux cooked, version 2: the EtherType, two octets, the number of the link, twelve octets more,
-- and up to four tags
pub record IsCooked2 (interface ether_type : ℕ) (place : Place) (header : List ℕ) : Type 0 where
  pub reserved : List ℕ
  pub link : ℕ
  pub more : List ℕ
  pub reserved_len : length reserved ≡ 2
  pub link_fits : link < 2 ^ 32
  pub more_len : length more ≡ 12
  pub tags : List Tag
  pub few : length tags ≤ 4
  pub are_tags : All IsTag tags
  pub is_place : place
      ≡ record { interface = interface; link = Some link; vlans = vlans_of tags }
  pub is_header : header
      ≡ big_bytes 2 (first_type tags ether_type)
      ++ (reserved ++ (big_bytes 4 link ++ (more ++ after_type tags ether_type)))

-- the number of a protocol family in four octets, in either byte order: of IPv4 2, of IPv6 that of
-- Linux, NetBSD and OpenBSD, FreeBSD or macOS
pub record IsFamily (interface ether_type : ℕ) (place : Place) (header : List ℕ) : Type 0 where
  pub family : ℕ
  pub is_family : ((ether_type ≡ 0x0800) × (family ≡ 2))
      ⊎ ((ether_type ≡ 0x86dd) × Contains (10 ∷ 24 ∷ 28 ∷ 30 ∷ []) family)
  pub is_place : place ≡ place_on interface
  pub is_header : (header ≡ big_bytes 4 family) ⊎ (header ≡ little_bytes 4 family)

-- what stands before an IP packet of this EtherType in a frame on this interface, which is seen at
-- this place
abbrev pub IsHeader : Link → ℕ → ℕ → Place → List ℕ → Type 0
IsHeader links.Null interface ether_type place header = IsFamily interface ether_type place header
IsHeader links.Loop interface ether_type place header = IsFamily interface ether_type place header
IsHeader links.Ethernet interface ether_type place header =
    IsTyped 12 interface ether_type place header
IsHeader links.Cooked interface ether_type place header =
    IsTyped 14 interface ether_type place header
IsHeader links.Cooked2 interface ether_type place header =
    IsCooked2 interface ether_type place header
IsHeader links.RawIp interface ether_type place header =
    (place ≡ place_on interface) × (header ≡ [])
IsHeader links.RawIpv4 interface ether_type place header =
    (ether_type ≡ 0x0800) × (place ≡ place_on interface) × (header ≡ [])
IsHeader links.RawIpv6 interface ether_type place header =
    (ether_type ≡ 0x86dd) × (place ≡ place_on interface) × (header ≡ [])

-- ---- what is no IP

-- a frame of these has an EtherType
abbrev pub HasEtherType : Link → Type 0
HasEtherType link = (link ≡ links.Ethernet) ⊎ (link ≡ links.Cooked) ⊎ (link ≡ links.Cooked2)

-- an EtherType, or a length in its place, that is none of IPv4, IPv6 and the tags
abbrev pub IsOtherType : ℕ → Type 0
IsOtherType ether_type =
    (ether_type < 2 ^ 16) × (ether_type ≢ 0x0800) × (ether_type ≢ 0x86dd) × (ether_type ≢ 0x8100)
    × (ether_type ≢ 0x88a8) × (ether_type ≢ 0x9100) × (ether_type ≢ 0x9200)

-- and a frame of these the number of a protocol family, here of none of IP's
abbrev pub HasFamily : Link → Type 0
HasFamily link = (link ≡ links.Null) ⊎ (link ≡ links.Loop)

abbrev pub IsOtherFamily : ℕ → Type 0
IsOtherFamily family =
    (family < 2 ^ 16) × (family ≢ 2) × (family ≢ 10) × (family ≢ 24) × (family ≢ 28)
    × (family ≢ 30)
