-- What is told of a packet's requests: this project's own.
use Rattle.std.specs.Prelude.{ℕ, ◌/◌, ◌^◌, Bool, ◌==◌, ◌||◌, if◌then◌else◌, List, drop, map}
use Rattle.std.specs.Prelude.{Option, None, Some}
use Rattle.std.specs.List.{filter_map}
use Rattle.babel_prefix.specs.Address.{Address}
use Rattle.babel_prefix.specs.declared.family.Family.{Family}
use Rattle.babel_prefix.specs.declared.family.Family.TheVariants.{V4, V6}
use Rattle.babel_tlv.specs.declared.request.Request.{Request}
use Rattle.babel_tlv.specs.Framing.{tlvs_of}
use Rattle.babel_tlv.specs.Requests.{requested}
use Rattle.babel_timeline.specs.declared.telling.Telling.{Telling}
use Rattle.babel_timeline.specs.declared.telling.Telling.TheVariants as tellings

-- RFC 8966, 4.2: the body of a packet is what comes after its four first octets
abbrev pub body_of : (packet : List ℕ) → List ℕ
body_of packet = drop 4 packet

-- what the TLVs of a body request, in order
abbrev pub requests_in : (via_v6 : Bool) → (body : List ℕ) → List Request
requests_in via_v6 body = filter_map (requested via_v6) (tlvs_of 0 body)

-- RFC 4291, 2.7, RFC 1112, 4 and RFC 919, 7: the address is multicast, of ff00::/8 or 224.0.0.0/4,
-- or the limited broadcast, 255.255.255.255
abbrev pub is_of_many : Family → (bits : ℕ) → Bool
is_of_many V4 bits = bits / 2 ^ 28 == 0xe || bits == 0xffffffff
is_of_many V6 bits = bits / 2 ^ 120 == 0xff

-- the address, if it is that of one node
abbrev pub unicast : Address → Option Address
unicast address = if is_of_many address.family address.bits then None else Some address

-- what a packet of the sender, which came at this time, requests, and of whom
abbrev pub requests_told : {S : Type 0} → (via_v6 : Bool) → S → (to : Option Address) → (time : ℕ)
    → (packet : List ℕ) → List (Telling S)
requests_told via_v6 sender to time packet =
    map (tellings.Request time sender to) (requests_in via_v6 (body_of packet))
