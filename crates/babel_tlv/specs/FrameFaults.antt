-- Which TLVs a body is, which packet octets begin with, and the faults of octets that are neither:
-- RFC 8966, 4.2, 4.3.
use Rattle.std.specs.Prelude.{◌≡◌, ◌≢◌, ℕ, ◌+◌, ◌*◌, ◌<◌, ◌≤◌, List, [], ◌∷◌, ◌++◌, length}
use Rattle.std.specs.Prelude.{slice_index, ◌⊎◌}
use Rattle.std.specs.List.{flat_map}
use Rattle.babel_tlv.specs.declared.fault.Fault.{Fault}
use Rattle.babel_tlv.specs.declared.fault.Fault.TheVariants as faults
use Rattle.babel_tlv.specs.Framing.{TlvAt, tlv_octets, ArePlaced, framed, IsBody, packet_octets}
use Rattle.babel_tlv.specs.Framing.{ReadsAs}

-- RFC 8966, 4.3: the octets are these TLVs, the first at this offset
pub record AreTlvs (at : ℕ) (octets : List ℕ) (tlvs : List TlvAt) : Type 0 where
  pub whole : octets ≡ flat_map tlv_octets tlvs
  pub placed : ArePlaced at tlvs

-- octets that begin no TLV: a type other than 0 alone, or with too few octets after its length
abbrev pub BeginsNoTlv : List ℕ → Type 0
BeginsNoTlv [] = ⊥
BeginsNoTlv (kind ∷ []) = kind ≢ 0
BeginsNoTlv (kind ∷ len ∷ octets) = (kind ≢ 0) × (length octets < len)

-- the octets are TLVs up to this offset, where none begins
abbrev pub HasNoTlvAt : ℕ → List ℕ → ℕ → Type 0
HasNoTlvAt at octets place =
    (tlvs : List TlvAt) × (rest : List ℕ)
    × (octets ≡ flat_map tlv_octets tlvs ++ rest) × ArePlaced at tlvs
    × BeginsNoTlv rest × (place ≡ at + length (flat_map tlv_octets tlvs))

-- what the length field of a header says
abbrev pub body_len : List ℕ → ℕ
body_len octets = slice_index octets 2 * 256 + slice_index octets 3

-- the octets begin with a good header, and this is the body
abbrev pub BeginsPacket : List ℕ → List ℕ → Type 0
BeginsPacket octets body = IsBody body × (rest : List ℕ) × (octets ≡ framed body ++ rest)

-- at least four octets
abbrev pub HasHeader : List ℕ → Type 0
HasHeader octets = 4 ≤ length octets

-- 42 and 2, and less than the body
abbrev pub LacksBody : List ℕ → Type 0
LacksBody octets =
    HasHeader octets × (slice_index octets 0 ≡ 42) × (slice_index octets 1 ≡ 2)
    × (length octets < 4 + body_len octets)

-- a first octet other than 42, or a second one other than 2
abbrev pub HeaderFault : ℕ → List ℕ → Fault → Type 0
HeaderFault at octets (faults.BadMagic place) =
    (place ≡ at) × HasHeader octets × (slice_index octets 0 ≢ 42)
HeaderFault at octets (faults.BadVersion place) =
    (place ≡ at) × HasHeader octets × (slice_index octets 0 ≡ 42) × (slice_index octets 1 ≢ 2)
HeaderFault at octets fault = ⊥

-- the first place of a body, at the offset `at`, where no TLV begins
abbrev pub TlvPastEndAt : ℕ → List ℕ → Fault → Type 0
TlvPastEndAt at body fault =
    (place : ℕ) × HasNoTlvAt at body place × (fault ≡ faults.TlvPastEnd place)

-- The fault of octets, the first at the offset `at`, that begin with no packet whose body is TLVs:
-- that of the first check that fails.
abbrev pub PacketFault : ℕ → List ℕ → Fault → Type 0
PacketFault at octets fault =
    ((fault ≡ faults.Truncated at) × ((length octets < 4) ⊎ LacksBody octets))
    ⊎ HeaderFault at octets fault
    ⊎ ((body : List ℕ) × BeginsPacket octets body × TlvPastEndAt (at + 4) body fault)

-- whole packets, and then octets that aren't none and begin with no packet: their fault
abbrev pub FrameFault : List ℕ → Fault → Type 0
FrameFault octets fault =
    (packets : List (List TlvAt)) × (rest : List ℕ) × ReadsAs octets packets rest × (rest ≢ [])
    × PacketFault (length (flat_map packet_octets packets)) rest fault
