-- What of a packet that is read strictly is not read: this project's own.
use Rattle.std.specs.Prelude.{◌≡◌, ℕ, ◌+◌, List, [], ◌∷◌, ◌++◌, Option, None, Some, length}
use Rattle.std.specs.List.{flat_map}
use Rattle.babel_tlv.specs.declared.start.Start.{Start}
use Rattle.babel_tlv.specs.Framing.{ArePlaced, IsBody, TlvAt, packet_octets, tlv_octets}
use Rattle.babel_tlv.specs.Framing.{tlvs_of}
use Rattle.babel_tlv.specs.Says.{sayings_after}
use Rattle.babel_table.specs.Counts.{Counts, counts_of}
use Rattle.babel_dump.specs.Ignored.{IgnoresNone}
use Rattle.babel_dump.specs.Strict.{IsNotReadWhole}
use Rattle.babel_dump.specs.declared.input_fault.InputFault.{InputFault}
use Rattle.babel_dump.specs.declared.input_fault.InputFault.TheVariants as input_faults
use Rattle.babel_dump.specs.declared.unread_tlv.UnreadTlv.{UnreadTlv}

-- the report of the TLVs that a packet begins with
abbrev pub tlvs_report : Start → List TlvAt → Counts
tlvs_report start tlvs = counts_of (sayings_after start [] tlvs)

-- RFC 8966, 4.2: the packet, whose first octet lies at this offset, is TLVs
pub record IsOfTlvs (at : ℕ) (packet : List ℕ) (tlvs : List TlvAt) : Type 0 where
  pub rest : List ℕ
  pub whole : packet ≡ packet_octets tlvs ++ rest
  pub short : IsBody (flat_map tlv_octets tlvs)
  pub placed : ArePlaced (at + 4) tlvs

-- of these TLVs none is ignored before the last, for which a dump of them is refused
pub record IsRefusedLast (start : Start) (front : List TlvAt) (last : TlvAt) (fault : InputFault)
    : Type 0 where
  pub none : IgnoresNone (tlvs_report start front)
  pub unread : IsNotReadWhole None (tlvs_report start (front ++ last ∷ [])) fault

-- the packet is these TLVs, of which none is ignored
abbrev pub IsReadWholly : Start → (at : ℕ) → (packet : List ℕ) → Type 0
IsReadWholly start at packet =
    (tlvs : List TlvAt) × IsOfTlvs at packet tlvs × IgnoresNone (tlvs_report start tlvs)

-- the packet is these TLVs, and then the first that is ignored, and others
pub record IsReadTo (start : Start) (at : ℕ) (packet : List ℕ) (front : List TlvAt)
    (fault : InputFault) : Type 0 where
  pub last : TlvAt
  pub back : List TlvAt
  pub of_tlvs : IsOfTlvs at packet (front ++ last ∷ back)
  pub refused : IsRefusedLast start front last fault

-- ---- in the code

abbrev pub fault_of : UnreadTlv → InputFault
fault_of unread = input_faults.Ignored unread.tlv unread.ignores_encoding_4

-- the first TLV of a body that is ignored, if there is one
abbrev pub IsFirstIn : Start → (at : ℕ) → (body : List ℕ) → Option UnreadTlv → Type 0
IsFirstIn start at body None = IgnoresNone (tlvs_report start (tlvs_of at body))
IsFirstIn start at body (Some unread) =
    (front : List TlvAt) × (last : TlvAt) × (back : List TlvAt)
    × (tlvs_of at body ≡ front ++ last ∷ back)
    × (unread.before ≡ length (flat_map tlv_octets front))
    × IsRefusedLast start front last (fault_of unread)

-- the first TLV of a packet that is ignored, if there is one
abbrev pub IsFirstOf : Start → (at : ℕ) → (packet : List ℕ) → Option UnreadTlv → Type 0
IsFirstOf start at packet None = IsReadWholly start at packet
IsFirstOf start at packet (Some unread) =
    (front : List TlvAt) × IsReadTo start at packet front (fault_of unread)
    × (unread.before ≡ length (flat_map tlv_octets front))
