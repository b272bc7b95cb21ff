-- What the readings of one TLV give: RFC 8966, 4.6.8, 4.6.9.
use Rattle.std.specs.Prelude.{◌≡◌, ℕ, ◌+◌, ◌++◌, List, drop, replicate, take, slice_index, Option}
use Rattle.std.specs.Prelude.{Some, Result, Ok, MatchResult, if◌then◌else◌, unwrap_or, []}
use Rattle.std.specs.Option.{option_map}
use Rattle.babel_prefix.specs.declared.family.Family.{Family}
use Rattle.babel_prefix.specs.Address.{Address, AddressPrefix, octets_of}
use Rattle.babel_tlv.specs.declared.event.Event.{Event}
use Rattle.babel_tlv.specs.declared.event.Event.TheVariants as events
use Rattle.babel_tlv.specs.declared.next_hop.NextHop.{NextHop}
use Rattle.babel_tlv.specs.declared.prefix_encoding.PrefixEncoding.{PrefixEncoding}
use Rattle.babel_tlv.specs.declared.reason.Reason.{Reason}
use Rattle.babel_tlv.specs.declared.route.Route.{Route}
use Rattle.babel_tlv.specs.declared.router_id.RouterId.{RouterId}
use Rattle.babel_tlv.specs.declared.event_kind.EventKind.{EventKind}
use Rattle.babel_tlv.specs.Context.{Context}
use Rattle.babel_tlv.specs.Forming.{field_len, formed, hop_len, id_of, next_hop_in, octets_for}
use Rattle.babel_tlv.specs.Forming.{omitted, prefix_from, sets_default, sets_router_id}
use Rattle.babel_tlv.specs.Encodings.{prefix_family}
use Rattle.babel_tlv.specs.Framing.{TlvAt}
use Rattle.babel_tlv.specs.Kept.{prefix_for, prefix_with}
use Rattle.babel_tlv.specs.Route.{Announcement}
use Rattle.babel_tlv.specs.Says.{key_of, key_reason, key_tells, unless_ignored}
use Rattle.babel_tlv.specs.EventKinds.{event_of}

-- a TLV of this type, wherever it lies
abbrev pub unplaced : ℕ → List ℕ → TlvAt
unplaced kind body = record { at = 0; kind = kind; body = body }

-- the sub-TLVs of a Next Hop's body, and of an Update's
abbrev pub hop_sub_tlvs : List ℕ → List ℕ
hop_sub_tlvs body = drop (2 + hop_len (slice_index body 0)) body

abbrev pub update_sub_tlvs : List ℕ → List ℕ
update_sub_tlvs body = drop (10 + field_len body) body

-- the octets of a default prefix, none if it is undefined
abbrev pub default_octets : Option Address → List ℕ
default_octets default = unwrap_or (option_map octets_of default) []

-- RFC 9079, 7.1: the prefix of a Source Prefix that is not faulty
abbrev pub source_prefix : Family → List ℕ → AddressPrefix
source_prefix family body =
    prefix_from family (slice_index body 0) (take (octets_for (slice_index body 0)) (drop 1 body))

-- the prefix that an Update of an encoding forms
abbrev pub formed_by : Context → PrefixEncoding → List ℕ → Result AddressPrefix Reason
formed_by context encoding body =
    formed (prefix_family encoding) (prefix_for encoding context.defaults) body

-- the first n of these octets, and zeros where there are fewer
abbrev pub padded : ℕ → List ℕ → List ℕ
padded n octets = take n (octets ++ replicate n 0)

-- the octets of an Update's prefix: those omitted, of the default prefix, and those that it brings
abbrev pub joined_octets : Option Address → List ℕ → List ℕ
joined_octets default body =
    take (omitted body) (default_octets default) ++ take (field_len body) (drop 10 body)

-- a route by the fields of its announcement
abbrev pub announcement_of : List ℕ → ℕ → ℕ → Address → Announcement
announcement_of router_id seqno metric next_hop =
    record { router_id = router_id; seqno = seqno; metric = metric; next_hop = next_hop }

-- a context after the flags of an Update of an encoding that forms a prefix with this address
abbrev pub flags_set : List ℕ → PrefixEncoding → Address → Context → Context
flags_set body encoding a old = record old {
  defaults = if sets_default body then prefix_with encoding a old.defaults else old.defaults;
  router_id = if sets_router_id body then Some (id_of a) else old.router_id;
}

-- what an Update of an encoding that is read says
abbrev pub encoded_event : PrefixEncoding → Context → List ℕ → Event
encoded_event encoding context body =
    let key = key_of context encoding body in
    unless_ignored (key_reason context encoding body key) (key_tells context encoding body key)

-- a reading and a route say this, or it is the reason to ignore the TLV
abbrev pub GivesEvent : Event → Route → Result EventKind Reason → Type 0
GivesEvent event route result =
    MatchResult result (λ kind. event ≡ event_of kind route)
    (λ reason. event ≡ events.Ignored reason)

-- RFC 8966, 4.6.7: the router-id, and the sub-TLVs after it
abbrev pub IsRouterIdIn : List ℕ → RouterId → Type 0
IsRouterIdIn body read =
    (read.router_id ≡ take 8 (drop 2 body)) × (read.sub_tlvs.now ≡ drop 10 body)

-- RFC 8966, 4.6.8: the next hop, and the sub-TLVs after it
abbrev pub IsNextHopIn : List ℕ → NextHop → Type 0
IsNextHopIn body read = (next_hop_in body ≡ Ok read.addr) × (read.sub_tlvs.now ≡ hop_sub_tlvs body)
