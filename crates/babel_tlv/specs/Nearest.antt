-- The parser state in the words of RFC 8966, 4.5: what stands before a TLV of a packet is what the
-- nearest earlier TLV set that sets it, or else what a packet begins with.
use Rattle.std.specs.Prelude.{◌≡◌, ℕ, List, [], ◌∷◌, ◌++◌, Option, Some, None, ◌⊎◌}
use Rattle.babel_prefix.specs.declared.family.Family.{Family}
use Rattle.babel_prefix.specs.Address.{Address}
use Rattle.babel_tlv.specs.declared.prefix_encoding.PrefixEncoding.{PrefixEncoding}
use Rattle.babel_tlv.specs.declared.start.Start.{Start}
use Rattle.babel_tlv.specs.Framing.{TlvAt}
use Rattle.babel_tlv.specs.Context.{context_after, given_default, given_next_hop, given_router_id}
use Rattle.babel_tlv.specs.Context.{of_family}
use Rattle.babel_tlv.specs.Kept.{kept_for, prefix_for}

-- `sets before tlv` is what a TLV sets where these TLVs came before it in its packet, if it sets
-- any. All lists of TLVs have the latest first.

-- no TLV of `later` sets it, where `before` came before them
abbrev pub SetsNone : (X : Type 0) → (List TlvAt → TlvAt → Option X) → (later before : List TlvAt)
    → Type 0
SetsNone X sets later before =
    (front : List TlvAt) (tlv : TlvAt) (back : List TlvAt) → later ≡ front ++ tlv ∷ back
    → sets (back ++ before) tlv ≡ None

-- one of the earlier TLVs sets it to this value, and none after that one sets it
pub record IsSetTo (X : Type 0) (sets : List TlvAt → TlvAt → Option X) (earlier : List TlvAt)
    (value : X) : Type 0 where
  pub later : List TlvAt
  pub tlv : TlvAt
  pub before : List TlvAt
  pub whole : earlier ≡ later ++ tlv ∷ before
  pub sets_it : sets before tlv ≡ Some value
  pub none_later : SetsNone X sets later (tlv ∷ before)

-- what stands is what an earlier TLV sets it to, if one does, or else what a packet begins with
abbrev pub IsNearest : (X : Type 0) → (List TlvAt → TlvAt → Option X) → (begins : Option X)
    → (earlier : List TlvAt) → (stands : Option X) → Type 0
IsNearest X sets begins earlier stands =
    ((value : X) × IsSetTo X sets earlier value × (stands ≡ Some value))
    ⊎ (SetsNone X sets earlier [] × (stands ≡ begins))

-- the default prefix of an encoding, which a packet begins without
abbrev pub DefaultIsNearest : Type 0
DefaultIsNearest = (start : Start) (encoding : PrefixEncoding) (earlier : List TlvAt)
    → IsNearest Address (λ before tlv. given_default (context_after start before) encoding tlv)
    None earlier (prefix_for encoding (context_after start earlier).defaults)

-- the next hop of a family; a packet begins with the sender as that of its family
abbrev pub NextHopIsNearest : Type 0
NextHopIsNearest = (start : Start) (family : Family) (earlier : List TlvAt)
    → IsNearest Address (λ before tlv. given_next_hop family tlv)
    (of_family family start.sender) earlier
    (kept_for family (context_after start earlier).next_hops)

-- the router-id, which a packet begins without
abbrev pub RouterIdIsNearest : Type 0
RouterIdIsNearest = (start : Start) (earlier : List TlvAt)
    → IsNearest (List ℕ) (λ before tlv. given_router_id (context_after start before) tlv)
    None earlier (context_after start earlier).router_id
