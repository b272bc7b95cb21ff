-- The address encodings: RFC 8966, 4.1.4; RFC 9229, 4.1.
use Rattle.std.specs.Prelude.{◌≡◌, ℕ, ◌<◌, Bool, ◌==◌, ◌&&◌, ◌||◌, nat_lt, [], ◌∷◌, find}
use Rattle.std.specs.Prelude.{Option, Some, None}
use Rattle.babel_prefix.specs.declared.family.Family.{Family}
use Rattle.babel_prefix.specs.declared.family.Family.TheVariants.{V4, V6}
use Rattle.babel_tlv.specs.declared.encoding.Encoding.{Encoding}
use Rattle.babel_tlv.specs.declared.encoding.Encoding.TheVariants as encodings
use Rattle.babel_tlv.specs.declared.prefix_encoding.PrefixEncoding.{PrefixEncoding}
use Rattle.babel_tlv.specs.declared.prefix_encoding.PrefixEncoding.TheVariants.{Ipv4, Ipv6}
use Rattle.babel_tlv.specs.declared.prefix_encoding.PrefixEncoding.TheVariants.{Ipv4ViaIpv6}

-- ---- the encodings in which Updates have prefixes. Each has a default prefix of its own.

-- the number of the encoding
abbrev pub number_of : PrefixEncoding → ℕ
number_of Ipv4 = 1
number_of Ipv6 = 2
number_of Ipv4ViaIpv6 = 4

-- the family of its prefixes, which are laid out as that family's addresses are
abbrev pub prefix_family : PrefixEncoding → Family
prefix_family Ipv4 = V4
prefix_family Ipv6 = V6
prefix_family Ipv4ViaIpv6 = V4

-- the family of the next hop of its routes
abbrev pub hop_family : PrefixEncoding → Family
hop_family Ipv4 = V4
hop_family Ipv6 = V6
hop_family Ipv4ViaIpv6 = V6

-- the encoding of this number, if it is one of these and is read: encoding 4, IPv4 prefixes with
-- IPv6 next hops (RFC 9229), only where this is asked
abbrev pub encoding_of : Bool → ℕ → Option PrefixEncoding
encoding_of via_v6 number =
    find (λ encoding. number == number_of encoding && (nat_lt (number_of encoding) 4 || via_v6))
    (Ipv4 ∷ Ipv6 ∷ Ipv4ViaIpv6 ∷ [])

-- ---- all encodings

-- the number names the encoding, where encoding 4 is read or not
abbrev pub IsNamedBy : Bool → Encoding → ℕ → Type 0
IsNamedBy via_v6 encodings.Wildcard number = number ≡ 0
IsNamedBy via_v6 (encodings.Prefix encoding) number = encoding_of via_v6 number ≡ Some encoding
IsNamedBy via_v6 encodings.LinkLocal number = number ≡ 3
IsNamedBy via_v6 (encodings.Other other) number =
    (other ≡ number) × (3 < number) × (encoding_of via_v6 number ≡ None)
