-- An address of each family, and of a prefix of each encoding, if one is known: RFC 8966, 4.5;
-- RFC 9229, 4.1.
use Rattle.std.specs.Prelude.{◌≡◌, IfSome, Option, Some}
use Rattle.babel_prefix.specs.declared.family.Family.{Family}
use Rattle.babel_prefix.specs.declared.family.Family.TheVariants.{V4, V6}
use Rattle.babel_prefix.specs.Address.{Address, IsAddress}
use Rattle.babel_tlv.specs.declared.prefix_encoding.PrefixEncoding.{PrefixEncoding}
use Rattle.babel_tlv.specs.declared.prefix_encoding.PrefixEncoding.TheVariants.{Ipv4, Ipv6}
use Rattle.babel_tlv.specs.declared.prefix_encoding.PrefixEncoding.TheVariants.{Ipv4ViaIpv6}

-- an address of the family, if there is one
abbrev pub IsOfFamily : Family → Option Address → Type 0
IsOfFamily family a = IfSome a (λ hop. (hop.family ≡ family) × IsAddress hop)

pub record Kept : Type 0 where
  pub v4 : Option Address
  pub v6 : Option Address

pub record IsKept (kept : Kept) : Type 0 where
  pub v4 : IsOfFamily V4 kept.v4
  pub v6 : IsOfFamily V6 kept.v6

abbrev pub kept_for : Family → Kept → Option Address
kept_for V4 kept = kept.v4
kept_for V6 kept = kept.v6

abbrev pub kept_with : Family → Address → Kept → Kept
kept_with V4 a kept = record kept { v4 = Some a }
kept_with V6 a kept = record kept { v6 = Some a }

-- a prefix of each encoding, if one is known, as its address
pub record KeptPrefixes : Type 0 where
  pub v4 : Option Address
  pub v6 : Option Address
  pub v4_via_v6 : Option Address

pub record ArePrefixes (kept : KeptPrefixes) : Type 0 where
  pub v4 : IsOfFamily V4 kept.v4
  pub v6 : IsOfFamily V6 kept.v6
  pub v4_via_v6 : IsOfFamily V4 kept.v4_via_v6

abbrev pub prefix_for : PrefixEncoding → KeptPrefixes → Option Address
prefix_for Ipv4 kept = kept.v4
prefix_for Ipv6 kept = kept.v6
prefix_for Ipv4ViaIpv6 kept = kept.v4_via_v6

abbrev pub prefix_with : PrefixEncoding → Address → KeptPrefixes → KeptPrefixes
prefix_with Ipv4 a kept = record kept { v4 = Some a }
prefix_with Ipv6 a kept = record kept { v6 = Some a }
prefix_with Ipv4ViaIpv6 a kept = record kept { v4_via_v6 = Some a }
