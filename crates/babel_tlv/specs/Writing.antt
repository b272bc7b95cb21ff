-- What a packet being written keeps of the pairs that are in it, and how it goes on by a pair:
-- RFC 8966, 4.5; RFC 9229, 4.1.
use Rattle.std.specs.Prelude.{ℕ, List, ◌++◌, Option, Some}
use Rattle.babel_prefix.specs.declared.family.Family.{Family}
use Rattle.babel_prefix.specs.declared.family.Family.TheVariants.{V4, V6}
use Rattle.babel_prefix.specs.Address.{Address}
use Rattle.babel_tlv.specs.declared.prefix_encoding.PrefixEncoding.{PrefixEncoding}
use Rattle.babel_tlv.specs.declared.prefix_encoding.PrefixEncoding.TheVariants.{Ipv4, Ipv6}
use Rattle.babel_tlv.specs.declared.prefix_encoding.PrefixEncoding.TheVariants.{Ipv4ViaIpv6}
use Rattle.babel_tlv.specs.declared.held.Held.{Held}
use Rattle.babel_tlv.specs.declared.held.Held.TheVariants as helds
use Rattle.babel_tlv.specs.Encodings.{hop_family}
use Rattle.babel_tlv.specs.Kept.{Kept, KeptPrefixes, kept_for, kept_with, prefix_for, prefix_with}
use Rattle.babel_tlv.specs.Pair.{Pair}
use Rattle.babel_tlv.specs.Group.{pair_encoding, written_id, written_hop}
use Rattle.babel_tlv.specs.Group.{written_dst, route_tlvs, update_tlv}
use Rattle.babel_tlv.specs.Group.{shared_octets, held_seqno, held_metric}

-- what is current in the packet, for each family and each encoding
pub record Written : Type 0 where
  pub router_id : Option (List ℕ)
  pub next_hops : Kept
  pub dsts : KeptPrefixes

-- this stands for these pairs, the latest first
abbrev pub written_after : List Pair → Written
written_after earlier = record {
  router_id = written_id earlier;
  next_hops = record { v4 = written_hop V4 earlier; v6 = written_hop V6 earlier };
  dsts = record {
    v4 = written_dst Ipv4 earlier;
    v6 = written_dst Ipv6 earlier;
    v4_via_v6 = written_dst Ipv4ViaIpv6 earlier;
  };
}

-- the group of a pair, by what is current
abbrev pub route_in : Family → Written → Held → List ℕ
route_in family so_far held =
    route_tlvs so_far.router_id (kept_for family so_far.next_hops) held

abbrev pub group_in : Written → Pair → List ℕ
group_in so_far pair =
    let encoding = pair_encoding pair in
    route_in (hop_family encoding) so_far pair.1
    ++ update_tlv encoding (shared_octets (prefix_for encoding so_far.dsts) pair.0.dst) pair.0
    (held_seqno pair.1) (held_metric pair.1)

-- a route's Router-Id and Next Hop are current; an unreachable pair brings neither
abbrev pub with_held : Family → Held → Written → Written
with_held family (helds.Route ann) old = record old {
  router_id = Some ann.router_id;
  next_hops = kept_with family ann.next_hop old.next_hops;
}
with_held family helds.Unreachable old = old

-- the last Update of the encoding has this destination address
abbrev pub with_dst : PrefixEncoding → Address → Written → Written
with_dst encoding dst old = record old { dsts = prefix_with encoding dst old.dsts }

abbrev pub with_pair : Pair → Written → Written
with_pair pair old =
    let encoding = pair_encoding pair in
    with_dst encoding pair.0.dst.address (with_held (hop_family encoding) pair.1 old)
