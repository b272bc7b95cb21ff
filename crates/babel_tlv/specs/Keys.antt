-- What holds of every key and every announcement (RFC 8966, 4.1.3, 4.6.9; RFC 9079, 3.2), and their
-- orders, which are this project's own.
use Rattle.std.specs.Prelude.{◌≡◌, ◌≢◌, ℕ, ◌<◌, ◌^◌, IsFalse, length, slice_index}
use Rattle.std.specs.declared.cmp.Ordering.{Ordering}
use Rattle.std.specs.Ordering.{on, then_cmp, nat_cmp}
use Rattle.std.specs.Cmp.Lexicographic.{slice_cmp}
use Rattle.babel_prefix.specs.Address.{IsAddress}
use Rattle.babel_prefix.specs.Covers.{IsAddressPrefix}
use Rattle.babel_prefix.specs.Order.{address_cmp, prefix_cmp}
use Rattle.babel_tlv.specs.Route.{RouteKey, Announcement, is_reserved}

-- its prefixes are of one family
abbrev pub AreOfOneFamily : RouteKey → Type 0
AreOfOneFamily key = key.dst.address.family ≡ key.src.address.family

-- what holds of every key
pub record IsKey (key : RouteKey) : Type 0 where
  pub dst : IsAddressPrefix key.dst
  pub src : IsAddressPrefix key.src
  pub one_family : AreOfOneFamily key

-- by destination, then by source
abbrev pub key_cmp : RouteKey → RouteKey → Ordering
key_cmp = then_cmp (on (λ key. key.dst) prefix_cmp) (on (λ key. key.src) prefix_cmp)

-- by router-id, octet by octet, then by seqno, metric and next hop
abbrev pub announcement_cmp : Announcement → Announcement → Ordering
announcement_cmp =
    then_cmp (on (λ ann. ann.router_id) (slice_cmp nat_cmp))
    (then_cmp (on (λ ann. ann.seqno) nat_cmp)
    (then_cmp (on (λ ann. ann.metric) nat_cmp) (on (λ ann. ann.next_hop) address_cmp)))

-- no router-id that is reserved, and no metric that is infinite
pub record IsAnnouncement (ann : Announcement) : Type 0 where
  pub eight : length ann.router_id ≡ 8
  pub octets : (i : ℕ) → slice_index ann.router_id i < 2 ^ 8
  pub unreserved : IsFalse (is_reserved ann.router_id)
  pub seqno_fits : ann.seqno < 2 ^ 16
  pub metric_fits : ann.metric < 2 ^ 16
  pub finite : ann.metric ≢ 65535
  pub next_hop_fits : IsAddress ann.next_hop
