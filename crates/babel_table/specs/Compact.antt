-- How rows are kept: the key and what is held, of one family, in parts. This project's own.
use Rattle.std.specs.Prelude.{◌≡◌, ◌≢◌, ◌==◌, if◌then◌else◌, ℕ, Bool, false, List}
use Rattle.std.specs.Cmp.{IsTotalOrder}
use Rattle.std.specs.List.{AllByRecursion}
use Rattle.std.proofs.lemmas.Cmp.{on_total, then_total}
use Rattle.babel_prefix.specs.declared.family.Family.{Family}
use Rattle.babel_prefix.specs.declared.family.Family.TheVariants.{V6}
use Rattle.babel_prefix.specs.Width.{same_family}
use Rattle.babel_prefix.specs.Address.{Address, AddressPrefix}
use Rattle.babel_prefix.specs.TotalOrder.{prefix_total}
use Rattle.babel_tlv.specs.declared.held.Held.{Held}
use Rattle.babel_tlv.specs.declared.held.Held.TheVariants as helds
use Rattle.babel_tlv.specs.Route.{RouteKey, Announcement}
use Rattle.babel_tlv.specs.Keys.{key_cmp, IsAnnouncement}

-- an address, a prefix and a key of a family, of their numbers
abbrev pub address_in : Family → ℕ → Address
address_in family bits = record { family = family; bits = bits }

abbrev pub prefix_in : Family → ℕ → ℕ → AddressPrefix
prefix_in family bits len = record { address = address_in family bits; len = len }

abbrev pub key_in : Family → ℕ → ℕ → ℕ → ℕ → RouteKey
key_in family dst dst_len src src_len = record {
  dst = prefix_in family dst dst_len;
  src = prefix_in family src src_len;
}

pub key_total : IsTotalOrder key_cmp
key_total = then_total (on_total (λ (k : RouteKey). k.dst) prefix_total)
    (on_total (λ (k : RouteKey). k.src) prefix_total)

-- RFC 8966, 4.6.9: where the metric is infinite there is no route
abbrev pub held_by : Announcement → Held
held_by ann = if ann.metric == 65535 then helds.Unreachable else helds.Route ann

abbrev pub IsHeldBy : Announcement → Type 0
IsHeldBy ann = ann.metric ≢ 65535 → IsAnnouncement ann

-- an announcement with a next hop that can be kept, or unreachable
abbrev pub CanKeep : (Address → Type 0) → Held → Type 0
CanKeep Fits (helds.Route ann) = IsAnnouncement ann × Fits ann.next_hop
CanKeep Fits helds.Unreachable = Unit {0}

-- RFC 9229: whether a route has a next hop of IPv6
abbrev pub is_via_v6 : Held → Bool
is_via_v6 (helds.Route ann) = same_family ann.next_hop.family V6
is_via_v6 helds.Unreachable = false

-- each key is of the family
abbrev pub AreOf : {V : Type 0} → Family → List (RouteKey × V) → Type 0
AreOf family rows = AllByRecursion (λ row. row.0.dst.address.family ≡ family) rows
