-- The orders of keys, announcements and of what is held are total, and tell all values apart.
use Rattle.std.proofs.Common.{◌≡◌, ◌↔◌, ℕ, List, refl, ap, ◌∙◌, subst}
use Rattle.std.specs.Cmp.{IsTotalOrder}
use Rattle.std.specs.Cmp.Lexicographic.{slice_cmp}
use Rattle.std.specs.declared.cmp.Ordering.TheVariants.{Less, Equal}
use Rattle.std.specs.Ordering.{ordering_reverse, nat_cmp}
use Rattle.std.proofs.lemmas.Cmp.{nat_cmp_total, nat_list_cmp_total, on_total, then_total, tied_itself}
use Rattle.std.proofs.lemmas.Map.Lookups.{CmpEqualImpliesEq, exact_unsigned, exact_bytes}
use Rattle.babel_prefix.specs.Address.{Address, AddressPrefix}
use Rattle.babel_prefix.specs.Order.{address_cmp, prefix_cmp}
use Rattle.babel_prefix.proofs.OrderLaws.{address_total, prefix_total, address_equality, prefix_equality, then_parts}
use Rattle.babel_tlv.specs.declared.held.Held.{Held}
use Rattle.babel_tlv.specs.declared.held.Held.TheVariants as helds
use Rattle.babel_tlv.specs.Keys.{key_cmp, announcement_cmp}
use Rattle.babel_tlv.specs.Pairs.{held_cmp}
use Rattle.babel_tlv.specs.Route.{RouteKey, Announcement}

pub key_total : IsTotalOrder key_cmp
key_total = then_total (on_total (λ (k : RouteKey). k.dst) prefix_total) (on_total (λ (k : RouteKey). k.src) prefix_total)

pub announcement_total : IsTotalOrder announcement_cmp
announcement_total =
    then_total (on_total (λ (a : Announcement). a.router_id) nat_list_cmp_total)
    (then_total (on_total (λ (a : Announcement). a.seqno) nat_cmp_total)
    (then_total (on_total (λ (a : Announcement). a.metric) nat_cmp_total) (on_total (λ (a : Announcement). a.next_hop) address_total)))

abbrev key_of : AddressPrefix → AddressPrefix → RouteKey
key_of dst src = record { dst = dst; src = src }

-- keys that compare as equal are one
pub key_exact : CmpEqualImpliesEq key_cmp
key_exact a b e =
    let parts = then_parts (prefix_cmp a.dst b.dst) (prefix_cmp a.src b.src) e in
    ap (λ (p : AddressPrefix). key_of p a.src) ((prefix_equality a.dst b.dst).0 parts.0)
    ∙ ap (λ (p : AddressPrefix). key_of b.dst p) ((prefix_equality a.src b.src).0 parts.1)

abbrev announcement : List ℕ → ℕ → ℕ → Address → Announcement
announcement router_id seqno metric next_hop = record { router_id = router_id; seqno = seqno; metric = metric; next_hop = next_hop }

-- announcements that compare as equal are one
pub announcement_exact : CmpEqualImpliesEq announcement_cmp
announcement_exact a b e =
    let router_id = then_parts (slice_cmp nat_cmp a.router_id b.router_id) _ e in
    let seqno = then_parts (nat_cmp a.seqno b.seqno) _ router_id.1 in
    let metric = then_parts (nat_cmp a.metric b.metric) (address_cmp a.next_hop b.next_hop) seqno.1 in
    ap (λ (id : List ℕ). announcement id a.seqno a.metric a.next_hop) (exact_bytes a.router_id b.router_id router_id.0)
    ∙ ap (λ (n : ℕ). announcement b.router_id n a.metric a.next_hop) (exact_unsigned a.seqno b.seqno seqno.0)
    ∙ ap (λ (n : ℕ). announcement b.router_id b.seqno n a.next_hop) (exact_unsigned a.metric b.metric metric.0)
    ∙ ap (λ (hop : Address). announcement b.router_id b.seqno b.metric hop) ((address_equality a.next_hop b.next_hop).0 metric.1)

-- values held that compare as equal are one
pub held_exact : CmpEqualImpliesEq held_cmp
held_exact (helds.Route a) (helds.Route b) e = ap helds.Route (announcement_exact a b e)
held_exact (helds.Route a) helds.Unreachable e = absurd cc
held_exact helds.Unreachable (helds.Route b) e = absurd cc
held_exact helds.Unreachable helds.Unreachable e = refl

held_turned : (a b : Held) → held_cmp a b ≡ ordering_reverse (held_cmp b a)
held_turned (helds.Route a) (helds.Route b) = announcement_total.antisymm a b
held_turned (helds.Route a) helds.Unreachable = refl
held_turned helds.Unreachable (helds.Route b) = refl
held_turned helds.Unreachable helds.Unreachable = refl

held_chains : (a b c : Held) → held_cmp a b ≡ Less → held_cmp b c ≡ Less → held_cmp a c ≡ Less
held_chains (helds.Route a) (helds.Route b) (helds.Route c) p q = announcement_total.trans a b c p q
held_chains (helds.Route a) b helds.Unreachable p q = refl
held_chains (helds.Route a) helds.Unreachable (helds.Route c) p q = absurd cc
held_chains helds.Unreachable (helds.Route b) c p q = absurd cc
held_chains helds.Unreachable helds.Unreachable c p q = absurd cc

pub held_total : IsTotalOrder held_cmp
held_total = record {
  antisymm = held_turned;
  trans = held_chains;
  congr = λ a b c e. ap (λ h. held_cmp h c) (held_exact a b e);
}

-- two are equal in the order exactly if they are one
pub key_equality : (a b : RouteKey) → (key_cmp a b ≡ Equal) ↔ (a ≡ b)
key_equality a b = (key_exact a b, λ same. subst (λ c. key_cmp a c ≡ Equal) same (tied_itself key_total a))

pub announcement_equality : (a b : Announcement) → (announcement_cmp a b ≡ Equal) ↔ (a ≡ b)
announcement_equality a b = (announcement_exact a b, λ same. subst (λ c. announcement_cmp a c ≡ Equal) same (tied_itself announcement_total a))

pub held_equality : (a b : Held) → (held_cmp a b ≡ Equal) ↔ (a ≡ b)
held_equality a b = (held_exact a b, λ same. subst (λ c. held_cmp a c ≡ Equal) same (tied_itself held_total a))

-- what the laws of `laws` are proved by
pub ruleset totality = (key_total, announcement_total, held_total)

pub ruleset equality = (key_equality, announcement_equality, held_equality)
