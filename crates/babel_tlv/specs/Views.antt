-- What of an announcement (RFC 8966, 4.6.9) counts: views, which are this project's own.
use Rattle.std.specs.Prelude.{◌≡◌, ℕ, true, if◌then◌else◌, List, [], ◌∷◌, Option, Some, None}
use Rattle.babel_prefix.specs.declared.family.Family.{Family}
use Rattle.babel_prefix.specs.Address.{Address}
use Rattle.babel_tlv.specs.declared.held.Held.{Held}
use Rattle.babel_tlv.specs.declared.held.Held.TheVariants as helds
use Rattle.babel_tlv.specs.declared.view.View.{View}
use Rattle.babel_tlv.specs.Route.{Announcement}

-- the view that keeps all four fields
abbrev pub keeps_all : View
keeps_all = record { next_hop = true; router_id = true; seqno = true; metric = true }

-- the fields that the view keeps are equal
pub record AgreeUnder (view : View) (ann other : Announcement) : Type 0 where
  pub next_hop : view.next_hop ≡ true → ann.next_hop ≡ other.next_hop
  pub router_id : view.router_id ≡ true → ann.router_id ≡ other.router_id
  pub seqno : view.seqno ≡ true → ann.seqno ≡ other.seqno
  pub metric : view.metric ≡ true → ann.metric ≡ other.metric

-- two routes whose kept fields are equal, or both unreachable
abbrev pub HeldSameUnder : View → Held → Held → Type 0
HeldSameUnder view (helds.Route ann) (helds.Route other) = AgreeUnder view ann other
HeldSameUnder view helds.Unreachable helds.Unreachable = Unit {0}
HeldSameUnder view held other = ⊥

-- two answers are the same under a view: both none, both unreachable, or both routes whose kept
-- fields are equal
abbrev pub SameUnder : View → Option Held → Option Held → Type 0
SameUnder view None None = Unit {0}
SameUnder view (Some held) (Some other) = HeldSameUnder view held other
SameUnder view answer other = ⊥

-- what stands for a next hop that is ignored, by the key's family: 0.0.0.0 or ::
abbrev pub no_address : Family → Address
no_address family = record { family = family; bits = 0 }

-- what stands for a router-id that is ignored: 0000000000000001
abbrev pub stated_id : List ℕ
stated_id = 0 ∷ 0 ∷ 0 ∷ 0 ∷ 0 ∷ 0 ∷ 0 ∷ 1 ∷ []

-- the announcement for a key of the family, with a stated value for each field that the view
-- ignores
abbrev pub seen_announcement : View → Family → Announcement → Announcement
seen_announcement view family ann = record {
  router_id = if view.router_id then ann.router_id else stated_id;
  seqno = if view.seqno then ann.seqno else 0;
  metric = if view.metric then ann.metric else 0;
  next_hop = if view.next_hop then ann.next_hop else no_address family;
}

-- what is seen of what is held for a key of the family
abbrev pub seen : View → Family → Held → Held
seen view family (helds.Route ann) = helds.Route (seen_announcement view family ann)
seen view family helds.Unreachable = helds.Unreachable
