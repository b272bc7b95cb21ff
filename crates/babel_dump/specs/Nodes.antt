-- The nodes of links, each at the place where its link was captured: this project's own.
use Rattle.std.specs.Prelude.{◌≡◌, Bool}
use Rattle.std.specs.declared.cmp.Ordering.{Ordering}
use Rattle.std.specs.declared.cmp.Ordering.TheVariants.{Equal}
use Rattle.std.specs.Ordering.{is_eq, on, then_cmp}
use Rattle.std.proofs.Common.{ap, sym, ◌∙◌}
use Rattle.babel_prefix.specs.Address.{Address}
use Rattle.babel_prefix.specs.Order.{address_cmp}
use Rattle.babel_prefix.proofs.OrderLaws.{address_equality, then_parts}
use Rattle.babel_capture.specs.Tallies.{place_cmp}
use Rattle.babel_capture.specs.declared.place.Place.{Place}
use Rattle.babel_capture.specs.declared.tallies.Origin.{Origin}
use Rattle.babel_capture.proofs.TallyLaws.{place_exact}
use Rattle.babel_dump.specs.declared.node.Node.{Node}

-- by place, then by address
abbrev pub node_cmp : Node → Node → Ordering
node_cmp = then_cmp (on (λ n. n.place) place_cmp) (on (λ n. n.address) address_cmp)

-- the node with this address at the same place
abbrev pub beside : Node → Address → Node
beside node address = record { place = node.place; address = address }

abbrev pub are_beside : Node → Node → Bool
are_beside node other = is_eq (place_cmp node.place other.place)

-- a sender at its place
abbrev pub node_of : Origin → Node
node_of origin = record { place = origin.place; address = origin.sender }

abbrev pub origin_of : Node → Origin
origin_of node = record { place = node.place; sender = node.address }

-- two that are equal in this order are one
pub node_exact : (a b : Node) → node_cmp a b ≡ Equal → a ≡ b
node_exact a b e =
    let parts = then_parts (place_cmp a.place b.place) (address_cmp a.address b.address) e in
    let of : Place → Address → Node = λ place address.
    record { place = place; address = address } in
    ap (λ place. of place a.address) (place_exact a.place b.place parts.0)
    ∙ ap (of b.place) ((address_equality a.address b.address).0 parts.1)

-- so are two that are equal in an order that answers the same
pub exact_by : (cmp : Node → Node → Ordering) → ((a b : Node) → cmp a b ≡ node_cmp a b)
    → (a b : Node) → cmp a b ≡ Equal → a ≡ b
exact_by cmp same a b e = node_exact a b (sym (same a b) ∙ e)
