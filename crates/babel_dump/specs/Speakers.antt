-- Who speaks in a timeline of captures: this project's own.
use Rattle.std.specs.Prelude.{◌≡◌}
use Rattle.std.specs.declared.cmp.Ordering.{Ordering}
use Rattle.std.specs.declared.cmp.Ordering.TheVariants.{Equal}
use Rattle.std.specs.Ordering.{on, then_cmp}
use Rattle.std.proofs.Common.{ap, sym, ◌∙◌}
use Rattle.babel_prefix.specs.Address.{Address}
use Rattle.babel_prefix.specs.Order.{address_cmp}
use Rattle.babel_prefix.proofs.OrderLaws.{address_equality, then_parts}
use Rattle.babel_capture.specs.Tallies.{place_cmp}
use Rattle.babel_capture.specs.declared.place.Place.{Place}
use Rattle.babel_capture.proofs.TallyLaws.{place_exact}
use Rattle.babel_dump.specs.declared.speaker.Speaker.{Speaker}

-- by address, then by place
abbrev pub speaker_cmp : Speaker → Speaker → Ordering
speaker_cmp = then_cmp (on (λ s. s.sender) address_cmp) (on (λ s. s.place) place_cmp)

-- two that are equal in this order are one
pub speaker_exact : (a b : Speaker) → speaker_cmp a b ≡ Equal → a ≡ b
speaker_exact a b e =
    let parts = then_parts (address_cmp a.sender b.sender) (place_cmp a.place b.place) e in
    let of : Address → Place → Speaker = λ sender place.
    record { sender = sender; place = place } in
    ap (λ sender. of sender a.place) ((address_equality a.sender b.sender).0 parts.0)
    ∙ ap (of b.sender) (place_exact a.place b.place parts.1)

-- so are two that are equal in an order that answers the same
pub exact_by : (cmp : Speaker → Speaker → Ordering) → ((a b : Speaker) → cmp a b ≡ speaker_cmp a b)
    → (a b : Speaker) → cmp a b ≡ Equal → a ≡ b
exact_by cmp same a b e = speaker_exact a b (sym (same a b) ∙ e)
