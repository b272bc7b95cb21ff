-- Routes are one where their router-ids have one number, and their other fields are one.
use Rattle.std.proofs.Common.{◌≡◌, ℕ, List, ap, sym, ◌∙◌, rules, arith}
use Rattle.std.proofs.lemmas.Bool.Decides.{nat_tests}
use Rattle.std.proofs.lemmas.Nat.{be_bytes_8}
use Rattle.std.specs.Int.{w64, to_be_bytes}
use Rattle.babel_prefix.specs.Address.{Address}
use Rattle.babel_prefix.specs.declared.family.Family.{Family}
use Rattle.babel_tlv.specs.Reading.{announcement_of}
use Rattle.babel_tlv.specs.declared.held.Held.TheVariants as helds
use Rattle.babel_canon.proofs.values.are_one.Goals as goal

abbrev address : Family → ℕ → Address
address family bits = record { family = family; bits = bits }

pub returns-then-from_be_bytes : goal.returns-then-from_be_bytes
returns-then-from_be_bytes c is =
    let a = c.in-Route-Route.ann in
    let b = c.in-Route-Route.other in
    let bytes = c.from_be_bytes in
    let others = c.from_be_bytes-in-Route-Route in
    let octets = be_bytes_8 c.router_id.result bytes.result (search rules) (λ i. search rules) bytes.ensures in
    let other_octets = be_bytes_8 c.router_id-in-Route-Route.result others.result (search rules) (λ i. search rules) others.ensures in
    let ids : a.router_id ≡ b.router_id = sym c.router_id.ensures.value ∙ sym octets ∙ ap (to_be_bytes w64) c.if-from_be_bytes.true ∙ other_octets ∙ c.router_id-in-Route-Route.ensures.value in
    let numbers : (c.seqno.result ≡ c.seqno-then-from_be_bytes.result) × (c.metric.result ≡ c.metric-then-from_be_bytes.result)
    × (c.next_hop.result.bits ≡ c.next_hop-then-from_be_bytes.result.bits) = grind (arith, nat_tests, c.eq.ensures, is) in
    let family : c.next_hop.result.family ≡ c.next_hop-then-from_be_bytes.result.family = search rules in
    let hop : a.next_hop ≡ b.next_hop = sym c.next_hop.ensures.value ∙ ap (λ (f : Family). address f c.next_hop.result.bits) family
    ∙ ap (address _) numbers.2 ∙ c.next_hop-then-from_be_bytes.ensures.value in
    let same : a ≡ b =
    ap (λ (id : List ℕ). announcement_of id a.seqno a.metric a.next_hop) ids
    ∙ ap (λ (n : ℕ). announcement_of b.router_id n a.metric a.next_hop) (sym c.seqno.ensures.value ∙ numbers.0 ∙ c.seqno-then-from_be_bytes.ensures.value)
    ∙ ap (λ (n : ℕ). announcement_of b.router_id b.seqno n a.next_hop) (sym c.metric.ensures.value ∙ numbers.1 ∙ c.metric-then-from_be_bytes.ensures.value)
    ∙ ap (announcement_of b.router_id b.seqno b.metric) hop in
    c.in-Route-Route.is-0 ∙ ap helds.Route same ∙ sym c.in-Route-Route.is-1
