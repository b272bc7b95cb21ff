-- Orders that tell any two values apart.
use Rattle.std.proofs.Common.{◌≡◌, ◌↔◌, refl, ◌∙◌, ap, subst}
use Rattle.std.specs.declared.cmp.Ordering.{Ordering}
use Rattle.std.specs.declared.cmp.Ordering.TheVariants.{Less, Equal, Greater}
use Rattle.std.specs.Ordering.{nat_cmp, ordering_then}
use Rattle.std.proofs.lemmas.Map.Lookups.{exact_unsigned}
use Rattle.std.proofs.lemmas.Cmp.{tied_itself}
use Rattle.babel_prefix.specs.declared.family.Family.{Family}
use Rattle.babel_prefix.specs.declared.family.Family.TheVariants.{V4, V6}
use Rattle.babel_prefix.specs.Address.{Address, AddressPrefix}
use Rattle.babel_prefix.specs.Order.{family_cmp, address_cmp, prefix_cmp}
pub use Rattle.babel_prefix.specs.TotalOrder.{family_total, address_total, prefix_total}

pub then_parts : (r s : Ordering) → ordering_then r s ≡ Equal → (r ≡ Equal) × (s ≡ Equal)
then_parts Less s e = cc
then_parts Equal s e = (refl, e)
then_parts Greater s e = cc

family_exact : (a b : Family) → family_cmp a b ≡ Equal → a ≡ b
family_exact V4 V4 e = refl
family_exact V4 V6 e = cc
family_exact V6 V4 e = cc
family_exact V6 V6 e = refl

address_exact : (a b : Address) → address_cmp a b ≡ Equal → a ≡ b
address_exact a b e =
    let parts = then_parts (family_cmp a.family b.family) (nat_cmp a.bits b.bits) e in
    let family = family_exact a.family b.family parts.0 in
    let bits = exact_unsigned a.bits b.bits parts.1 in
    ap (λ f. record { family = f; bits = a.bits }) family ∙ ap (λ n. record { family = b.family; bits = n }) bits

pub prefix_exact : (p q : AddressPrefix) → prefix_cmp p q ≡ Equal → p ≡ q
prefix_exact p q e =
    let parts = then_parts (address_cmp p.address q.address) (nat_cmp p.len q.len) e in
    let address = address_exact p.address q.address parts.0 in
    let len = exact_unsigned p.len q.len parts.1 in
    ap (λ a. record { address = a; len = p.len }) address ∙ ap (λ l. record { address = q.address; len = l }) len

-- two are equal in the order exactly if they are one
pub family_equality : (a b : Family) → (family_cmp a b ≡ Equal) ↔ (a ≡ b)
family_equality a b = (family_exact a b, λ same. subst (λ c. family_cmp a c ≡ Equal) same (tied_itself family_total a))

pub address_equality : (a b : Address) → (address_cmp a b ≡ Equal) ↔ (a ≡ b)
address_equality a b = (address_exact a b, λ same. subst (λ c. address_cmp a c ≡ Equal) same (tied_itself address_total a))

pub prefix_equality : (p q : AddressPrefix) → (prefix_cmp p q ≡ Equal) ↔ (p ≡ q)
prefix_equality p q = (prefix_exact p q, λ same. subst (λ r. prefix_cmp p r ≡ Equal) same (tied_itself prefix_total p))

-- what the laws of `laws` are proved by
pub ruleset totality = (family_total, address_total, prefix_total)

pub ruleset equality = (family_equality, address_equality, prefix_equality)
