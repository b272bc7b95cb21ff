-- The orders of families, addresses and prefixes are total, which an order written by hand has to
-- show (no RFC gives one).
use Rattle.std.specs.Cmp.{IsTotalOrder}
use Rattle.std.proofs.lemmas.Cmp.{nat_cmp_total, on_total, then_total}
use Rattle.babel_prefix.specs.Address.{Address, AddressPrefix}
use Rattle.babel_prefix.specs.Order.{family_cmp, address_cmp, prefix_cmp, family_rank}

pub family_total : IsTotalOrder family_cmp
family_total = on_total family_rank nat_cmp_total

pub address_total : IsTotalOrder address_cmp
address_total =
    then_total (on_total (λ (a : Address). a.family) family_total)
    (on_total (λ (a : Address). a.bits) nat_cmp_total)

pub prefix_total : IsTotalOrder prefix_cmp
prefix_total =
    then_total (on_total (λ (p : AddressPrefix). p.address) address_total)
    (on_total (λ (p : AddressPrefix). p.len) nat_cmp_total)
