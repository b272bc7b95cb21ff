-- Tallies with one packet more are the stated ones, of a new sender and of one that is there.
use Rattle.std.proofs.Common.{◌≡◌, ℕ, Bool, true, List, Option, None, Some, refl, sym, ap, subst, ◌∙◌, rules}
use Rattle.std.specs.Cmp.{IsTotalOrder}
use Rattle.std.specs.declared.cmp.Ordering.{Ordering}
use Rattle.std.specs.declared.cmp.Ordering.TheVariants.{Equal}
use Rattle.std.proofs.Math.Path.{fun_ext}
use Rattle.std.specs.BTreeMap.{insert_entry, is_at}
use Rattle.std.specs.List.Sorted.{IsStrictlySortedBy}
use Rattle.std.specs.Map.{keys_of, lookup, set_value}
use Rattle.std.proofs.lemmas.Cmp.{nat_cmp_total, on_total, then_total}
use Rattle.std.specs.Cmp.Lexicographic.{options_total}
use Rattle.babel_prefix.specs.TotalOrder.{address_total}
use Rattle.std.specs.Option.{option_cmp, unwrap_or}
use Rattle.std.specs.Ordering.{nat_cmp}
use Rattle.std.proofs.lemmas.Map.Lookups.{exact_unsigned}
use Rattle.babel_prefix.specs.Address.{Address}
use Rattle.babel_prefix.specs.Order.{address_cmp}
use Rattle.babel_prefix.proofs.Insertion.{equal_of}
use Rattle.babel_prefix.proofs.OrderLaws.{address_equality, then_parts}
use Rattle.babel_capture.specs.contracts.tallies.OriginOrd.TheImpl.{ghosts}
use Rattle.babel_capture.specs.declared.place.Place.{Place}
use Rattle.babel_capture.specs.declared.place.Vlans.{Vlans}
use Rattle.babel_capture.specs.declared.tallies.Origin.{Origin}
use Rattle.babel_capture.specs.declared.tallies.Tally.{Tally}
use Rattle.babel_capture.specs.Tallies.{Senders, no_packets, one_more, origin_cmp, place_cmp, vlans_cmp, tallied, tally_of}
use Rattle.babel_capture.proofs.Entries.{set_value-insert}

-- the order of the type is the stated one
pub origin_order : ghosts.cmp ≡ origin_cmp
origin_order = fun_ext (λ a. fun_ext (λ b. one a b))
  where
    one : (a b : Origin) → ghosts.cmp a b ≡ origin_cmp a b
    one a b = search rules

pub put-by : (senders : Senders) (origin : Origin) (tally : Tally) → insert_entry ghosts.cmp senders origin tally ≡ insert_entry origin_cmp senders origin tally
put-by senders origin tally = ap (λ (k : Origin → Origin → Ordering). insert_entry k senders origin tally) origin_order

pub unknown-by : (senders : Senders) (origin : Origin) → lookup (is_at (ghosts.cmp origin)) senders ≡ tally_of senders origin
unknown-by senders origin = ap (λ (k : Origin → Origin → Ordering). lookup (is_at (k origin)) senders) origin_order

-- one packet more of a sender, by its tally before it
pub tallied-as : (senders after : Senders) (origin : Origin) (time : Option ℕ) (packet : List ℕ) (has_trailer : Bool) (before : Option Tally) (tally : Tally) → tally_of senders origin ≡ before
    → tally ≡ one_more (unwrap_or before no_packets) time packet has_trailer → after ≡ insert_entry origin_cmp senders origin tally → after ≡ tallied senders origin time packet has_trailer
tallied-as senders after origin time packet has_trailer before tally was is put =
    put ∙ ap (insert_entry origin_cmp senders origin) (is ∙ ap (λ (t : Option Tally). one_more (unwrap_or t no_packets) time packet has_trailer) (sym was))

vlans_total : IsTotalOrder vlans_cmp
vlans_total =
    then_total (on_total (λ (v : Vlans). v.first) nat_cmp_total)
    (then_total (on_total (λ (v : Vlans). v.second) nat_cmp_total)
    (then_total (on_total (λ (v : Vlans). v.third) nat_cmp_total) (on_total (λ (v : Vlans). v.fourth) nat_cmp_total)))

pub place_total : IsTotalOrder place_cmp
place_total =
    then_total (on_total (λ (p : Place). p.interface) nat_cmp_total)
    (then_total (on_total (λ (p : Place). p.link) (options_total nat_cmp_total)) (on_total (λ (p : Place). p.vlans) vlans_total))

pub origin_total : IsTotalOrder origin_cmp
origin_total = then_total (on_total (λ (o : Origin). o.place) place_total) (on_total (λ (o : Origin). o.sender) address_total)

-- ---- the order of origins tells any two apart

link_exact : (a b : Option ℕ) → option_cmp nat_cmp a b ≡ Equal → a ≡ b
link_exact None None e = refl
link_exact None (Some b) e = absurd cc
link_exact (Some a) None e = absurd cc
link_exact (Some a) (Some b) e = ap Some (exact_unsigned a b e)

vlans_exact : (a b : Vlans) → vlans_cmp a b ≡ Equal → a ≡ b
vlans_exact a b e =
    let one = then_parts (nat_cmp a.first b.first) _ e in
    let two = then_parts (nat_cmp a.second b.second) _ one.1 in
    let three = then_parts (nat_cmp a.third b.third) (nat_cmp a.fourth b.fourth) two.1 in
    let of : ℕ → ℕ → ℕ → ℕ → Vlans = λ p q r s. record { first = p; second = q; third = r; fourth = s } in
    ap (λ n. of n a.second a.third a.fourth) (exact_unsigned a.first b.first one.0) ∙ ap (λ n. of b.first n a.third a.fourth) (exact_unsigned a.second b.second two.0)
    ∙ ap (λ n. of b.first b.second n a.fourth) (exact_unsigned a.third b.third three.0) ∙ ap (λ n. of b.first b.second b.third n) (exact_unsigned a.fourth b.fourth three.1)

pub place_exact : (a b : Place) → place_cmp a b ≡ Equal → a ≡ b
place_exact a b e =
    let one = then_parts (nat_cmp a.interface b.interface) _ e in
    let two = then_parts (option_cmp nat_cmp a.link b.link) (vlans_cmp a.vlans b.vlans) one.1 in
    let of : ℕ → Option ℕ → Vlans → Place = λ i l v. record { interface = i; link = l; vlans = v } in
    ap (λ i. of i a.link a.vlans) (exact_unsigned a.interface b.interface one.0) ∙ ap (λ l. of b.interface l a.vlans) (link_exact a.link b.link two.0)
    ∙ ap (λ v. of b.interface b.link v) (vlans_exact a.vlans b.vlans two.1)

pub origin_exact : (a b : Origin) → is_at (origin_cmp a) b ≡ true → a ≡ b
origin_exact a b at =
    let parts = then_parts (place_cmp a.place b.place) (address_cmp a.sender b.sender) (equal_of (origin_cmp a b) at) in
    let of : Place → Address → Origin = λ p s. record { place = p; sender = s } in
    ap (λ p. of p a.sender) (place_exact a.place b.place parts.0) ∙ ap (of b.place) ((address_equality a.sender b.sender).0 parts.1)

-- a tally that is there already is written in its place
pub written-by : (senders : Senders) (origin : Origin) (before tally : Tally) → lookup (is_at (ghosts.cmp origin)) senders ≡ Some before → IsStrictlySortedBy ghosts.cmp (keys_of senders)
    → set_value (is_at (ghosts.cmp origin)) senders tally ≡ insert_entry origin_cmp senders origin tally
written-by senders origin before tally found sorted =
    set_value-insert (subst IsTotalOrder (sym origin_order) origin_total) origin tally before senders sorted found ∙ put-by senders origin tally
