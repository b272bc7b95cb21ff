-- What is kept of a router's own Updates is the source table of all of them.
use Rattle.std.proofs.Common.{◌≡◌, ℕ, Bool, true, false, cond, List, [], ◌∷◌, Option, Some, None, refl, sym, ap, ◌∙◌}
use Rattle.std.specs.Ordering.{nat_cmp}
use Rattle.std.specs.BTreeMap.{is_at}
use Rattle.std.specs.Cmp.Lexicographic.{slice_cmp}
use Rattle.std.proofs.lemmas.List.Sums.{fold-append}
use Rattle.std.proofs.lemmas.Map.Lookups.{CmpEqualImpliesEq, exact_bytes}
use Rattle.babel_prefix.proofs.Insertion.{equal_of}
use Rattle.babel_prefix.proofs.OrderLaws.{then_parts}
use Rattle.babel_tlv.specs.Keys.{key_cmp}
use Rattle.babel_tlv.specs.Route.{RouteKey}
use Rattle.babel_tlv.proofs.OrderLaws.{key_exact}
use Rattle.babel_selection.specs.declared.distance.Distance.{Distance}
use Rattle.babel_selection.specs.declared.source.Source.{Source}
use Rattle.babel_selection.specs.Announcing.{BeginsDistances, UpdateKeepsDistances}
use Rattle.babel_selection.specs.Hearing.{entry_at}
use Rattle.babel_selection.specs.Distances.{OwnUpdate, after_update, distance_of, source_cmp, source_of}

abbrev made : RouteKey → List ℕ → Source
made key router_id = record { key = key; router_id = router_id }

source_exact : CmpEqualImpliesEq source_cmp
source_exact a b e =
    let parts = then_parts (key_cmp a.key b.key) (slice_cmp nat_cmp a.router_id b.router_id) e in
    ap (λ (k : RouteKey). made k a.router_id) (key_exact a.key b.key parts.0) ∙ ap (made b.key) (exact_bytes a.router_id b.router_id parts.1)

pub begins_distances : BeginsDistances
begins_distances source = refl

same_after : (one : OwnUpdate) (source other : Source) (old : Source → Option Distance) (last : Option Distance) (b : Bool) → (b ≡ true → source ≡ other) → old other ≡ last
    → cond b (Some (after_update one.time one.ann (old source))) (old other) ≡ cond b (Some (after_update one.time one.ann last)) last
same_after one source other old last true same is =
    ap (λ (d : Option Distance). let entry : Option Distance = Some (after_update one.time one.ann d) in entry) (ap old (same refl) ∙ is)
same_after one source other old last false same is = is

pub update_keeps_distances : UpdateKeepsDistances
update_keeps_distances updates one old new are takes other =
    let source : Source = source_of one.key one.ann in
    takes other
    ∙ same_after one source other (entry_at source_cmp old) (distance_of updates other)
    (is_at (source_cmp source) other) (λ e. source_exact source other (equal_of (source_cmp source other) e)) (are other)
    ∙ sym (fold-append (λ (last : Option Distance) (it : OwnUpdate). cond (is_at (source_cmp (source_of it.key it.ann)) other) (Some (after_update it.time it.ann last)) last) None updates (one ∷ []))
