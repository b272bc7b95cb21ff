-- What senders originate, with rows more.
use Rattle.std.proofs.Common.{◌≡◌, ℕ, Bool, true, false, cond, List, [], ◌∷◌, ◌++◌, length, filter_map, fold, min, Option, None, Some, refl, sym, ap, subst, ◌∙◌, append_assoc, append-nil, rules}
use Rattle.std.specs.Prelude.{Result, Ok, Err, OnOk}
use Rattle.std.specs.BTreeMap.{insert_entry, is_at}
use Rattle.std.specs.Cmp.{IsTotalOrder}
use Rattle.std.specs.Cmp.Lexicographic.{slice_cmp}
use Rattle.std.specs.List.{cons_option}
use Rattle.std.specs.List.Sorted.{IsStrictlySortedBy}
use Rattle.std.specs.Map.{keys_of, lookup, set_value}
use Rattle.std.specs.Option.{unwrap_or}
use Rattle.std.specs.Ordering.{nat_cmp}
use Rattle.std.specs.declared.cmp.Ordering.{Ordering}
use Rattle.std.proofs.Math.Path.{fun_ext}
use Rattle.std.proofs.lemmas.Cmp.{nat_list_cmp_total, on_total, then_total}
use Rattle.std.proofs.lemmas.List.{length-append}
use Rattle.std.proofs.lemmas.List.Elements.{filter-append, filter_map-append}
use Rattle.std.proofs.lemmas.List.Sums.{fold-append}
use Rattle.std.proofs.lemmas.Map.Lookups.{exact_bytes}
use Rattle.babel_prefix.proofs.Insertion.{equal_of, is_at-sym, lookup-insert, sorted-insert}
use Rattle.babel_prefix.proofs.OrderLaws.{then_parts}
use Rattle.babel_tlv.specs.Keys.{key_cmp}
use Rattle.babel_tlv.specs.Pair.{Pair}
use Rattle.babel_tlv.specs.Route.{Announcement, RouteKey}
use Rattle.babel_tlv.specs.declared.held.Held.TheVariants as helds
use Rattle.babel_tlv.proofs.OrderLaws.{key_exact, key_total}
use Rattle.babel_capture.proofs.Entries.{set_value-insert}
use Rattle.babel_dump.specs.Filter.{is_kept, kept_rows}
use Rattle.babel_dump.specs.declared.filter.Filter.{Filter}
use Rattle.babel_dump.specs.Originated.{AreOriginated, IsAnnouncedToo, TakesMore, announced_by, announced_too, least_of, left_with, metric_for, on_neither, on_sides, origination_cmp, right_with, sides_too}
use Rattle.babel_dump.specs.contracts.originated.OriginationOrd.TheImpl.{ghosts}
use Rattle.babel_dump.specs.declared.originated.Announced.{Announced}
use Rattle.babel_dump.specs.declared.originated.OnSides.{OnSides}
use Rattle.babel_dump.specs.declared.originated.Origination.{Origination}
use Rattle.babel_dump.specs.declared.run_fault.Side.{Side}
use Rattle.babel_dump.specs.declared.run_fault.Side.TheVariants as sides

abbrev pub All : Type 0
All = List (Origination × OnSides)

-- ---- their order

pub origination_order : ghosts.cmp ≡ origination_cmp
origination_order = fun_ext (λ a. fun_ext (λ b. one a b))
  where
    one : (a b : Origination) → ghosts.cmp a b ≡ origination_cmp a b
    one a b = search rules

pub origination_total : IsTotalOrder origination_cmp
origination_total = then_total (on_total (λ (o : Origination). o.key) key_total) (on_total (λ (o : Origination). o.router_id) nat_list_cmp_total)

-- two that are at one place are one
origination_exact : (a b : Origination) → is_at (origination_cmp a) b ≡ true → a ≡ b
origination_exact a b at =
    let parts = then_parts (key_cmp a.key b.key) (slice_cmp nat_cmp a.router_id b.router_id) (equal_of (origination_cmp a b) at) in
    let of : RouteKey → List ℕ → Origination = λ key router_id. record { key = key; router_id = router_id } in
    ap (λ key. of key a.router_id) (key_exact a.key b.key parts.0) ∙ ap (of b.key) (exact_bytes a.router_id b.router_id parts.1)

-- what is there, and what is put in its place or besides
pub there_so : (all : All) (one : Origination) (old : Option OnSides) → lookup (is_at (ghosts.cmp one)) all ≡ old → lookup (is_at (origination_cmp one)) all ≡ old
there_so all one old is = subst (λ (k : Origination → Origination → Ordering). lookup (is_at (k one)) all ≡ old) origination_order is

pub put_so : (all after : All) (one : Origination) (next : OnSides) → after ≡ insert_entry ghosts.cmp all one next → after ≡ insert_entry origination_cmp all one next
put_so all after one next put = put ∙ ap (λ (k : Origination → Origination → Ordering). insert_entry k all one next) origination_order

pub written_so : (all after : All) (one : Origination) (before next : OnSides) → lookup (is_at (ghosts.cmp one)) all ≡ Some before → IsStrictlySortedBy ghosts.cmp (keys_of all)
    → after ≡ set_value (is_at (ghosts.cmp one)) all next → after ≡ insert_entry origination_cmp all one next
written_so all after one before next there sorted written =
    put_so all after one next (written ∙ set_value-insert (subst IsTotalOrder (sym origination_order) origination_total) one next before all sorted there)

-- so it is announced too
pub announced_so : (side : Side) (one : Origination) (metric : ℕ) (all after : All) (old : Option OnSides) (next : OnSides) → lookup (is_at (ghosts.cmp one)) all ≡ old
    → next ≡ sides_too side metric (unwrap_or old on_neither) → after ≡ insert_entry origination_cmp all one next → IsAnnouncedToo side one metric all after
announced_so side one metric all after old next there is put =
    put ∙ ap (insert_entry origination_cmp all one) (is ∙ ap (λ (o : Option OnSides). sides_too side metric (unwrap_or o on_neither)) (sym (there_so all one old there)))

-- ---- one metric more

least-more : (metrics : List ℕ) (metric : ℕ) → least_of (metrics ++ metric ∷ []) ≡ Some (announced_too (least_of metrics) metric)
least-more [] metric = refl
least-more (first ∷ metrics) metric =
    let of : ℕ → ℕ → Option Announced = λ least many. Some (record { metric = least; senders = many }) in
    ap (λ least. of least (length (first ∷ metrics ++ metric ∷ []))) (fold-append min first metrics (metric ∷ []))
    ∙ ap (of (min (fold min first metrics) metric)) (length-append (first ∷ metrics) (metric ∷ []))

sides_left : (metric : ℕ) (left right : Option Announced) → Some (sides_too sides.First metric (unwrap_or (on_sides left right) on_neither)) ≡ on_sides (Some (announced_too left metric)) right
sides_left metric None None = refl
sides_left metric None (Some right) = refl
sides_left metric (Some left) None = refl
sides_left metric (Some left) (Some right) = refl

sides_right : (metric : ℕ) (left right : Option Announced) → Some (sides_too sides.Other metric (unwrap_or (on_sides left right) on_neither)) ≡ on_sides left (Some (announced_too right metric))
sides_right metric None None = refl
sides_right metric None (Some right) = refl
sides_right metric (Some left) None = refl
sides_right metric (Some left) (Some right) = refl

-- ---- one row more

module _ (one : Origination) (rows : List Pair) (row : Pair) where
  announced_so_far : (told : Option ℕ) → metric_for one row ≡ told → announced_by (rows ++ row ∷ []) one ≡ least_of (filter_map (metric_for one) rows ++ cons_option told [])
  announced_so_far told is = ap least_of (filter_map-append (metric_for one) rows (row ∷ []) ∙ ap (λ (o : Option ℕ). filter_map (metric_for one) rows ++ cons_option o []) is)

  announced_same : metric_for one row ≡ None → announced_by (rows ++ row ∷ []) one ≡ announced_by rows one
  announced_same none = announced_so_far None none ∙ ap least_of (append-nil (filter_map (metric_for one) rows))

  announced_more : (metric : ℕ) → metric_for one row ≡ Some metric → announced_by (rows ++ row ∷ []) one ≡ Some (announced_too (announced_by rows one) metric)
  announced_more metric is = announced_so_far (Some metric) is ∙ least-more (filter_map (metric_for one) rows) metric

-- a row that says nothing of it changes nothing
same_with : (side : Side) (left right : List Pair) (one : Origination) (row : Pair) → metric_for one row ≡ None
    → on_sides (announced_by left one) (announced_by right one) ≡ on_sides (announced_by (left_with side left (row ∷ [])) one) (announced_by (right_with side right (row ∷ [])) one)
same_with sides.First left right one row none = ap (λ (a : Option Announced). on_sides a (announced_by right one)) (sym (announced_same one left row none))
same_with sides.Other left right one row none = ap (on_sides (announced_by left one)) (sym (announced_same one right row none))

-- one that does is taken
more_with : (side : Side) (left right : List Pair) (one : Origination) (row : Pair) (metric : ℕ) → metric_for one row ≡ Some metric
    → Some (sides_too side metric (unwrap_or (on_sides (announced_by left one) (announced_by right one)) on_neither))
    ≡ on_sides (announced_by (left_with side left (row ∷ [])) one) (announced_by (right_with side right (row ∷ [])) one)
more_with sides.First left right one row metric is =
    sides_left metric (announced_by left one) (announced_by right one) ∙ ap (λ (a : Option Announced). on_sides a (announced_by right one)) (sym (announced_more one left row metric is))
more_with sides.Other left right one row metric is =
    sides_right metric (announced_by left one) (announced_by right one) ∙ ap (on_sides (announced_by left one)) (sym (announced_more one right row metric is))

-- ---- what is taken

pub on_ok : {T E A B : Type 0} (result : Result T E) → OnOk result A → (A → B) → OnOk result B
on_ok (Ok value) holds then = then holds
on_ok (Err fault) holds then = tt

pub takes_none : (side : Side) (all : All) → TakesMore side [] all all
takes_none side all = record { takes = λ left right are. by side left right are }
  where
    by : (side : Side) (left right : List Pair) → AreOriginated all left right → AreOriginated all (left_with side left []) (right_with side right [])
    by sides.First left right are = subst (λ (l : List Pair). AreOriginated all l right) (sym (append-nil left)) are
    by sides.Other left right are = subst (AreOriginated all left) (sym (append-nil right)) are

pub takes_both : (side : Side) (first second : List Pair) (all mid after : All) → TakesMore side first all mid → TakesMore side second mid after → TakesMore side (first ++ second) all after
takes_both side first second all mid after takes more = record { takes = λ left right are. by side left right (more.takes _ _ (takes.takes left right are)) }
  where
    by : (side : Side) (left right : List Pair) → AreOriginated after (left_with side (left_with side left first) second) (right_with side (right_with side right first) second)
        → AreOriginated after (left_with side left (first ++ second)) (right_with side right (first ++ second))
    by sides.First left right are = subst (λ (l : List Pair). AreOriginated after l right) (append_assoc left first second) are
    by sides.Other left right are = subst (AreOriginated after left) (append_assoc right first second) are

-- a row that the filter keeps, and one that it does not keep
pub takes_kept : (side : Side) (asked : Filter) (row : Pair) (all after : All) (kept : Bool) → is_kept asked row ≡ kept → TakesMore side (cond kept (row ∷ []) []) all after
    → TakesMore side (kept_rows asked (row ∷ [])) all after
takes_kept side asked row all after kept is takes = subst (λ (k : Bool). TakesMore side (cond k (row ∷ []) []) all after) (sym is) takes

-- the rows so far, and one more
pub takes_next : (side : Side) (asked : Filter) (rows : List Pair) (row : Pair) (all mid after : All) → TakesMore side (kept_rows asked rows) all mid
    → TakesMore side (kept_rows asked (row ∷ [])) mid after → TakesMore side (kept_rows asked (rows ++ row ∷ [])) all after
takes_next side asked rows row all mid after takes more =
    subst (λ (l : List Pair). TakesMore side l all after) (sym (filter-append (is_kept asked) rows (row ∷ [])))
    (takes_both side (kept_rows asked rows) (kept_rows asked (row ∷ [])) all mid after takes more)

pub takes_unreachable : (side : Side) (key : RouteKey) (all : All) → TakesMore side ((key, helds.Unreachable) ∷ []) all all
takes_unreachable side key all = record {
  takes = λ left right are. record {
    sorted = are.sorted;
    each = λ one. are.each one ∙ same_with side left right one (key, helds.Unreachable) refl;
  };
}

pub takes_route : (side : Side) (key : RouteKey) (ann : Announcement) (all after : All) → IsAnnouncedToo side (record { key = key; router_id = ann.router_id }) ann.metric all after
    → TakesMore side ((key, helds.Route ann) ∷ []) all after
takes_route side key ann all after put = record {
  takes = λ left right are. record {
    sorted = subst (λ (e : All). IsStrictlySortedBy origination_cmp (keys_of e)) (sym put) (sorted-insert origination_total new told all are.sorted);
    each = λ one.
        ap (lookup (is_at (origination_cmp one))) put ∙ lookup-insert origination_total one new told all
        ∙ ap (λ (b : Bool). cond b (Some told) (lookup (is_at (origination_cmp one)) all)) (is_at-sym origination_total new one)
        ∙ by left right are one (is_at (origination_cmp one) new) refl;
  };
}
  where
    new : Origination
    new = record { key = key; router_id = ann.router_id }

    told : OnSides
    told = sides_too side ann.metric (unwrap_or (lookup (is_at (origination_cmp new)) all) on_neither)

    by : (left right : List Pair) → AreOriginated all left right → (one : Origination) (b : Bool) → is_at (origination_cmp one) new ≡ b
        → cond b (Some told) (lookup (is_at (origination_cmp one)) all)
        ≡ on_sides (announced_by (left_with side left ((key, helds.Route ann) ∷ [])) one) (announced_by (right_with side right ((key, helds.Route ann) ∷ [])) one)
    by left right are one true at =
        ap (λ (o : Option OnSides). Some (sides_too side ann.metric (unwrap_or o on_neither)))
        (ap (λ (o : Origination). lookup (is_at (origination_cmp o)) all) (sym (origination_exact one new at)) ∙ are.each one)
        ∙ more_with side left right one (key, helds.Route ann) ann.metric (ap (λ (c : Bool). cond c (Some ann.metric) None) at)
    by left right are one false at =
        are.each one ∙ same_with side left right one (key, helds.Route ann) (ap (λ (c : Bool). cond c (Some ann.metric) None) at)
