-- The last row tells whether all do, and the first whether any does.
use Rattle.std.proofs.Common.{inl, inr, ◌≡◌, ◌<◌, ◌≤◌, nat_lt, false, sym, ◌∙◌, ap, subst, arith, rules}
use Rattle.std.proofs.lemmas.Bool.{cases_Bool, ltb-true, lt-ltb}
use Rattle.std.proofs.lemmas.List.Sorted.{IsPartitionPoint-from_clause}
use Rattle.babel_prefix.specs.Address.{Address}
use Rattle.babel_prefix.specs.Entries.{Entry}
use Rattle.babel_trie.specs.Rows.{source_block}
use Rattle.babel_trie.proofs.PointLaws.{not_empty, point_before, point_after}
use Rattle.babel_trie.proofs.rows.low_count.Goals as goal

pub returns-then-bits-middle-clause-point : goal.returns-then-bits-middle-clause-point
returns-then-bits-middle-clause-point g c =
    let rows = c.args.rows.now in
    let x = c.index-rows-last.result in
    let start_is : c.bits.result ≡ (source_block x).start = c.bits.ensures.value ∙ ap (λ (q : Address). q.bits) c.addr.ensures.value
    ∙ sym (ap (λ (r : Entry g.row.V.Denot). r.1.address.bits) c.index-rows-last.is) in
    let below : (source_block x).start < c.args.middle = subst (λ n. n < c.args.middle) start_is c.if-bits-middle.true in
    point_after (λ y. nat_lt (source_block y).start c.args.middle) rows c.requires x (not_empty rows c.is_empty.result c.is_empty.ensures c.if-is_empty.false) c.index-rows-last.is (lt-ltb _ _ below)

pub returns-then-bits-middle-2-clause-point : goal.returns-then-bits-middle-2-clause-point
returns-then-bits-middle-2-clause-point g c =
    let rows = c.args.rows.now in
    let x = c.index-rows-0.result in
    let start_is : c.bits-2.result ≡ (source_block x).start = c.bits-2.ensures.value ∙ ap (λ (q : Address). q.bits) c.addr-2.ensures.value
    ∙ sym (ap (λ (r : Entry g.row.V.Denot). r.1.address.bits) c.index-rows-0.is) in
    let above : c.args.middle ≤ (source_block x).start = subst (λ n. c.args.middle ≤ n) start_is c.if-bits-middle-2.true in
    let other : nat_lt (source_block x).start c.args.middle ≡ false = elim (cases_Bool (nat_lt (source_block x).start c.args.middle)) [
      | inl passes ↦ let lt : (source_block x).start < c.args.middle = ltb-true _ _ passes in absurd (omega arith)
      | inr is ↦ is
    ] in
    point_before (λ y. nat_lt (source_block y).start c.args.middle) rows c.requires x (not_empty rows c.is_empty.result c.is_empty.ensures c.if-is_empty.false) c.index-rows-0.is other

pub returns-clause-point : goal.returns-clause-point
returns-clause-point g c =
    IsPartitionPoint-from_clause (λ y. nat_lt (source_block y).start c.args.middle) c.args.rows.now c.partition_point.result c.partition_point.ensures.partitioned c.requires (λ a r q k. search rules)
