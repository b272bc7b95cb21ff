-- The first row tells whether there are any.
use Rattle.std.proofs.Common.{inl, inr, ◌≡◌, ◌==◌, false, sym, ◌∙◌, ap, rules}
use Rattle.std.proofs.lemmas.Bool.{cases_Bool, eqb-true}
use Rattle.std.proofs.lemmas.List.Sorted.{IsPartitionPoint-from_clause}
use Rattle.babel_prefix.specs.Entries.{Entry}
use Rattle.babel_trie.specs.Rows.{source_block}
use Rattle.babel_trie.proofs.PointLaws.{not_empty, point_before}
use Rattle.babel_trie.proofs.rows.own_count.Goals as goal

pub returns-then-len-clause-point : goal.returns-then-len-clause-point
returns-then-len-clause-point g c =
    let rows = c.args.rows.now in
    let x = c.index-rows-0.result in
    let len_is : c.len.result ≡ (source_block x).len = c.len.ensures.value ∙ sym (ap (λ (r : Entry g.row.V.Denot). r.1.len) c.index-rows-0.is) in
    let other : ((source_block x).len == c.args.len) ≡ false = elim (cases_Bool ((source_block x).len == c.args.len)) [
      | inl passes ↦ absurd (c.if-len.true (len_is ∙ eqb-true _ _ passes))
      | inr is ↦ is
    ] in
    point_before (λ y. (source_block y).len == c.args.len) rows c.requires x (not_empty rows c.is_empty.result c.is_empty.ensures c.if-is_empty.false) c.index-rows-0.is other

pub returns-clause-point : goal.returns-clause-point
returns-clause-point g c =
    IsPartitionPoint-from_clause (λ y. (source_block y).len == c.args.len) c.args.rows.now c.partition_point.result c.partition_point.ensures.partitioned c.requires (λ a r q k. search rules)
