-- Rising keys are parted by a key.
use Rattle.std.proofs.Common.{◌≡◌, true, rules}
use Rattle.std.specs.Ordering.{is_le}
use Rattle.std.proofs.lemmas.List.Sorted.{IsPartitionPoint-from_clause}
use Rattle.babel_tlv.specs.Keys.{key_cmp}
use Rattle.babel_table.proofs.NestedLaws.{keys_within, parted, past_within}
use Rattle.babel_table.proofs.nested_rows.count_up_to.Goals as goal

pub returns-clause-up_to : goal.returns-clause-up_to
returns-clause-up_to g c =
    let rows = c.args.rows.now in
    let key = c.args.key.now in
    keys_within (λ other. is_le (key_cmp other key) ≡ true) rows 0 c.partition_point.result
    (IsPartitionPoint-from_clause (λ row. is_le (key_cmp row.0 key)) rows c.partition_point.result c.partition_point.ensures.partitioned (parted rows key c.requires) (λ a r q k. search rules)).0

pub returns-clause-past : goal.returns-clause-past
returns-clause-past g c =
    let rows = c.args.rows.now in
    let key = c.args.key.now in
    past_within rows c.partition_point.result key
    (IsPartitionPoint-from_clause (λ row. is_le (key_cmp row.0 key)) rows c.partition_point.result c.partition_point.ensures.partitioned (parted rows key c.requires) (λ a r q k. search rules)).1
