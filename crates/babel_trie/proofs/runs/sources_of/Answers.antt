-- The last change that is not past the destination.
use Rattle.std.proofs.Common.{nat_le, rules}
use Rattle.std.proofs.lemmas.List.Sorted.{IsPartitionedBy-leb, IsPartitionPoint-from_clause}
use Rattle.babel_trie.specs.declared.runs.Change.{Change}
use Rattle.babel_trie.specs.declared.table.Sources.{Sources}
use Rattle.babel_trie.proofs.ApartLaws.{no_sources}
use Rattle.babel_trie.proofs.SaidLaws.{starts_rise, point_some, said_point}
use Rattle.babel_trie.proofs.runs.sources_of.Goals as goal

pub overflow_sub-result : goal.overflow_sub-result
overflow_sub-result g c =
    let list = c.args.list.now in
    let d = c.args.dst in
    let other : Change (Sources g.row.V.Denot) = record { start = 0; sources = no_sources } in
    let parted = IsPartitionedBy-leb (λ (x : Change (Sources g.row.V.Denot)). x.start) list d (starts_rise list c.requires.runs) in
    let point = IsPartitionPoint-from_clause (λ (x : Change (Sources g.row.V.Denot)). nat_le x.start d) list c.partition_point-behind.result
    c.partition_point-behind.ensures.partitioned parted (λ a r q k. search rules) in
    point_some list c.partition_point-behind.result d other c.requires.from_zero point

pub returns : goal.returns
returns g c none =
    let list = c.args.list.now in
    let d = c.args.dst in
    let other = c.index-list-behind.result in
    let parted = IsPartitionedBy-leb (λ (x : Change (Sources g.row.V.Denot)). x.start) list d (starts_rise list c.requires.runs) in
    let point = IsPartitionPoint-from_clause (λ (x : Change (Sources g.row.V.Denot)). nat_le x.start d) list c.partition_point-behind.result
    c.partition_point-behind.ensures.partitioned parted (λ a r q k. search rules) in
    said_point list c.partition_point-behind.result d other c.requires.from_zero point none c.partition_point-behind.ensures.bound
