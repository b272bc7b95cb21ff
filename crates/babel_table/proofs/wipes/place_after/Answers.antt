-- The marks do not fall.
use Rattle.std.proofs.Common.{rules, ℕ, nat_lt}
use Rattle.std.proofs.lemmas.List.Sorted.{IsPartitionPoint-from_clause, IsPartitionedBy-ltb}
use Rattle.babel_table.specs.Moments.{Stamp}
use Rattle.babel_table.proofs.wipes.place_after.Goals as goal

pub returns : goal.returns
returns c =
    IsPartitionPoint-from_clause (λ (first : ℕ × Stamp). nat_lt first.0 c.args.mark) c.args.firsts.now c.partition_point.result c.partition_point.ensures.partitioned
    (IsPartitionedBy-ltb (λ (first : ℕ × Stamp). first.0) c.args.firsts.now c.args.mark c.requires) (λ a r q k. search rules)
