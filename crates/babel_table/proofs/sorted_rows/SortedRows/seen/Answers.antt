use Rattle.std.proofs.Common.{refl}
use Rattle.babel_prefix.specs.declared.family.Family.TheVariants.{V4, V6}
use Rattle.babel_table.proofs.SeenLaws.{seen_are_of, seen_are_rows, seen_append}
use Rattle.babel_table.proofs.sorted_rows.SortedRows.seen.Goals as goal

pub invariant_of-result : goal.invariant_of-result
invariant_of-result c =
    rw (c.see.ensures, c.see-2.ensures) (
      seen_are_of c.args.view V4 c.self.inside.v4 c.self.invariant.0,
      seen_are_of c.args.view V6 c.self.inside.v6 c.self.invariant.1,
      rw (← seen_append c.args.view c.self.inside.v4 c.self.inside.v6) (seen_are_rows c.args.view _ c.self.invariant.2),
    )

pub returns : goal.returns
returns c = rw (c.see.ensures, c.see-2.ensures, ← seen_append c.args.view c.self.inside.v4 c.self.inside.v6, c.self.view_is) refl
