-- The rows of the family are those kept for it.
use Rattle.std.proofs.Common.{◌≡◌, List, ap, rules, ◌∙◌}
use Rattle.babel_prefix.specs.declared.family.Family.TheVariants.{V4, V6}
use Rattle.babel_tlv.specs.Pair.{Pair}
use Rattle.babel_table.specs.RowFor.{row_at}
use Rattle.babel_table.proofs.FamilyLaws.{rows-v4, rows-v6}
use Rattle.babel_table.proofs.sorted_rows.SortedRows.row_at.Goals as goal

pub returns-in-V4 : goal.returns-in-V4
returns-in-V4 c =
    let family : c.args.family ≡ V4 = search rules in
    c.row_at.ensures
    ∙ ap (λ (rows : List Pair). row_at rows c.args.place) (rows-v4 c.args.family c.self.inside.v4 c.self.inside.v6 c.args.self.now family c.self.view_is c.self.invariant.0 c.self.invariant.1)

pub returns-in-V6 : goal.returns-in-V6
returns-in-V6 c =
    let family : c.args.family ≡ V6 = search rules in
    c.row_at-in-V6.ensures
    ∙ ap (λ (rows : List Pair). row_at rows c.args.place) (rows-v6 c.args.family c.self.inside.v4 c.self.inside.v6 c.args.self.now family c.self.view_is c.self.invariant.0 c.self.invariant.1)
