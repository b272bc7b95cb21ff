-- The rows of the other family are left out.
use Rattle.std.proofs.Common.{◌≡◌, List, [], ◌++◌, rules, ap, sym, ◌∙◌}
use Rattle.babel_prefix.specs.declared.family.Family.{Family}
use Rattle.babel_prefix.specs.declared.family.Family.TheVariants.{V4, V6}
use Rattle.babel_tlv.specs.Pair.{Pair}
use Rattle.babel_table.specs.TableRows.{family_rows}
use Rattle.babel_table.proofs.FamilyLaws.{of_v4, of_v6}
use Rattle.babel_table.proofs.sorted_rows.SortedRows.of_family.Goals as goal

pub returns-in-V4-clause-value : goal.returns-in-V4-clause-value
returns-in-V4-clause-value c =
    let v4 : List Pair = c.self.inside.v4 in
    let v6 : List Pair = c.self.inside.v6 in
    let family : c.args.family ≡ V4 = search rules in
    let rows : c.args.self.now ≡ v4 ++ v6 = search rules in
    ap (λ (rs : List Pair). rs ++ []) c.slices.ensures
    ∙ of_v4 v4 v6 c.self.invariant.0 c.self.invariant.1
    ∙ ap (family_rows V4) (sym rows)
    ∙ ap (λ (f : Family). family_rows f c.args.self.now) (sym family)

pub returns-in-V6-clause-value : goal.returns-in-V6-clause-value
returns-in-V6-clause-value c =
    let v4 : List Pair = c.self.inside.v4 in
    let v6 : List Pair = c.self.inside.v6 in
    let family : c.args.family ≡ V6 = search rules in
    let rows : c.args.self.now ≡ v4 ++ v6 = search rules in
    c.as_slice.ensures
    ∙ of_v6 v4 v6 c.self.invariant.0 c.self.invariant.1
    ∙ ap (family_rows V6) (sym rows)
    ∙ ap (λ (f : Family). family_rows f c.args.self.now) (sym family)
