-- The best match among the rows of either form is that of all.
use Rattle.std.proofs.Common.{Bool, List, ap, sym, subst, ◌∙◌}
use Rattle.std.specs.Prelude.{if◌then◌else◌}
use Rattle.babel_tlv.specs.Pair.{Pair}
use Rattle.babel_table.specs.RowFor.{IsBestOf, row_at}
use Rattle.babel_table.proofs.nested_v4.NestedV4.best_place.Goals as goal

pub returns-then-self : goal.returns-then-self
returns-then-self c =
    let rows = c.self.inside in
    subst (λ (now : List Pair). IsBestOf now c.args.dst.now c.args.src.now (row_at now c.best_place.result))
    (ap (λ (b : Bool). if b then rows.wide else rows.narrow) (sym c.if-self.true) ∙ c.self.view_is) c.best_place.ensures

pub returns-else-self : goal.returns-else-self
returns-else-self c =
    let rows = c.self.inside in
    subst (λ (now : List Pair). IsBestOf now c.args.dst.now c.args.src.now (row_at now c.best_place-else-self.result))
    (ap (λ (b : Bool). if b then rows.wide else rows.narrow) (sym c.if-self.false) ∙ c.self.view_is) c.best_place-else-self.ensures
