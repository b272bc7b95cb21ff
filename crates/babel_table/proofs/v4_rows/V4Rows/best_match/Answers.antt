-- The best match among the rows of either form is that of all.
use Rattle.std.proofs.Common.{Bool, List, ap, sym, subst, ◌∙◌}
use Rattle.std.specs.Prelude.{if◌then◌else◌}
use Rattle.babel_tlv.specs.Route.{RouteKey}
use Rattle.babel_table.specs.RowFor.{IsBestOf}
use Rattle.babel_table.specs.Live.{Kept, live_rows}
use Rattle.babel_table.proofs.v4_rows.V4Rows.best_match.Goals as goal

pub returns-then-self : goal.returns-then-self
returns-then-self c =
    let rows = c.self.inside in
    subst (λ (now : List (RouteKey × Kept)). IsBestOf (live_rows c.args.wipes now) c.args.dst.now c.args.src.now c.best_match.result)
    (ap (λ (b : Bool). if b then rows.wide else rows.narrow) (sym c.if-self.true) ∙ c.self.view_is) c.best_match.ensures

pub returns-else-self : goal.returns-else-self
returns-else-self c =
    let rows = c.self.inside in
    subst (λ (now : List (RouteKey × Kept)). IsBestOf (live_rows c.args.wipes now) c.args.dst.now c.args.src.now c.best_match-else-self.result)
    (ap (λ (b : Bool). if b then rows.wide else rows.narrow) (sym c.if-self.false) ∙ c.self.view_is) c.best_match-else-self.ensures
