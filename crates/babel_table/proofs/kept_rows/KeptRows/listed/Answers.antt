-- The rows of both families, one after the other, are the rows in order.
use Rattle.std.proofs.Common.{◌≡◌, ℕ, List, ◌++◌, sym, ap, subst, ◌∙◌}
use Rattle.babel_prefix.specs.declared.family.Family.TheVariants.{V4, V6}
use Rattle.babel_tlv.specs.Route.{RouteKey}
use Rattle.babel_table.specs.Live.{Kept, live_rows}
use Rattle.babel_table.specs.TableRows.{AreRows}
use Rattle.babel_table.proofs.KeptLaws.{of-live_rows, live_rows-append, rows-left, rows-right}
use Rattle.babel_table.proofs.kept_rows.KeptRows.listed.Goals as goal

parts : (wipes : ℕ) (v4 v6 whole : List (RouteKey × Kept)) → v4 ++ v6 ≡ whole → AreRows (live_rows wipes whole) → AreRows (live_rows wipes v4 ++ live_rows wipes v6)
parts wipes v4 v6 whole is rows = subst AreRows (live_rows-append wipes v4 v6) (subst (λ es. AreRows (live_rows wipes es)) (sym is) rows)

pub listed-requires-clause-rows : goal.listed-requires-clause-rows
listed-requires-clause-rows c = rows-left _ (live_rows c.args.wipes c.self.inside.v6) (parts c.args.wipes c.self.inside.v4 c.self.inside.v6 _ c.self.view_is c.requires)

pub of-requires-clause-rows : goal.of-requires-clause-rows
of-requires-clause-rows c = rw c.in_ok-v6.ensures (rows-right (live_rows c.args.wipes c.self.inside.v4) _ (parts c.args.wipes c.self.inside.v4 c.self.inside.v6 _ c.self.view_is c.requires))

pub of-requires-clause-family : goal.of-requires-clause-family
of-requires-clause-family c = rw c.in_ok-v6.ensures (of-live_rows V6 c.args.wipes c.self.inside.v6 c.self.invariant.1)

pub invariant_of-result : goal.invariant_of-result
invariant_of-result c =
    rw (c.in_ok-v4.ensures, c.in_ok-nested_v6.ensures, c.in_ok-v6.ensures) (
      of-live_rows V4 c.args.wipes c.self.inside.v4 c.self.invariant.0,
      of-live_rows V6 c.args.wipes c.self.inside.v6 c.self.invariant.1,
      parts c.args.wipes c.self.inside.v4 c.self.inside.v6 _ c.self.view_is c.requires,
    )

pub returns : goal.returns
returns c =
    rw (c.in_ok-v4.ensures, c.in_ok-nested_v6.ensures, c.in_ok-v6.ensures) (
    sym (live_rows-append c.args.wipes c.self.inside.v4 c.self.inside.v6) ∙ ap (live_rows c.args.wipes) c.self.view_is
    )
