-- The rows of either form are of IPv4, as all are.
use Rattle.std.proofs.Common.{◌≡◌, Bool, true, false, List, ap, sym, subst, ◌∙◌}
use Rattle.std.specs.Prelude.{if◌then◌else◌}
use Rattle.babel_prefix.specs.declared.family.Family.TheVariants.{V4}
use Rattle.babel_tlv.specs.Route.{RouteKey}
use Rattle.babel_table.specs.Compact.{AreOf}
use Rattle.babel_table.specs.Live.{Kept}
use Rattle.babel_table.proofs.KeptLaws.{of-live_rows}
use Rattle.babel_table.proofs.v4_rows.V4Rows.listed.Goals as goal

module _ (is_wide : Bool) (wide narrow now : List (RouteKey × Kept)) (view : (if is_wide then wide else narrow) ≡ now) (all : AreOf V4 now) where
  wide_of : is_wide ≡ true → AreOf V4 wide
  wide_of is = subst (λ rows. AreOf V4 rows) (sym (ap (λ (b : Bool). if b then wide else narrow) (sym is) ∙ view)) all

  narrow_of : is_wide ≡ false → AreOf V4 narrow
  narrow_of is = subst (λ rows. AreOf V4 rows) (sym (ap (λ (b : Bool). if b then wide else narrow) (sym is) ∙ view)) all

pub of-requires-clause-family : goal.of-requires-clause-family
of-requires-clause-family c =
    let rows = c.self.inside in
    rw c.in_ok-rows.ensures (of-live_rows V4 c.args.wipes rows.wide (wide_of rows.is_wide rows.wide rows.narrow c.args.self c.self.view_is c.requires.family c.if-is_wide.true))

pub of-requires-2-clause-family : goal.of-requires-2-clause-family
of-requires-2-clause-family c =
    let rows = c.self.inside in
    rw c.in_ok-rows-2.ensures (of-live_rows V4 c.args.wipes rows.narrow (narrow_of rows.is_wide rows.wide rows.narrow c.args.self c.self.view_is c.requires.family c.if-is_wide.false))
