-- What is left of each family is of that family.
use Rattle.std.proofs.Common.{sym}
use Rattle.babel_prefix.specs.declared.family.Family.TheVariants.{V4, V6}
use Rattle.babel_table.specs.Live.{kept_at}
use Rattle.babel_table.proofs.ReplacedLaws.{of-replaced, replaced-append}
use Rattle.babel_table.proofs.kept_rows.KeptRows.leave.Goals as goal

pub invariant_of-self : goal.invariant_of-self
invariant_of-self c =
    let at = c.args.moment.now in (
      rw c.leave.ensures (of-replaced (kept_at at) V4 c.self.inside.v4 c.self.invariant.0),
      rw c.leave-2.ensures (of-replaced (kept_at at) V6 c.self.inside.v6 c.self.invariant.1),
    )

pub returns : goal.returns
returns c = rw (← c.self.view_is, c.leave.ensures, c.leave-2.ensures) (sym (replaced-append (kept_at c.args.moment.now) c.self.inside.v4 c.self.inside.v6))
