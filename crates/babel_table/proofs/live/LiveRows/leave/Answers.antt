-- What is left is kept in place of what was.
use Rattle.std.proofs.Common.{ap, ◌∙◌, arith}
use Rattle.babel_table.specs.Live.{Asked, kept_at, live_rows}
use Rattle.babel_table.proofs.ReplacedLaws.{replaced-fewer}
use Rattle.babel_table.proofs.TimeLaws.{kept-left, live-at}
use Rattle.babel_table.proofs.live.LiveRows.leave.Goals as goal

pub invariant_of-self : goal.invariant_of-self
invariant_of-self c =
    let asked : Asked = record { timing = c.self.inside.clock; mode = c.self.inside.mode; wipes = c.self.inside.wipes; time = c.args.time } in
    let kept = c.self.inside.kept in
    let is = rw c.new-moment.ensures at c.leave.ensures in (
      rw is (kept-left asked c.self.inside.last kept c.self.invariant.0),
      rw is (omega (arith, replaced-fewer (kept_at asked) kept, c.self.invariant.1)),
      c.self.invariant.2,
      c.self.invariant.3,
    )

pub returns : goal.returns
returns c =
    let asked : Asked = record { timing = c.self.inside.clock; mode = c.self.inside.mode; wipes = c.self.inside.wipes; time = c.args.time } in
    let is = rw c.new-moment.ensures at c.leave.ensures in
    rw (← c.self.view_is) (λ runs. ap (live_rows c.self.inside.wipes) is ∙ live-at asked c.self.inside.last c.self.inside.kept c.self.invariant.0)
