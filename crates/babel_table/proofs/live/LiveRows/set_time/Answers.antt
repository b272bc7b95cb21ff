-- The rows and the stamps stay.
use Rattle.std.proofs.Common.{refl}
use Rattle.babel_table.proofs.live.LiveRows.set_time.Goals as goal

pub invariant_of-self : goal.invariant_of-self
invariant_of-self c = (
  c.self.invariant.0,
  c.self.invariant.1,
  c.self.invariant.2,
  rw c.set_time.ensures (λ runs. let was = c.self.invariant.3 runs in record { counted = was.counted; firsts = was.firsts }),
)

pub returns : goal.returns
returns c = rw (← c.self.view_is, c.set_time.ensures) refl
