-- The fault of the dump is told.
use Rattle.std.proofs.Common.{refl, rules, inl}
use Rattle.babel_dump.proofs.captured.dump_refused.Goals as goal
use Rattle.babel_dump.proofs.captured.dump_refused.Goals.{in_default-via-in-Err+else-status-ne3, in_default-via-in-Ok+else-places-ne1}

pub returns-in_default : goal.returns-in_default
returns-in_default c = inl (
  refl,
  λ not_memory. elim c.in_default.branch [
    | in_default-via-in-Err+else-status-ne3 w ↦ rw (w.in-Err.is) (search rules)
    | in_default-via-in-Ok+else-places-ne1 w ↦ rw (w.in-Ok.is) (λ fed read. search rules)
  ],
)
