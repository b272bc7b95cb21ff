-- If those that are left are read whole, all are.
use Rattle.std.proofs.Common.{◌≡◌, drop, true}
use Rattle.babel_dump.specs.EventsRun.{AreReadWhole}
use Rattle.babel_dump.proofs.events.refuse_senders.Given as goal

abbrev pub invariant-loop-heard : goal.invariant-loop-heard
invariant-loop-heard l = l.strict ≡ true → AreReadWhole l.report (drop l.heard-index l.senders) → AreReadWhole l.report l.senders
