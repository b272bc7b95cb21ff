-- None of those so far does.
use Rattle.std.proofs.Common.{◌≡◌}
use Rattle.babel_dump.specs.SelectHeard.{sends_somewhere}
use Rattle.babel_dump.proofs.router_places.sends.Given as goal

abbrev pub invariant-loop-origin : goal.invariant-loop-origin
invariant-loop-origin l =
    sends_somewhere l.select.each.place l.origin-iterator l.address ≡ sends_somewhere l.select.each.place l.gathered.senders l.address
