-- Each of those so far sends.
use Rattle.std.proofs.Common.{◌≡◌, take, true}
use Rattle.std.specs.List.{list_all}
use Rattle.babel_dump.specs.SelectHeard.{sends_somewhere}
use Rattle.babel_dump.proofs.selection_read.refuse_silent.Given as goal

abbrev pub invariant-loop-router : goal.invariant-loop-router
invariant-loop-router l = list_all (sends_somewhere l.select.each.place l.read.gathered.senders) (take l.router-index l.router-items) ≡ true
