-- The places so far and those of the senders that are left are all of them.
use Rattle.std.proofs.Common.{◌≡◌, ◌++◌}
use Rattle.babel_dump.specs.CaptureText.{places_of}
use Rattle.babel_dump.proofs.interfaces.interfaces_of.Given as goal

abbrev pub invariant-loop-origin : goal.invariant-loop-origin
invariant-loop-origin l = l.places.items ++ places_of l.origin-iterator ≡ places_of l.senders.entries
