-- The captures so far are read, and the streams of those after them are as they were given.
use Rattle.std.proofs.Common.{◌∷◌, drop, map}
use Rattle.babel_dump.proofs.OriginsTold.{TakingMore}
use Rattle.babel_dump.proofs.origins_run.take_captures.Given as goal

abbrev pub invariant-loop-stream : goal.invariant-loop-stream
invariant-loop-stream g l =
    TakingMore l.origins.filter l.fn.side l.each (g.R.Read.remaining l.fn.inputs.first ∷ map g.R.Read.remaining l.fn.inputs.more.items)
    (map g.R.Read.remaining (drop l.stream-index l.stream-items)) l.fn.told.originated.all.entries l.told.originated.all.entries
