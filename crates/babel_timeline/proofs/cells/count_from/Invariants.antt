-- What was counted, and what of the sender's is left at the front, are all that the sender has.
use Rattle.std.proofs.Common.{◌≡◌, ◌+◌, length}
use Rattle.babel_timeline.proofs.CountLaws.{front}
use Rattle.babel_timeline.specs.Silence.{row_count}
use Rattle.babel_timeline.proofs.cells.count_from.Given as goal

abbrev pub invariant-loop-subject : goal.invariant-loop-subject
invariant-loop-subject g l = l.count + front g.S.Ord.cmp l.sender l.subjects ≡ row_count g.S.Ord.cmp l.sender l.places.entries

abbrev pub decreases-loop-subject : goal.decreases-loop-subject
decreases-loop-subject g l = length l.subjects
