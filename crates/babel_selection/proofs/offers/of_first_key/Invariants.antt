-- So far all are for one key.
use Rattle.std.proofs.Common.{◌-◌, length}
use Rattle.babel_selection.proofs.OfferLaws.{AreOne}
use Rattle.babel_selection.proofs.offers.of_first_key.Given as goal

abbrev pub invariant-alike : goal.invariant-alike
invariant-alike g l = AreOne l.offers l.last

abbrev pub decreases-alike : goal.decreases-alike
decreases-alike g l = length l.offers - l.last
