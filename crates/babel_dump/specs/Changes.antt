-- What two dumps hold or answer differently. These are this project's own.
use Rattle.std.specs.Prelude.{List}
use Rattle.babel_canon.specs.Joined.{differences_left, differing}
use Rattle.babel_canon.specs.declared.every_difference.Difference.{Difference}
use Rattle.babel_dump.specs.declared.changes.Changes.{Changes}
use Rattle.babel_dump.specs.declared.changes.Changes.TheVariants as changes
use Rattle.babel_dump.specs.declared.changes.ChangesLeft.{ChangesLeft}
use Rattle.babel_dump.specs.declared.changes.ChangesLeft.TheVariants as lefts

abbrev pub changes_of : Changes → List Difference
changes_of (changes.Listed list) = list.items
changes_of (changes.OfRoutes seen) = differing seen.left.rows seen.right.rows

-- what is left to give
abbrev pub changes_left : ChangesLeft → List Difference
changes_left (lefts.Listed list) = list.now
changes_left (lefts.OfRoutes routes) = differences_left routes
