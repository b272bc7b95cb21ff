-- The halves of the product are the definition's.
use Rattle.std.proofs.Common.{refl}
use Rattle.babel_table.specs.Said.{mixed}
use Rattle.babel_table.proofs.compact_key.mixed.Goals as goal

pub returns : goal.returns
unfolding mixed
returns c = rw (c.from.ensures, c.from-2.ensures) refl
