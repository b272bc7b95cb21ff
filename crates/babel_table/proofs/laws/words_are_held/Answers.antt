-- Word by word.
use Rattle.std.proofs.Common.{[], refl}
use Rattle.babel_table.specs.Words.{after_all}
use Rattle.babel_table.proofs.MomentLaws.{rows-held}
use Rattle.babel_table.proofs.laws.words_are_held.Goals as goal

pub returns : goal.returns
returns c = λ mode factor moment told. rows-held mode factor moment told (after_all mode factor told []) refl
