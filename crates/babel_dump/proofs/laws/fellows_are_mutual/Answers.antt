use Rattle.babel_dump.proofs.FellowMutual.{fellows_mutual}
use Rattle.babel_dump.proofs.laws.fellows_are_mutual.Goals as goal

pub returns : goal.returns
returns c = fellows_mutual
