-- Values that compare as equal are one.
use Rattle.std.proofs.Common.{sym}
use Rattle.babel_trie.proofs.pass.ends_with.Goals as goal

pub returns-clause-same : goal.returns-clause-same
returns-clause-same g c e = (c.in-Some.last.now, sym c.in-Some.ensures.value, c.are_same.ensures.0 e)
