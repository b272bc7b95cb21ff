-- The law of the definitions.
use Rattle.babel_trie.proofs.NumberLaws.{sources_are_exact}
use Rattle.babel_trie.proofs.laws.equal_tries_have_equal_sources.Goals as goal

pub returns : goal.returns
returns g c = sources_are_exact
