-- A slot with no number of this mark has not that of the element.
use Rattle.babel_trie.proofs.index.number_at.Goals as goal

pub returns-in_default-clause-none : goal.returns-in_default-clause-none
returns-in_default-clause-none g c n is fits = c.in_default.ensures.none n.0 fits
