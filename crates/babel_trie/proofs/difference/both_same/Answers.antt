-- One of the two is no single value.
use Rattle.babel_trie.proofs.DifferLaws.{some_without_leaf}
use Rattle.babel_trie.proofs.difference.both_same.Goals as goal
use Rattle.babel_trie.proofs.difference.both_same.Goals.{in_default-via-in-Same+in_default, in_default-via-in_default}

pub returns-in_default-clause-fork : goal.returns-in_default-clause-fork
returns-in_default-clause-fork g c bits nodes others left right =
    elim c.in_default.branch [
      | in_default-via-in-Same+in_default w ↦ some_without_leaf bits others c.args.other.now (λ v e. let both = e in let fork = w.in_default.is-1 in cc) right
      | in_default-via-in_default w ↦ some_without_leaf bits nodes c.args.whole.now (λ v e. let both = e in let fork = w.in_default.is-0 in cc) left
    ]
