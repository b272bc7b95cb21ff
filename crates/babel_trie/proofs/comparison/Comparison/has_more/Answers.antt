-- So many boxes were counted, and there are no fewer.
use Rattle.std.proofs.Common.{◌≤◌, length, arith}
use Rattle.babel_trie.proofs.comparison.Comparison.has_more.Goals as goal

pub returns-clause-more : goal.returns-clause-more
returns-clause-more g c is w f f' boxes p agree are =
    let few : c.in_ok-count.count ≤ length boxes = c.in_ok-count.ensures w f f' boxes p agree are in
    grind arith
