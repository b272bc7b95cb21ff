-- The highest one of the bits that differ.
use Rattle.std.proofs.Common.{arith}
use Rattle.babel_trie.proofs.Ones.{split_is}
use Rattle.babel_trie.proofs.cut.split.Goals as goal

pub overflow_sub-result : goal.overflow_sub-result
overflow_sub-result c = (split_is c.args.from c.args.last c.requires (omega arith)).1

pub returns-clause-split : goal.returns-clause-split
returns-clause-split c = (split_is c.args.from c.args.last c.requires (omega arith)).0
