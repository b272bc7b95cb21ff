use Rattle.babel_dump.specs.ToldPairs.{TellsBoth}
use Rattle.babel_dump.proofs.PairsMade.{left_none, right_none, tells_none}
use Rattle.babel_dump.proofs.told_pairs.ToldPairs.tell_both.Goals as goal

pub returns-in_default : goal.returns-in_default
returns-in_default c =
    tells_none c.args.self.now (TellsBoth c.args.pairs.now c.args.left c.args.right c.args.name.now c.args.table c.args.other)
    (left_none c.args.pairs.now c.args.name.now c.args.left c.args.right c.args.table c.args.other c.in_default.not-Some)

pub returns-in_default-other : goal.returns-in_default-other
returns-in_default-other c =
    tells_none c.args.self.now (TellsBoth c.args.pairs.now c.args.left c.args.right c.args.name.now c.args.table c.args.other)
    (right_none c.args.pairs.now c.args.name.now c.args.left c.args.right c.args.table c.args.other c.in_default-other.not-Some)
