use Rattle.babel_dump.specs.ToldPairs.{TellsAlone}
use Rattle.babel_dump.proofs.PairsMade.{alone_none, tells_none}
use Rattle.babel_dump.proofs.told_pairs.ToldPairs.tell_alone.Goals as goal

pub returns-in_default : goal.returns-in_default
returns-in_default c =
    tells_none c.args.self.now (TellsAlone c.args.pairs.now c.args.side c.args.origin c.args.name.now c.args.table)
    (alone_none c.args.pairs.now c.args.name.now c.args.side c.args.origin c.args.table c.in_default.not-Some)
