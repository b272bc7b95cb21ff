use Rattle.babel_dump.proofs.NamesLaws.{puts}
use Rattle.babel_dump.proofs.names.Names.put.Goals as goal

pub returns : goal.returns
returns c = puts c.args.word.now c.args.name.now c.in-Some.named c.in-Some-2.name _ _ c.insert.result c.in-Some.ensures (rw c.in-Some-2.is at c.in_ok-name.ensures) c.insert.ensures
