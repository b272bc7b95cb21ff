use Rattle.babel_dump.specs.NamesRead.{names_from}
use Rattle.babel_dump.proofs.names.Names.read.Goals as goal

pub returns-in-Err-clause-fault : goal.returns-in-Err-clause-fault
returns-in-Err-clause-fault g c =
    let input = names_from (g.R.ByteIn.state c.args.reader.now) (g.R.ByteIn.state c.read_text.new.reader) in
    c.of_text.ensures input (rw (c.in-Err.is, c.of-reading.ensures, c.usual.ensures, c.any_source.ensures) at c.read_text.ensures.cause)
