-- What is behind the whole packets is all that is pending.
use Rattle.babel_table.proofs.PacketLaws.{rest-whole}
use Rattle.babel_table.proofs.stream.Stream.take_in_place.Goals as goal

pub returns-clause-partial : goal.returns-clause-partial
returns-clause-partial c = rw (c.add.ensures, c.requires.none, rest-whole c.in_ok-used.used c.args.octets.now) c.in_ok-used.ensures.partial

pub returns-clause-took : goal.returns-clause-took
returns-clause-took c = rw (c.add.ensures, c.requires.none, rest-whole c.in_ok-used.used c.args.octets.now) c.in_ok-used.ensures.took
