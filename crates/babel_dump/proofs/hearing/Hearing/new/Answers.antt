use Rattle.std.proofs.Common.{ap, rules}
use Rattle.babel_dump.proofs.HeardRecords.{has_heard_none}
use Rattle.babel_dump.proofs.hearing.Hearing.new.Goals as goal

pub returns : goal.returns
returns c =
    has_heard_none c.args.events.now _ (record { factor = search rules; limit = search rules; view = c.new-teller.ensures.view; asked = search rules })
    (ap (λ t. t.rows) c.new-teller.ensures.rows) (search rules) c.new-teller.ensures.heard c.new-since.ensures.moment c.new-since.ensures.come c.new-since.ensures.answers c.new-teller.ensures.watch
