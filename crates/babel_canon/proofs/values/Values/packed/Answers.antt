use Rattle.babel_canon.proofs.ValueLists.{packed_by}
use Rattle.babel_canon.proofs.values.Values.packed.Goals as goal

pub returns-clause-found : goal.returns-clause-found
returns-clause-found c =
    packed_by c.number_of.new.self.list.items c.args.held.now _ c.seqno_and_metric-seqno.ensures.finite
    c.in_ok-origin.ensures.found c.seqno_and_metric-seqno.ensures.seqno c.seqno_and_metric-seqno.ensures.metric
