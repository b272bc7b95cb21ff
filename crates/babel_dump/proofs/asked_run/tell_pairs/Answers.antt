use Rattle.babel_dump.proofs.AskedRuns.{wrote_pairs}
use Rattle.babel_dump.proofs.asked_run.tell_pairs.Goals as goal

pub returns : goal.returns
returns g c =
    wrote_pairs c.args.pairs.now (g.R.Read.remaining c.args.reader) (g.S.Read.remaining c.args.other) _ c.in_ok-left.left c.in_ok-right.right c.in_ok-senders.field-0 _ _
    c.in_ok-left.ensures.made c.in_ok-right.ensures.made c.in_ok-senders.ensures c.in_ok-done-2.ensures.senders c.deref.ensures.value c.in_ok-write_text.ensures.whole c.in_ok-done-2.ensures.status
