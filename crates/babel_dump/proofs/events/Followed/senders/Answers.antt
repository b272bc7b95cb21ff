use Rattle.babel_dump.proofs.HeardLaws.{heard_all, heard_next}
use Rattle.babel_dump.proofs.events.Followed.senders.Goals as goal

pub loop-origin-preserved : goal.loop-origin-preserved
loop-origin-preserved c =
    heard_next c.args.self.now _ c.loop-origin.senders.items c.add_heard.new.senders.items _ _ _ c.loop-origin.invariant c.in-Some.ensures.steps c.in_ok-add_heard.ensures

pub returns : goal.returns
returns c = heard_all c.args.self.now _ c.loop-origin.senders.items _ c.loop-origin.invariant c.in-None.ensures.steps.0
