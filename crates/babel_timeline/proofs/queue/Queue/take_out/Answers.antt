-- The map has one expiry less.
use Rattle.std.proofs.Common.{None}
use Rattle.babel_timeline.specs.Kept.{keys_in}
use Rattle.babel_timeline.specs.Rows.{expiry_cmp}
use Rattle.babel_timeline.proofs.KeptLaws.{keys_updated, take_law, take_soonest}
use Rattle.babel_timeline.proofs.queue.Queue.take_out.Goals as goal

pub invariant_of-self : goal.invariant_of-self
invariant_of-self g c =
    take_soonest g.S.Ord.cmp (keys_in c.self.inside.places) (keys_in c.remove.new.self) c.new.result c.self.inside.soonest c.self.invariant
    (keys_updated (expiry_cmp g.S.Ord.cmp) c.self.inside.places c.remove.new.self c.new.result None c.remove.ensures.updates.0)

pub returns-in-Some : goal.returns-in-Some
returns-in-Some g c =
    rw (← c.self.view_is)
    (take_law g.S.Ord.cmp (keys_in c.self.inside.places) (keys_in c.remove.new.self) c.new.result c.args.time c.in-Some.time c.args.subject.now c.in-Some.is c.new.ensures
    (keys_updated (expiry_cmp g.S.Ord.cmp) c.self.inside.places c.remove.new.self c.new.result None c.remove.ensures.updates.0))
