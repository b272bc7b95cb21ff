-- The map has one expiry more.
use Rattle.std.proofs.Common.{Some, ap, arith}
use Rattle.babel_timeline.specs.Kept.{keys_in}
use Rattle.babel_timeline.specs.Rows.{expiry_cmp}
use Rattle.babel_timeline.specs.declared.queue.Expiry.{Expiry}
use Rattle.babel_timeline.proofs.KeptLaws.{keys_updated, put_law, put_soonest}
use Rattle.babel_timeline.proofs.queue.Queue.put.Goals as goal

pub invariant_of-self : goal.invariant_of-self
invariant_of-self g c =
    put_soonest g.S.Ord.cmp (keys_in c.self.inside.places) (keys_in c.insert.new.self) c.new.result c.self.inside.soonest c.min-self-inside.result c.self.invariant
    (omega (arith, c.min-self-inside.ensures))
    (omega (arith, c.min-self-inside.ensures, ap (λ (e : Expiry g.row.S.Denot). e.time) c.new.ensures))
    (keys_updated (expiry_cmp g.S.Ord.cmp) c.self.inside.places c.insert.new.self c.new.result (Some c.args.place) c.in-Ok.ensures.updates.0)

pub returns-in-Ok-clause-ok : goal.returns-in-Ok-clause-ok
returns-in-Ok-clause-ok g c =
    rw (← c.self.view_is)
    (put_law g.S.Ord.cmp (keys_in c.self.inside.places) (keys_in c.insert.new.self) c.new.result c.args.time c.in-Some.time c.args.subject.now c.in-Some.is c.new.ensures (keys_updated (expiry_cmp g.S.Ord.cmp) c.self.inside.places c.insert.new.self c.new.result (Some c.args.place) c.in-Ok.ensures.updates.0))
