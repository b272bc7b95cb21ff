-- Each TLV is taken, and then what has expired.
use Rattle.std.proofs.Common.{◌≡◌, ◌≤◌, rules, arith, inr, refl, subst, sym, ap, ◌∙◌, ℕ, length, Option, [], ◌∷◌}
use Rattle.std.proofs.lemmas.Result.{err_from_is_err_and}
use Rattle.babel_tlv.specs.Context.{Context, updated}
use Rattle.babel_tlv.specs.EventKinds.{event_of}
use Rattle.babel_tlv.specs.Framing.{tlvs_of}
use Rattle.babel_tlv.specs.Frames.{tlv_value}
use Rattle.babel_tlv.specs.Left.{tlvs_left}
use Rattle.babel_table.specs.Counts.{Counts}
use Rattle.babel_table.specs.Moments.{told_at}
use Rattle.babel_table.proofs.TookLaws.{length-tlvs_of}
use Rattle.babel_timeline.specs.Telling.{Tells, TellsEnds, said_of}
use Rattle.babel_timeline.proofs.HearingLaws.{counts-begin, counts-end, counts-next}
use Rattle.babel_timeline.proofs.RefusedLaws.{taken-begin, taken-next, taken-refused}
use Rattle.babel_timeline.proofs.TakingLaws.{tlvs-begin, tlvs-end, tlvs-next}
use Rattle.babel_timeline.proofs.interest.Interest.take_body.Goals as goal

pub loop-tlv-init : goal.loop-tlv-init
loop-tlv-init g c = record {
  bounds = (refl, refl);
  to = tlvs-begin g.S.Ord.cmp g.met.S.Ord.total g.met.S.Sender.exact c.args.timeline.now.factor c.args.self.now.asked c.args.self.now.view c.args.sender c.args.time c.args.start.now (tlvs_of c.args.at c.args.body.now) c.args.timeline.now.rows c.args.told.now.items
      c.at-state.result (tlvs_left c.new-tlvs.result) c.at-state.ensures c.new-tlvs.ensures.left;
  taken = taken-begin g.S.Ord.cmp g.met.S.Ord.total g.met.S.Sender.exact c.args.timeline.now.factor c.args.self.now.asked c.args.self.now.view c.args.sender c.args.time c.args.start.now (tlvs_of c.args.at c.args.body.now) c.args.timeline.now.rows c.args.told.now.items
      c.at-state.result (tlvs_left c.new-tlvs.result) c.at-state.ensures c.new-tlvs.ensures.left;
  room = (let le : length (tlvs_left c.new-tlvs.result) ≤ length c.args.body.now = rw c.new-tlvs.ensures.left (length-tlvs_of c.args.at c.args.body.now) in omega arith);
  counts = counts-begin c.args.start.now (tlvs_of c.args.at c.args.body.now) c.args.report.now c.at-state.result (tlvs_left c.new-tlvs.result) c.at-state.ensures c.new-tlvs.ensures.left;
}

pub count-requires : goal.count-requires
count-requires g c = omega (arith, ap length c.in-Some.ensures.next, c.loop-tlv.invariant.room, c.requires.room)

pub loop-tlv-preserved : goal.loop-tlv-preserved
loop-tlv-preserved g c = record {
  bounds = (c.take_tlv.ensures.bounds.0 ∙ c.loop-tlv.invariant.bounds.0, c.take_tlv.ensures.bounds.1 ∙ c.loop-tlv.invariant.bounds.1);
  to = tlvs-next g.S.Ord.cmp g.met.S.Ord.total g.met.S.Sender.exact c.args.timeline.now.factor c.args.self.now.asked c.args.self.now.view c.args.sender c.args.time c.args.start.now (tlvs_of c.args.at c.args.body.now) c.args.timeline.now.rows c.args.told.now.items
      c.loop-tlv.state c.take_tlv.new.state (tlv_value c.in-Some.tlv) (tlvs_left c.loop-tlv.tlvs) (tlvs_left c.advance.new.self) c.loop-tlv.timeline.rows
      c.take_tlv.new.timeline.rows c.loop-tlv.told.items c.take_tlv.new.told.items c.in-Some.ensures.next c.in_ok-kind.ensures.state
      (subst (λ (f : Option ℕ). Tells g.S.Ord.cmp f c.args.self.now.asked
      (said_of c.args.self.now.asked c.args.self.now.view c.args.sender (told_at c.args.time c.loop-tlv.state (tlv_value c.in-Some.tlv) ∷ [])) c.args.time
      c.loop-tlv.timeline.rows c.take_tlv.new.timeline.rows c.loop-tlv.told.items c.take_tlv.new.told.items) c.loop-tlv.invariant.bounds.0 c.in_ok-kind.ensures.ok)
      c.loop-tlv.invariant.to;
  taken = taken-next g.S.Ord.cmp g.met.S.Ord.total g.met.S.Sender.exact c.args.timeline.now.factor c.args.self.now.asked c.args.self.now.view c.args.sender c.args.time c.args.start.now (tlvs_of c.args.at c.args.body.now) c.args.timeline.now.rows c.args.told.now.items
      c.loop-tlv.state c.take_tlv.new.state (tlv_value c.in-Some.tlv) (tlvs_left c.loop-tlv.tlvs) (tlvs_left c.advance.new.self) c.loop-tlv.timeline.rows
      c.take_tlv.new.timeline.rows c.loop-tlv.told.items c.take_tlv.new.told.items c.in-Some.ensures.next
      (let to = c.loop-tlv.invariant.to in c.in_ok-kind.ensures.state c.args.start.now to.earlier to.context_is ∙ ap (λ (k : Context). updated k (tlv_value c.in-Some.tlv)) (sym to.context_is))
      (subst (λ (f : Option ℕ). Tells g.S.Ord.cmp f c.args.self.now.asked
      (said_of c.args.self.now.asked c.args.self.now.view c.args.sender (told_at c.args.time c.loop-tlv.state (tlv_value c.in-Some.tlv) ∷ [])) c.args.time
      c.loop-tlv.timeline.rows c.take_tlv.new.timeline.rows c.loop-tlv.told.items c.take_tlv.new.told.items) c.loop-tlv.invariant.bounds.0 c.in_ok-kind.ensures.ok)
      c.loop-tlv.invariant.taken;
  room = omega (arith, ap length c.in-Some.ensures.next, ap (λ (n : Counts). n.tlvs) (c.count.ensures c.take_tlv.new.route), c.loop-tlv.invariant.room);
  counts = counts-next c.args.start.now (tlvs_of c.args.at c.args.body.now) c.args.report.now c.loop-tlv.state c.take_tlv.new.state (tlv_value c.in-Some.tlv) (event_of c.in_ok-kind.kind c.take_tlv.new.route)
      (tlvs_left c.loop-tlv.tlvs) (tlvs_left c.advance.new.self) c.loop-tlv.report c.count.new.self c.in-Some.ensures.next c.in_ok-kind.ensures.state c.in_ok-kind.ensures.said
      (c.count.ensures c.take_tlv.new.route) c.loop-tlv.invariant.counts;
}

pub returns-clause-ok : goal.returns-clause-ok
returns-clause-ok g c =
    let none : tlvs_left c.loop-tlv.tlvs ≡ [] = search rules in
    tlvs-end g.S.Ord.cmp g.met.S.Ord.total g.met.S.Sender.exact c.args.timeline.now.factor c.args.self.now.asked c.args.self.now.view c.args.sender c.args.time c.args.start.now (tlvs_of c.args.at c.args.body.now) c.args.timeline.now.rows c.args.told.now.items
    c.loop-tlv.state (tlvs_left c.loop-tlv.tlvs) c.loop-tlv.timeline.rows c.expire.new.timeline.rows c.loop-tlv.told.items c.expire.new.told.items none c.loop-tlv.invariant.to
    (subst (λ (f : Option ℕ). TellsEnds g.S.Ord.cmp f c.args.self.now.asked c.args.time c.loop-tlv.timeline.rows c.expire.new.timeline.rows c.loop-tlv.told.items c.expire.new.told.items)
    c.loop-tlv.invariant.bounds.0 c.in_ok-expire.ensures.ok)

pub returns-clause-counts : goal.returns-clause-counts
returns-clause-counts g c =
    let none : tlvs_left c.loop-tlv.tlvs ≡ [] = search rules in
    counts-end c.args.start.now (tlvs_of c.args.at c.args.body.now) c.args.report.now c.loop-tlv.state (tlvs_left c.loop-tlv.tlvs) c.loop-tlv.report none c.loop-tlv.invariant.counts

pub returns-in_err-kind-clause-refused : goal.returns-in_err-kind-clause-refused
returns-in_err-kind-clause-refused g c =
    let exit = err_from_is_err_and c.from_residual-in_err-kind.result c.from_residual-in_err-kind.ensures.1 in
    rw (exit.1, exit.2) (λ not_memory.
    inr (taken-refused g.S.Ord.cmp g.met.S.Ord.total g.met.S.Sender.exact c.args.timeline.now.factor c.args.self.now.asked c.args.self.now.view c.args.sender c.args.time c.args.start.now (tlvs_of c.args.at c.args.body.now) c.args.timeline.now.rows
    c.args.told.now.items c.args.timeline.now.limit c.loop-tlv.timeline.limit c.loop-tlv.timeline.factor c.loop-tlv.state (tlv_value c.in-Some.tlv) (tlvs_left c.loop-tlv.tlvs) (tlvs_left c.advance.new.self) c.loop-tlv.timeline.rows
    c.take_tlv.new.timeline.rows c.loop-tlv.told.items c.take_tlv.new.told.items _ c.in-Some.ensures.next c.loop-tlv.invariant.taken c.loop-tlv.invariant.bounds (c.in_err-kind.ensures.refused not_memory)))
