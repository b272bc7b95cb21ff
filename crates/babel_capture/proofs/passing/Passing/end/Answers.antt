-- Each datagram that is known is given up, one after another.
use Rattle.std.proofs.Common.{refl, ◌∙◌}
use Rattle.std.proofs.lemmas.Result.{err_from_is_err_and}
use Rattle.babel_capture.specs.Passing.{GivesLast}
use Rattle.babel_capture.proofs.GivingLaws.{last-all, last-both, last-none, last-refused, last-some}
use Rattle.babel_capture.proofs.SinkLaws.{any-err, sinks-as, sinks-both, sinks-none}
use Rattle.babel_capture.proofs.passing.Passing.end.Goals as goal

pub loop-init : goal.loop-init
loop-init g c = record {
  wanted = refl;
  names = refl;
  packets = refl;
  took = sinks-none g.S.Sink.has c.args.sink.now (GivesLast c.args.self.now c.args.self.now) (last-none c.args.self.now);
}

pub loop-preserved : goal.loop-preserved
loop-preserved g c = record {
  wanted = c.give_up_last.ensures.wanted ∙ c.loop.invariant.wanted;
  names = c.give_up_last.ensures.names ∙ c.loop.invariant.names;
  packets = c.give_up_last.ensures.packets ∙ c.loop.invariant.packets;
  took = sinks-both g.S.Sink.has c.args.sink.now c.loop.sink c.give_up_last.new.sink (GivesLast c.args.self.now c.loop.self) (GivesLast c.loop.self c.give_up_last.new.self)
      (GivesLast c.args.self.now c.give_up_last.new.self) (λ one two goes goes_on. last-both c.args.self.now c.loop.self c.give_up_last.new.self one two goes goes_on) c.loop.invariant.took
      c.in_ok-give_up_last.ensures.gives;
}

pub returns-clause-ok : goal.returns-clause-ok
returns-clause-ok g c =
    let new = c.give_up_last.new.self in
    sinks-both g.S.Sink.has c.args.sink.now c.loop.sink c.give_up_last.new.sink (GivesLast c.args.self.now c.loop.self) (GivesLast c.loop.self new) _
    (λ one two goes goes_on. last-all c.args.self.now new _ (c.in_ok-give_up_last.ensures.none c.if-branch.false) (last-both c.args.self.now c.loop.self new one two goes goes_on))
    c.loop.invariant.took c.in_ok-give_up_last.ensures.gives

pub returns-in_err-give_up_last-clause-stopped : goal.returns-in_err-give_up_last-clause-stopped
returns-in_err-give_up_last-clause-stopped g c =
    any-err c.from_residual.result (rw c.in_err-give_up_last.ensures.stopped
    (sinks-as g.S.Sink.has c.args.sink.now c.loop.sink (GivesLast c.args.self.now c.loop.self) _ (λ more goes. last-some c.args.self.now c.loop.self more goes) c.loop.invariant.took))

pub returns-in_err-give_up_last-clause-err : goal.returns-in_err-give_up_last-clause-err
returns-in_err-give_up_last-clause-err g c =
    let exit = err_from_is_err_and c.from_residual.result c.from_residual.ensures.1 in
    rw (exit.1, exit.2) (last-refused c.args.self.now c.loop.self c.loop.invariant.took.more _ c.loop.invariant.took.are_read c.in_err-give_up_last.ensures.err)
