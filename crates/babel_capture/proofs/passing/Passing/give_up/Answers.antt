use Rattle.std.proofs.Common.{refl, ◌∙◌}
use Rattle.std.proofs.lemmas.Result.{err_from_is_err_and}
use Rattle.babel_capture.specs.Passing.{GivesUp}
use Rattle.babel_capture.proofs.GivingLaws.{gives-both, gives-none, gives-refused, gives-some}
use Rattle.babel_capture.proofs.SinkLaws.{any-err, sinks-as, sinks-both, sinks-none}
use Rattle.babel_capture.proofs.passing.Passing.give_up.Goals as goal

pub loop-self-init : goal.loop-self-init
loop-self-init g c = record {
  wanted = refl;
  names = refl;
  packets = refl;
  took = sinks-none g.S.Sink.has c.args.sink.now (GivesUp c.args.self.now c.args.self.now) (gives-none c.args.self.now);
}

pub loop-self-preserved : goal.loop-self-preserved
loop-self-preserved g c = record {
  wanted = c.give_up_one.ensures.wanted ∙ c.loop-self.invariant.wanted;
  names = c.give_up_one.ensures.names ∙ c.loop-self.invariant.names;
  packets = c.give_up_one.ensures.packets ∙ c.loop-self.invariant.packets;
  took = sinks-both g.S.Sink.has c.args.sink.now c.loop-self.sink c.give_up_one.new.sink (GivesUp c.args.self.now c.loop-self.self) (GivesUp c.loop-self.self c.give_up_one.new.self) (GivesUp c.args.self.now c.give_up_one.new.self)
      (λ one two goes goes_on. gives-both c.args.self.now c.loop-self.self c.give_up_one.new.self one two goes goes_on) c.loop-self.invariant.took c.in_ok-give_up_one.ensures.gives;
}

pub returns-else-branch-clause-gives : goal.returns-else-branch-clause-gives
returns-else-branch-clause-gives g c =
    sinks-both g.S.Sink.has c.args.sink.now c.loop-self.sink c.give_up_one.new.sink (GivesUp c.args.self.now c.loop-self.self) (GivesUp c.loop-self.self c.give_up_one.new.self) (GivesUp c.args.self.now c.give_up_one.new.self)
    (λ one two goes goes_on. gives-both c.args.self.now c.loop-self.self c.give_up_one.new.self one two goes goes_on) c.loop-self.invariant.took c.in_ok-give_up_one.ensures.gives

pub returns-in_err-give_up_one-clause-stopped : goal.returns-in_err-give_up_one-clause-stopped
returns-in_err-give_up_one-clause-stopped g c =
    any-err c.from_residual.result (rw c.in_err-give_up_one.ensures.stopped
    (sinks-as g.S.Sink.has c.args.sink.now c.loop-self.sink (GivesUp c.args.self.now c.loop-self.self) _ (λ more goes. gives-some c.args.self.now c.loop-self.self more goes) c.loop-self.invariant.took))

pub returns-in_err-give_up_one-clause-err : goal.returns-in_err-give_up_one-clause-err
returns-in_err-give_up_one-clause-err g c =
    let exit = err_from_is_err_and c.from_residual.result c.from_residual.ensures.1 in
    rw (exit.1, exit.2) (gives-refused c.args.self.now c.loop-self.self c.loop-self.invariant.took.more _ c.loop-self.invariant.took.are_read c.in_err-give_up_one.ensures.err)
