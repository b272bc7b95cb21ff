-- What is pending is less than a block, and the datagrams that are known are taken.
use Rattle.std.proofs.Common.{rules, ◌≡◌, ◌≢◌, [], None, Some, refl, ap, subst, ◌∙◌, inl, inr, arith}
use Rattle.std.proofs.lemmas.Grind.{common_steps}
use Rattle.std.proofs.lemmas.List.{nil_from_length}
use Rattle.babel_capture.specs.Context.{Before}
use Rattle.babel_capture.specs.Passage.{missing_in}
use Rattle.babel_capture.specs.Reading.{HasStarted}
use Rattle.babel_capture.proofs.GatherLaws.{some-all}
use Rattle.babel_capture.proofs.SinkLaws.{sinks-as}
use Rattle.babel_capture.proofs.StreamLaws.{not-started, told-to-end}
use Rattle.babel_capture.proofs.stream.Stream.end.Goals as goal

pub returns-then-not-has_started-clause-stopped : goal.returns-then-not-has_started-clause-stopped
returns-then-not-has_started-clause-stopped g c =
    sinks-as g.S.Sink.has c.args.sink.now c.end.new.sink _ _
    (λ more goes. some-all c.args.self.now.reader.gathering c.end.new.self.gathering (missing_in c.args.self.now.reader.known.unfinished) more c.end.ensures.wanted goes) c.in_ok-end.ensures.ok

pub returns-then-not-has_started-clause-fault : goal.returns-then-not-has_started-clause-fault
returns-then-not-has_started-clause-fault g c =
    let not_now : ¬ HasStarted c.end.new.self.context = search rules in
    let not : ¬ HasStarted c.args.self.now.reader.context = subst (λ (b : Before). ¬ HasStarted b) c.end.ensures.same.0 not_now in
    not-started c.args.self.now.reader c.args.self.now.pending.items c.end.new.self.gathering not c.end.ensures.wanted c.in_ok-end.ensures.ok.more c.in_ok-end.ensures.ok.are_read

pub returns-then-is_empty-clause-ok : goal.returns-then-is_empty-clause-ok
returns-then-is_empty-clause-ok g c =
    let started_now : HasStarted c.end.new.self.context = search rules in
    let started = subst HasStarted c.end.ensures.same.0 started_now in
    let none : c.args.self.now.pending.items ≡ [] = nil_from_length c.args.self.now.pending.items (search rules) in
    sinks-as g.S.Sink.has c.args.sink.now c.end.new.sink _ _
    (told-to-end c.args.self.now.reader c.args.self.now.pending.items c.end.new.self.gathering None started c.end.ensures.names (inl (none, refl))) c.in_ok-end.ensures.ok

pub returns-clause-ok : goal.returns-clause-ok
returns-clause-ok g c =
    let started_now : HasStarted c.end.new.self.context = search rules in
    let started = subst HasStarted c.end.ensures.same.0 started_now in
    let some : c.args.self.now.pending.items ≢ [] = grind (arith, common_steps) in
    sinks-as g.S.Sink.has c.args.sink.now c.end.new.sink _ _
    (told-to-end c.args.self.now.reader c.args.self.now.pending.items c.end.new.self.gathering (Some c.at.result) started c.end.ensures.names
    (inr (some, ap Some (c.at.ensures ∙ c.end.ensures.same.1)))) c.in_ok-end.ensures.ok
