use Rattle.std.proofs.Common.{[], inl, inr, refl, subst}
use Rattle.babel_capture.specs.Passing.{Passed}
use Rattle.babel_capture.specs.Sinking.{GatherMore}
use Rattle.babel_capture.proofs.GatherLaws.{no-more, some-none}
use Rattle.babel_capture.proofs.SinkLaws.{any-err, any-ok, sinks-none}
use Rattle.babel_capture.proofs.passing.Passing.take_said.Goals as goal

pub returns-in-File-clause-ok : goal.returns-in-File-clause-ok
returns-in-File-clause-ok g c =
    let e = c.add_name.ensures in
    rw c.in-File.is (any-ok c.add_name.result (sinks-none g.S.Sink.has c.args.sink.now _
    (subst (λ (v : Passed). GatherMore v.gathering c.add_name.new.self [] []) c.self.view_is (no-more c.self.inside.gathered c.add_name.new.self e.wanted e.report e.senders))))

pub returns-in-File-clause-stopped : goal.returns-in-File-clause-stopped
returns-in-File-clause-stopped g c = rw c.in-File.is (any-err c.add_name.result (sinks-none g.S.Sink.has c.args.sink.now _ (some-none c.args.self.now.gathering [])))

pub returns-in-Interface-clause-ok : goal.returns-in-Interface-clause-ok
returns-in-Interface-clause-ok g c =
    let e = c.add_name-in-Interface.ensures in
    rw c.in-Interface.is (any-ok c.add_name-in-Interface.result (sinks-none g.S.Sink.has c.args.sink.now _
    (subst (λ (v : Passed). GatherMore v.gathering c.add_name-in-Interface.new.self [] []) c.self-in-Interface.view_is (no-more c.self-in-Interface.inside.gathered c.add_name-in-Interface.new.self e.wanted e.report e.senders))))

pub returns-in-Interface-clause-stopped : goal.returns-in-Interface-clause-stopped
returns-in-Interface-clause-stopped g c = rw c.in-Interface.is (any-err c.add_name-in-Interface.result (sinks-none g.S.Sink.has c.args.sink.now _ (some-none c.args.self.now.gathering [])))

pub returns-in-Section-clause-ok : goal.returns-in-Section-clause-ok
returns-in-Section-clause-ok g c =
    let now = c.args.self.now.gathering in
    let none = sinks-none g.S.Sink.has c.args.sink.now (GatherMore now now []) (no-more now now refl refl refl) in
    elim c.in-Section.is [
      | inl is ↦ rw is.1 none
      | inr is ↦ rw is none
    ]

pub returns-in-Section-2-clause-ok : goal.returns-in-Section-2-clause-ok
returns-in-Section-2-clause-ok g c =
    let now = c.args.self.now.gathering in
    let none = sinks-none g.S.Sink.has c.args.sink.now (GatherMore now now []) (no-more now now refl refl refl) in
    elim c.in-Section.is [
      | inl is ↦ rw is.1 none
      | inr is ↦ rw is none
    ]
