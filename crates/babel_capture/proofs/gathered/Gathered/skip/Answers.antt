use Rattle.std.proofs.Common.{◌+◌, ◌∷◌, [], refl, ap, subst, ◌∙◌}
use Rattle.std.specs.Prelude.{None}
use Rattle.babel_capture.specs.declared.sink.Record.{Record}
use Rattle.babel_capture.specs.declared.sink.Said.TheVariants as saids
use Rattle.babel_capture.specs.Contents.{captured_of}
use Rattle.babel_capture.specs.Counts.{Counts}
use Rattle.babel_capture.specs.Findings.{passed}
use Rattle.babel_capture.specs.Gathering.{Gathering}
use Rattle.babel_capture.specs.Passage.{skipped_of}
use Rattle.babel_capture.specs.Sinking.{GatherMore, IsTold, Sinks}
use Rattle.babel_capture.specs.contracts.gathered.Gathered.{the_view}
use Rattle.babel_capture.proofs.GatherLaws.{gathered-push, made_of, passed-listed}
use Rattle.babel_capture.proofs.SinkLaws.{sinks-told}
use Rattle.babel_capture.proofs.gathered.Gathered.skip.Goals as goal

pub returns-clause-skipped : goal.returns-clause-skipped
returns-clause-skipped g c at =
    let old = the_view c.self.inside in
    let new = the_view (record {
      alloc = c.self.inside.alloc;
      wanted = c.self.inside.wanted;
      names = c.self.inside.names;
      report = c.count_skipped.new.self;
      senders = c.self.inside.senders;
      outside = c.pass.new.self;
    }) in
    let packet = captured_of c.args.packet.now in
    let next = skipped_of (old.report.packets + 1) at packet in
    let telling : Record = record { number = c.packets.result; time = None; said = saids.Nothing } in
    let told : IsTold (made_of next passed) telling = record {
      number = c.packets.ensures ∙ ap (λ (r : Counts). r.packets) c.count_skipped.ensures;
      time = refl;
      packet = (refl, refl);
      missed = refl;
      left = refl;
    } in
    subst (λ (v : Gathering). Sinks g.S.Sink.has c.args.sink.now c.take.new.self (GatherMore v new (skipped_of (v.report.packets + 1) at packet ∷ []))) c.self.view_is
    (sinks-told g.S.Sink.has c.args.sink.now c.take.new.self (GatherMore old new (next ∷ [])) telling (made_of next passed) told c.take.ensures
    (gathered-push next old new passed refl c.count_skipped.ensures (passed-listed old.wanted.are_listed old.senders None) (λ few. few) tt refl refl refl))
