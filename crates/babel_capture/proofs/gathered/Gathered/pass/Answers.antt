use Rattle.std.proofs.Common.{◌≡◌, ℕ, ◌+◌, ◌∷◌, [], refl, ap, subst, ◌∙◌}
use Rattle.std.specs.Prelude.{None, Option}
use Rattle.babel_capture.specs.declared.sink.Record.{Record}
use Rattle.babel_capture.specs.declared.sink.Said.TheVariants as saids
use Rattle.babel_capture.specs.Contents.{captured_of}
use Rattle.babel_capture.specs.Counting.{counted, counted_at}
use Rattle.babel_capture.specs.Findings.{passed}
use Rattle.babel_capture.specs.Gathering.{Gathering}
use Rattle.babel_capture.specs.Passage.{sighting_as}
use Rattle.babel_capture.specs.Sight.{other}
use Rattle.babel_capture.specs.Sinking.{GatherMore, IsTold, Sinks}
use Rattle.babel_capture.specs.Times.{Came, kept, time_of}
use Rattle.babel_capture.specs.contracts.gathered.Gathered.{the_view}
use Rattle.babel_capture.proofs.GatherLaws.{gathered-push, made_of, passed-listed}
use Rattle.babel_capture.proofs.SinkLaws.{sinks-told}
use Rattle.babel_capture.proofs.gathered.Gathered.pass.Goals as goal

pub returns-clause-passed : goal.returns-clause-passed
returns-clause-passed g c at =
    let old = the_view c.self.inside in
    let new = the_view (record {
      alloc = c.self.inside.alloc;
      wanted = c.self.inside.wanted;
      names = c.self.inside.names;
      report = c.count_other.new.self;
      senders = c.self.inside.senders;
      outside = c.self.inside.outside;
    }) in
    let packet = captured_of c.args.packet.now in
    let next = sighting_as (old.report.packets + 1) at packet other in
    let time = c.args.time.now in
    let telling : Record = record { number = c.packets.result; time = time; said = saids.Nothing } in
    let told : IsTold (made_of next passed) telling = record {
      number = c.packets.ensures ∙ ap (λ r. r.packets) c.count_other.ensures;
      time = c.requires.time;
      packet = (refl, refl);
      missed = refl;
      left = refl;
    } in
    let came : kept time None ≡ next.came = ap (λ (t : Option ℕ). kept t None) c.requires.time in
    let report = c.count_other.ensures ∙ ap (λ (k : Came). counted (counted_at old.report k) packet.link passed) came in
    subst (λ (v : Gathering). Sinks g.S.Sink.has c.args.sink.now c.take.new.self (GatherMore v new (sighting_as (v.report.packets + 1) at packet other ∷ []))) c.self.view_is
    (sinks-told g.S.Sink.has c.args.sink.now c.take.new.self (GatherMore old new (next ∷ [])) telling (made_of next passed) told c.take.ensures
    (gathered-push next old new passed refl report (passed-listed old.wanted.are_listed old.senders (time_of next.came)) (λ few. few) tt refl refl refl))
