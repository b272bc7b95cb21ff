use Rattle.std.proofs.Common.{◌∷◌, [], refl, ap, sym, subst}
use Rattle.std.specs.Prelude.{None}
use Rattle.babel_capture.specs.Findings.{Finds, Found, finding_of}
use Rattle.babel_capture.specs.Fragments.{lost_sight}
use Rattle.babel_capture.specs.Gathering.{Gathering, IsLeft, IsUncounted, RefusesFound, RefusesSight}
use Rattle.babel_capture.specs.Passage.{missing_of}
use Rattle.babel_capture.specs.Sight.{Sight}
use Rattle.babel_capture.specs.declared.sink.Record.{Record}
use Rattle.babel_capture.specs.Sinking.{GatherMore, IsTold, Sinks}
use Rattle.babel_capture.specs.contracts.gathered.Gathered.{the_view}
use Rattle.babel_capture.proofs.GatherLaws.{finding-taken, gathered-missing, made_of}
use Rattle.babel_capture.proofs.LostLaws.{lost-uncounted}
use Rattle.babel_capture.proofs.SinkLaws.{sinks-told}
use Rattle.babel_capture.proofs.gathered.Gathered.miss.Goals as goal

pub returns-in-Refused-clause-err : goal.returns-in-Refused-clause-err
returns-in-Refused-clause-err g c =
    let old = the_view c.self.inside in
    let lost = c.args.datagram.now in
    let what = finding_of c.finding-finding.result in
    let finds : Finds old.wanted (lost_sight lost) what = subst (λ (s : Sight). Finds old.wanted s what) c.look_lost-seen.ensures c.finding-finding.ensures in
    let refuses : RefusesFound old.senders lost.at what c.fault.result =
    subst (λ (f : Found). RefusesFound old.senders lost.at f c.fault.result) (sym (ap finding_of c.in-Refused.is)) c.fault.ensures.value in
    subst (λ (v : Gathering). RefusesSight v.wanted v.senders lost.at (lost_sight lost) c.fault.result) c.self.view_is (what, finds, refuses)

pub returns-clause-taken : goal.returns-clause-taken
returns-clause-taken g c =
    let old = the_view c.self.inside in
    let lost = c.args.datagram.now in
    let what = finding_of c.finding-finding.result in
    let finds : Finds old.wanted (lost_sight lost) what = subst (λ (s : Sight). Finds old.wanted s what) c.look_lost-seen.ensures c.finding-finding.ensures in
    let uncounted : IsUncounted what = lost-uncounted old.wanted lost what finds (finding-taken c.finding-finding.result c.in_default.not-Refused) in
    subst (λ (v : Gathering). IsLeft v.wanted (lost_sight lost)) c.self.view_is (what, finds, uncounted)

pub returns-clause-ok : goal.returns-clause-ok
returns-clause-ok g c =
    let old = the_view c.self.inside in
    let new = the_view (record {
      alloc = c.self.inside.alloc;
      wanted = c.self.inside.wanted;
      names = c.self.inside.names;
      report = c.count_missing.new.self;
      senders = c.self.inside.senders;
      outside = c.self.inside.outside;
    }) in
    let lost = c.args.datagram.now in
    let what = finding_of c.finding-finding.result in
    let finds : Finds old.wanted (lost_sight lost) what = subst (λ (s : Sight). Finds old.wanted s what) c.look_lost-seen.ensures c.finding-finding.ensures in
    let uncounted : IsUncounted what = lost-uncounted old.wanted lost what finds (finding-taken c.finding-finding.result c.in_default.not-Refused) in
    let next = missing_of (c.args.number, lost) in
    let telling : Record = record { number = c.args.number; time = None; said = c.said.result } in
    let told : IsTold (made_of next what) telling = record {
      number = refl;
      time = refl;
      packet = c.said.ensures.packet;
      missed = c.said.ensures.missed;
      left = c.said.ensures.left;
    } in
    subst (λ (v : Gathering). Sinks g.S.Sink.has c.args.sink.now c.take.new.self (GatherMore v new (next ∷ []))) c.self.view_is
    (sinks-told g.S.Sink.has c.args.sink.now c.take.new.self (GatherMore old new (next ∷ [])) telling (made_of next what) told c.take.ensures
    (gathered-missing next old new what refl c.count_missing.ensures refl uncounted refl finds))
