use Rattle.std.proofs.Common.{◌≡◌, ℕ, ◌+◌, ◌∷◌, [], refl, ap, sym, subst, ◌∙◌, inr}
use Rattle.std.specs.Prelude.{Option}
use Rattle.std.proofs.lemmas.Result.{err_from_is_err_and}
use Rattle.babel_capture.specs.Contents.{captured_of}
use Rattle.babel_capture.specs.Counting.{counted, counted_at}
use Rattle.babel_capture.specs.Findings.{Found, finding_of}
use Rattle.babel_capture.specs.Gathering.{Gathering, RefusesFound, RefusesSight, SightNeedsMemory}
use Rattle.babel_capture.specs.Passage.{sighting_as}
use Rattle.babel_capture.specs.Sight.{sight_of}
use Rattle.babel_capture.specs.declared.sink.Record.{Record}
use Rattle.babel_capture.specs.Sinking.{GatherMore, IsTold, Sinks}
use Rattle.babel_capture.specs.Tallies.{listed_with}
use Rattle.babel_capture.specs.Times.{Came, kept, time_in}
use Rattle.babel_capture.specs.contracts.gathered.Gathered.{the_view}
use Rattle.babel_capture.proofs.GatherLaws.{counted-one, finding-taken, gathered-push, made_of}
use Rattle.babel_capture.proofs.ReadingLaws.{else-by}
use Rattle.babel_capture.proofs.SinkLaws.{sinks-told}
use Rattle.babel_capture.proofs.gathered.Gathered.take_seen.Goals as goal

pub returns-in-Refused-clause-err : goal.returns-in-Refused-clause-err
returns-in-Refused-clause-err g c =
    let old = the_view c.self.inside in
    let what = finding_of c.finding-finding.result in
    let refuses : RefusesFound old.senders c.args.at what c.fault.result =
    subst (λ (f : Found). RefusesFound old.senders c.args.at f c.fault.result) (sym (ap finding_of c.in-Refused.is)) c.fault.ensures.value in
    inr (subst (λ (v : Gathering). RefusesSight v.wanted v.senders c.args.at (sight_of c.args.seen.now) c.fault.result) c.self.view_is (what, c.finding-finding.ensures, refuses))

pub returns-in_err-interval-clause-err : goal.returns-in_err-interval-clause-err
returns-in_err-interval-clause-err g c =
    let what = finding_of c.finding-finding.result in
    let exit = err_from_is_err_and c.from_residual.result c.from_residual.ensures.1 in
    rw (exit.1, exit.2) (else-by (λ refuses. subst (λ (v : Gathering). RefusesSight v.wanted v.senders c.args.at (sight_of c.args.seen.now) c.in_err-interval.field-0.0) c.self.view_is
    (what, c.finding-finding.ensures, refuses)) c.in_err-interval.ensures.err)

pub returns-in_err-interval-clause-memory : goal.returns-in_err-interval-clause-memory
returns-in_err-interval-clause-memory g c =
    let what = finding_of c.finding-finding.result in
    let exit = err_from_is_err_and c.from_residual.result c.from_residual.ensures.1 in
    rw (exit.1, exit.2) (λ memory. subst (λ (v : Gathering). SightNeedsMemory v.wanted v.senders (sight_of c.args.seen.now)) c.self.view_is
    (inr (what, c.finding-finding.ensures, c.in_err-interval.ensures.memory memory)))

pub returns-clause-ok : goal.returns-clause-ok
returns-clause-ok g c =
    let old = the_view c.self.inside in
    let new = the_view (record {
      alloc = c.self.inside.alloc;
      wanted = c.self.inside.wanted;
      names = c.self.inside.names;
      report = c.count.new.self;
      senders = c.take.new.self;
      outside = c.note.new.self;
    }) in
    let what = finding_of c.finding-finding.result in
    let packet = captured_of c.args.packet.now in
    let seen = sight_of c.args.seen.now in
    let next = sighting_as (old.report.packets + 1) c.args.at packet seen in
    let sink = c.take-2.new.self in
    let time = c.args.came.now in
    let came : kept time c.babel_section-section.result ≡ next.came =
    ap (λ (t : Option ℕ). kept t c.babel_section-section.result) c.requires.time
    ∙ ap (kept (time_in packet.moment)) c.babel_section-section.ensures in
    let report = c.count.ensures ∙ ap (λ (k : Came). counted (counted_at old.report k) packet.link what) came in
    let senders = c.in_ok-interval.ensures.ok ∙ ap (λ (t : Option ℕ). listed_with old.wanted.are_listed old.senders t what) c.requires.time in
    let telling : Record = record { number = c.packets.result; time = time; said = c.said.result } in
    let told : IsTold (made_of next what) telling = record {
      number = c.packets.ensures ∙ ap (λ r. r.packets) report ∙ counted-one (counted_at old.report next.came) packet.link what;
      time = c.requires.time;
      packet = c.said.ensures.packet;
      missed = c.said.ensures.missed;
      left = c.said.ensures.left;
    } in
    subst (λ (v : Gathering). Sinks g.S.Sink.has c.args.sink.now sink (GatherMore v new (sighting_as (v.report.packets + 1) c.args.at packet seen ∷ []))) c.self.view_is
    (sinks-told g.S.Sink.has c.args.sink.now sink (GatherMore old new (next ∷ [])) telling (made_of next what) told c.take-2.ensures
    (gathered-push next old new what refl report senders c.in_ok-interval.ensures.few (finding-taken c.finding-finding.result c.in_default-finding.not-Refused) refl refl c.finding-finding.ensures))
