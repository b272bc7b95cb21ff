use Rattle.std.proofs.Common.{◌≡◌, ◌∷◌, [], ◌+◌, List, ℕ, false, inr, refl, ap, sym, subst, ◌∙◌, arith}
use Rattle.std.proofs.lemmas.List.{append-nil}
use Rattle.std.proofs.lemmas.Result.{IfErr-weaker, err_from_is_err_and}
use Rattle.babel_capture.specs.declared.fault.Fault.{Fault}
use Rattle.babel_capture.specs.Contents.{captured_of}
use Rattle.babel_capture.specs.Counts.{Made}
use Rattle.babel_capture.specs.Fragments.{is_past}
use Rattle.babel_capture.specs.Passage.{Sighting, known_after, sight_in, sightings_skipped, skipped_of}
use Rattle.babel_capture.specs.Passing.{GivesUp, Passed, passage_of_passed, ticked}
use Rattle.babel_capture.specs.Pieces.{fragment_of}
use Rattle.babel_capture.specs.Sight.{fragmented, sight_of}
use Rattle.babel_capture.specs.Sinking.{GatherSome, Sinks}
use Rattle.babel_capture.specs.contracts.passing.Passing.{the_view}
use Rattle.babel_capture.proofs.GatherLaws.{some-none}
use Rattle.babel_capture.proofs.GivingLaws.{passed_of}
use Rattle.babel_capture.proofs.PassingLaws.{all-skipped, fits-of, more-all, passage-all, refused-given, seen-other, some-all, some-given}
use Rattle.babel_capture.proofs.SinkLaws.{any-err, any-ok, ok-both, sinks-as, sinks-both}
use Rattle.babel_capture.proofs.passing.Passing.skip_packet.Goals as goal

pub returns-in_err-pass_time-clause-stopped : goal.returns-in_err-pass_time-clause-stopped
returns-in_err-pass_time-clause-stopped g c =
    let old = c.args.self.now in
    let packet = captured_of c.args.packet.now in
    any-err c.from_residual.result (sinks-as g.S.Sink.has c.args.sink.now c.pass_time.new.sink _ _
    (λ more some. some-given old packet (skipped_of (old.gathering.report.packets + 1) c.args.at packet ∷ []) more some) c.in_err-pass_time.ensures.stopped)

pub returns-in_err-pass_time-clause-err : goal.returns-in_err-pass_time-clause-err
returns-in_err-pass_time-clause-err g c =
    let old = c.args.self.now in
    let packet = captured_of c.args.packet.now in
    let exit = err_from_is_err_and c.from_residual.result c.from_residual.ensures.1 in
    rw (exit.1, exit.2) (inr (refused-given old packet (skipped_of (old.gathering.report.packets + 1) c.args.at packet ∷ []) c.in_err-pass_time.field-0.0 c.in_err-pass_time.ensures.err))

pub skip_fragment-requires-clause-fits : goal.skip_fragment-requires-clause-fits
skip_fragment-requires-clause-fits g c = fits-of (captured_of c.args.packet.now) c.in-Fragment.fragment (sym c.look-seen.ensures ∙ ap sight_of c.in-Fragment.is)

pub returns-in-Fragment-clause-ok : goal.returns-in-Fragment-clause-ok
returns-in-Fragment-clause-ok g c =
    let old = c.args.self.now in
    let mid = c.pass_time.new.self in
    let packet = captured_of c.args.packet.now in
    let none = c.in_ok-pass_time.ensures.all in
    let skipped : List Sighting = skipped_of (mid.gathering.report.packets + 1) c.args.at packet ∷ [] in
    let unit : Unit {0} = tt in
    ok-both c.skip_fragment.result (λ _ sinks. sinks-both g.S.Sink.has c.args.sink.now c.pass_time.new.sink c.skip_fragment.new.sink (GivesUp (ticked old packet) mid) _ _
    (λ one two gave goes. more-all old mid c.args.at packet one gave none c.skip_fragment.new.self.gathering (sightings_skipped (passage_of_passed old) c.args.at packet) skipped two
    (all-skipped old mid c.args.at packet one gave none) goes) c.in_ok-pass_time.ensures.gives sinks)
    (any-ok c.skip_fragment.result unit) c.skip_fragment.ensures.ok

pub returns-in-Fragment-clause-stopped : goal.returns-in-Fragment-clause-stopped
returns-in-Fragment-clause-stopped g c =
    let old = c.args.self.now in
    let mid = c.pass_time.new.self in
    let packet = captured_of c.args.packet.now in
    let none = c.in_ok-pass_time.ensures.all in
    let skipped : List Sighting = skipped_of (mid.gathering.report.packets + 1) c.args.at packet ∷ [] in
    let all = sightings_skipped (passage_of_passed old) c.args.at packet in
    IfErr-weaker c.skip_fragment.result (λ (fault : Fault). c.skip_fragment.new.sink ≡ c.pass_time.new.sink)
    (λ (fault : Fault). Sinks g.S.Sink.has c.args.sink.now c.skip_fragment.new.sink (GatherSome old.gathering all))
    (λ fault same. rw same (sinks-as g.S.Sink.has c.args.sink.now c.pass_time.new.sink (GivesUp (ticked old packet) mid) (GatherSome old.gathering all) (λ one gave.
    subst (λ (m : List Made). GatherSome old.gathering all m) (append-nil one)
    (some-all old mid c.args.at packet one gave none all skipped [] (all-skipped old mid c.args.at packet one gave none) (some-none mid.gathering skipped))) c.in_ok-pass_time.ensures.gives))
    c.skip_fragment.ensures.stopped

pub returns-in-Fragment-clause-passage : goal.returns-in-Fragment-clause-passage
returns-in-Fragment-clause-passage g c =
    let old = c.args.self.now in
    let mid = c.pass_time.new.self in
    let new = c.skip_fragment.new.self in
    let r = c.skip_fragment.result in
    let packet = captured_of c.args.packet.now in
    let gives = c.in_ok-pass_time.ensures.gives in
    let none = c.in_ok-pass_time.ensures.all in
    let sight : sight_in packet ≡ fragmented (fragment_of c.in-Fragment.fragment) = sym c.look-seen.ensures ∙ ap sight_of c.in-Fragment.is in
    let e = c.skip_fragment.ensures in
    let known = known_after (passage_of_passed mid) c.args.at packet.ends_within in
    ok-both r (λ packets (both : (new.clock ≡ mid.clock) × (new.known ≡ known (fragmented (fragment_of c.in-Fragment.fragment)))).
    passage-all old mid c.args.at packet gives.more gives.are_read none new packets both.0 (both.1 ∙ ap known (sym sight)))
    e.packets (ok-both r (λ clock is. (clock, is)) e.clock e.known)

pub returns : goal.returns
returns g c =
    let old = c.args.self.now in
    let mid = the_view c.self.inside in
    let packet = captured_of c.args.packet.now in
    let gives = subst (λ (v : Passed). Sinks g.S.Sink.has c.args.sink.now c.pass_time.new.sink (GivesUp (ticked old packet) v)) (sym c.self.view_is) c.in_ok-pass_time.ensures.gives in
    let none = subst (λ (v : Passed). is_past v.clock v.known.unfinished ≡ false) (sym c.self.view_is) c.in_ok-pass_time.ensures.all in
    let is = gives.are_read.1 in
    let others = seen-other (passage_of_passed mid) c.args.at packet c.look-seen.result c.in_default.not-Fragment in
    let skipped : List Sighting = skipped_of (mid.gathering.report.packets + 1) c.args.at packet ∷ [] in
    let known : mid.known ≡ known_after (passage_of_passed mid) c.args.at packet.ends_within (sight_in packet) =
    sym others.1 ∙ ap (known_after (passage_of_passed mid) c.args.at packet.ends_within) c.look-seen.ensures in
    let new = passed_of c.skip.new.self c.self.inside.fragments in
    let packets : c.skip.new.self.report.packets ≡ old.gathering.report.packets + 1 = c.skip.ensures.packets ∙ ap (λ (n : ℕ). n + 1) is.packets in
    let unit : Unit {0} = tt in
    record {
      wanted = c.skip.ensures.wanted ∙ is.wanted;
      names = c.skip.ensures.names ∙ is.names;
      report = omega (arith, packets);
      ok = sinks-both g.S.Sink.has c.args.sink.now c.pass_time.new.sink c.skip.new.sink (GivesUp (ticked old packet) mid) _ _
          (λ one two gave goes. more-all old mid c.args.at packet one gave none c.skip.new.self (sightings_skipped (passage_of_passed old) c.args.at packet) skipped two
          (all-skipped old mid c.args.at packet one gave none) goes) gives (c.skip.ensures.skipped c.args.at);
      passage = passage-all old mid c.args.at packet gives.more gives.are_read none new c.skip.ensures.packets refl known;
      stopped = unit;
      err = unit;
      memory = unit;
    }
