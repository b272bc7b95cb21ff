use Rattle.std.proofs.Common.{◌≡◌, ◌∷◌, [], ◌+◌, ◌≤◌, List, ℕ, false, inr, refl, ap, sym, subst, ◌∙◌}
use Rattle.std.proofs.lemmas.List.{append-nil}
use Rattle.std.proofs.lemmas.Result.{IfErr-weaker, err_from_is_err_and}
use Rattle.babel_capture.specs.declared.fault.Fault.{Fault}
use Rattle.babel_capture.specs.declared.wanted.Wanted.{Wanted}
use Rattle.babel_capture.specs.Contents.{captured_of}
use Rattle.babel_capture.specs.Counts.{Made}
use Rattle.babel_capture.specs.Fragments.{is_past}
use Rattle.babel_capture.specs.Gathering.{SightNeedsMemory}
use Rattle.babel_capture.specs.Passage.{Sighting, fragment_sightings, known_after, passage_to, seen_at, sight_in, sighting_as, sightings_at}
use Rattle.babel_capture.specs.Passing.{GivesUp, Passed, passage_of_passed, ticked}
use Rattle.babel_capture.specs.Pieces.{fragment_of}
use Rattle.babel_capture.specs.Sight.{Sight, fragmented, sight_of}
use Rattle.babel_capture.specs.Sinking.{GatherSome, Sinks}
use Rattle.babel_capture.specs.Tallies.{Senders}
use Rattle.babel_capture.specs.contracts.passing.Passing.{the_view}
use Rattle.babel_capture.proofs.GatherLaws.{some-none}
use Rattle.babel_capture.proofs.GivingLaws.{passed_of}
use Rattle.babel_capture.proofs.PassingLaws.{all-seen, fits-of, more-all, passage-all, refused-all, refused-given, refused-one, seen-other, some-all, some-given}
use Rattle.babel_capture.proofs.ReadingLaws.{else-by}
use Rattle.babel_capture.proofs.SinkLaws.{any-err, any-ok, ok-both, sinks-as, sinks-both}
use Rattle.babel_capture.proofs.passing.Passing.take_packet.Goals as goal

pub returns-in_err-pass_time-clause-stopped : goal.returns-in_err-pass_time-clause-stopped
returns-in_err-pass_time-clause-stopped g c =
    let old = c.args.self.now in
    let packet = captured_of c.args.packet.now in
    any-err c.from_residual.result (sinks-as g.S.Sink.has c.args.sink.now c.pass_time.new.sink _ _
    (λ more some. some-given old packet (seen_at (passage_to (passage_of_passed old) packet) c.args.at packet (sight_in packet)) more some) c.in_err-pass_time.ensures.stopped)

pub returns-in_err-pass_time-clause-err : goal.returns-in_err-pass_time-clause-err
returns-in_err-pass_time-clause-err g c =
    let old = c.args.self.now in
    let packet = captured_of c.args.packet.now in
    let exit = err_from_is_err_and c.from_residual.result c.from_residual.ensures.1 in
    rw (exit.1, exit.2) (inr (refused-given old packet (seen_at (passage_to (passage_of_passed old) packet) c.args.at packet (sight_in packet)) c.in_err-pass_time.field-0.0
    c.in_err-pass_time.ensures.err))

pub take_fragment-requires-clause-fits : goal.take_fragment-requires-clause-fits
take_fragment-requires-clause-fits g c = fits-of (captured_of c.args.packet.now) c.in-Fragment.fragment (sym c.look-seen.ensures ∙ ap sight_of c.in-Fragment.is)

pub returns-in-Fragment-clause-ok : goal.returns-in-Fragment-clause-ok
returns-in-Fragment-clause-ok g c =
    let old = c.args.self.now in
    let mid = c.pass_time.new.self in
    let packet = captured_of c.args.packet.now in
    let gives = c.in_ok-pass_time.ensures.gives in
    let none = c.in_ok-pass_time.ensures.all in
    let fragment = fragment_of c.in-Fragment.fragment in
    let sights = fragment_sightings (passage_of_passed mid) c.args.at packet fragment in
    let sight : sight_in packet ≡ fragmented fragment = sym c.look-seen.ensures ∙ ap sight_of c.in-Fragment.is in
    let are : sights ≡ seen_at (passage_of_passed mid) c.args.at packet (sight_in packet) = ap (seen_at (passage_of_passed mid) c.args.at packet) (sym sight) in
    let unit : Unit {0} = tt in
    ok-both c.take_fragment.result (λ _ sinks. sinks-both g.S.Sink.has c.args.sink.now c.pass_time.new.sink c.take_fragment.new.sink (GivesUp (ticked old packet) mid) _ _
    (λ one two gave goes. more-all old mid c.args.at packet one gave none c.take_fragment.new.self.gathering (sightings_at (passage_of_passed old) c.args.at packet) sights two
    (all-seen old mid c.args.at packet one gave none sights are) goes) gives sinks)
    (any-ok c.take_fragment.result unit) c.take_fragment.ensures.ok

pub returns-in-Fragment-clause-stopped : goal.returns-in-Fragment-clause-stopped
returns-in-Fragment-clause-stopped g c =
    let old = c.args.self.now in
    let mid = c.pass_time.new.self in
    let packet = captured_of c.args.packet.now in
    let gives = c.in_ok-pass_time.ensures.gives in
    let none = c.in_ok-pass_time.ensures.all in
    let fragment = fragment_of c.in-Fragment.fragment in
    let sights = fragment_sightings (passage_of_passed mid) c.args.at packet fragment in
    let sight : sight_in packet ≡ fragmented fragment = sym c.look-seen.ensures ∙ ap sight_of c.in-Fragment.is in
    let are : sights ≡ seen_at (passage_of_passed mid) c.args.at packet (sight_in packet) = ap (seen_at (passage_of_passed mid) c.args.at packet) (sym sight) in
    let all = sightings_at (passage_of_passed old) c.args.at packet in
    IfErr-weaker c.take_fragment.result (λ (fault : Fault). c.take_fragment.new.sink ≡ c.pass_time.new.sink)
    (λ (fault : Fault). Sinks g.S.Sink.has c.args.sink.now c.take_fragment.new.sink (GatherSome old.gathering all))
    (λ fault same. rw same (sinks-as g.S.Sink.has c.args.sink.now c.pass_time.new.sink (GivesUp (ticked old packet) mid) (GatherSome old.gathering all) (λ one gave.
    subst (λ (m : List Made). GatherSome old.gathering all m) (append-nil one) (some-all old mid c.args.at packet one gave none all sights [] (all-seen old mid c.args.at packet one gave none sights are) (some-none mid.gathering sights))) gives))
    c.take_fragment.ensures.stopped

pub returns-in-Fragment-clause-err : goal.returns-in-Fragment-clause-err
returns-in-Fragment-clause-err g c =
    let old = c.args.self.now in
    let mid = c.pass_time.new.self in
    let packet = captured_of c.args.packet.now in
    let gives = c.in_ok-pass_time.ensures.gives in
    let none = c.in_ok-pass_time.ensures.all in
    let fragment = fragment_of c.in-Fragment.fragment in
    let sights = fragment_sightings (passage_of_passed mid) c.args.at packet fragment in
    let sight : sight_in packet ≡ fragmented fragment = sym c.look-seen.ensures ∙ ap sight_of c.in-Fragment.is in
    let are : sights ≡ seen_at (passage_of_passed mid) c.args.at packet (sight_in packet) = ap (seen_at (passage_of_passed mid) c.args.at packet) (sym sight) in
    IfErr-weaker c.take_fragment.result _ _ (λ fault told. else-by (λ refuses. refused-all old mid c.args.at packet gives.more gives.are_read none (sightings_at (passage_of_passed old) c.args.at packet) sights fault
    (all-seen old mid c.args.at packet gives.more gives.are_read none sights are) refuses) told) c.take_fragment.ensures.err

pub returns-in-Fragment-clause-passage : goal.returns-in-Fragment-clause-passage
returns-in-Fragment-clause-passage g c =
    let old = c.args.self.now in
    let mid = c.pass_time.new.self in
    let new = c.take_fragment.new.self in
    let r = c.take_fragment.result in
    let packet = captured_of c.args.packet.now in
    let gives = c.in_ok-pass_time.ensures.gives in
    let none = c.in_ok-pass_time.ensures.all in
    let sight : sight_in packet ≡ fragmented (fragment_of c.in-Fragment.fragment) = sym c.look-seen.ensures ∙ ap sight_of c.in-Fragment.is in
    let e = c.take_fragment.ensures in
    let known = known_after (passage_of_passed mid) c.args.at packet.ends_within in
    ok-both r (λ packets (both : (new.clock ≡ mid.clock) × (new.known ≡ known (fragmented (fragment_of c.in-Fragment.fragment)))).
    passage-all old mid c.args.at packet gives.more gives.are_read none new packets both.0 (both.1 ∙ ap known (sym sight)))
    e.packets (ok-both r (λ clock is. (clock, is)) e.clock e.known)

pub returns : goal.returns
returns g c =
    let old = c.args.self.now in
    let mid = the_view c.self.inside in
    let packet = captured_of c.args.packet.now in
    let seen = sight_of c.look-seen.result in
    let gives = subst (λ (v : Passed). Sinks g.S.Sink.has c.args.sink.now c.pass_time.new.sink (GivesUp (ticked old packet) v)) (sym c.self.view_is) c.in_ok-pass_time.ensures.gives in
    let none = subst (λ (v : Passed). is_past v.clock v.known.unfinished ≡ false) (sym c.self.view_is) c.in_ok-pass_time.ensures.all in
    let is = gives.are_read.1 in
    let others = seen-other (passage_of_passed mid) c.args.at packet c.look-seen.result c.in_default.not-Fragment in
    let sights : List Sighting = sighting_as (mid.gathering.report.packets + 1) c.args.at packet seen ∷ [] in
    let are : sights ≡ seen_at (passage_of_passed mid) c.args.at packet (sight_in packet) = sym others.0 ∙ ap (seen_at (passage_of_passed mid) c.args.at packet) c.look-seen.ensures in
    let known : mid.known ≡ known_after (passage_of_passed mid) c.args.at packet.ends_within (sight_in packet) =
    sym others.1 ∙ ap (known_after (passage_of_passed mid) c.args.at packet.ends_within) c.look-seen.ensures in
    let all = sightings_at (passage_of_passed old) c.args.at packet in
    let new = passed_of c.take_seen.new.self c.self.inside.fragments in
    let r = c.take_seen.result in
    let unit : Unit {0} = tt in
    record {
      wanted = c.take_seen.ensures.wanted ∙ is.wanted;
      names = c.take_seen.ensures.names ∙ is.names;
      report = subst (λ (n : ℕ). c.take_seen.new.self.report.packets ≤ n + 1) is.packets c.take_seen.ensures.report;
      ok = ok-both r (λ _ sinks. sinks-both g.S.Sink.has c.args.sink.now c.pass_time.new.sink c.take_seen.new.sink (GivesUp (ticked old packet) mid) _ _
          (λ one two gave goes. more-all old mid c.args.at packet one gave none c.take_seen.new.self all sights two (all-seen old mid c.args.at packet one gave none sights are) goes) gives sinks) (any-ok r unit) c.take_seen.ensures.ok;
      passage = ok-both r (λ _ packets. passage-all old mid c.args.at packet gives.more gives.are_read none new packets refl known) (any-ok r unit) c.take_seen.ensures.packets;
      stopped = IfErr-weaker r (λ (fault : Fault). c.take_seen.new.sink ≡ c.pass_time.new.sink)
          (λ (fault : Fault). Sinks g.S.Sink.has c.args.sink.now c.take_seen.new.sink (GatherSome old.gathering all))
          (λ fault same. rw same (sinks-as g.S.Sink.has c.args.sink.now c.pass_time.new.sink (GivesUp (ticked old packet) mid) (GatherSome old.gathering all) (λ one gave.
          subst (λ (m : List Made). GatherSome old.gathering all m) (append-nil one) (some-all old mid c.args.at packet one gave none all sights [] (all-seen old mid c.args.at packet one gave none sights are) (some-none mid.gathering sights))) gives))
          c.take_seen.ensures.stopped;
      err = IfErr-weaker r _ _ (λ fault told. else-by (λ refuses. refused-all old mid c.args.at packet gives.more gives.are_read none all sights fault (all-seen old mid c.args.at packet gives.more gives.are_read none sights are)
          (refused-one mid.gathering.wanted mid.gathering.senders (mid.gathering.report.packets + 1) c.args.at packet seen fault refuses)) told) c.take_seen.ensures.err;
      memory = IfErr-weaker r _ _ (λ fault needs memory. subst (λ (s : Sight). SightNeedsMemory old.gathering.wanted old.gathering.senders s) c.look-seen.ensures
          (subst (λ (t : Senders). SightNeedsMemory old.gathering.wanted t seen) is.senders (subst (λ (w : Wanted). SightNeedsMemory w mid.gathering.senders seen) is.wanted (needs memory)))) c.take_seen.ensures.memory;
    }
