-- The clock moves, and what is old then is given up.
use Rattle.std.proofs.Common.{◌≡◌, ℕ, Option, false, ap, subst, ◌∙◌}
use Rattle.std.specs.Prelude.{OnOk, IfErr}
use Rattle.babel_capture.specs.Contents.{captured_of}
use Rattle.babel_capture.specs.Fragments.{Reassembly, clock_at, is_past}
use Rattle.babel_capture.specs.Gathering.{IsRefused}
use Rattle.babel_capture.specs.Passage.{given_up, left_known, missing_in}
use Rattle.babel_capture.specs.Passing.{GivesUp, Passed, ticked}
use Rattle.babel_capture.specs.Sinking.{GatherSome, Sinks}
use Rattle.babel_capture.proofs.GivingLaws.{passed_of}
use Rattle.babel_capture.proofs.SinkLaws.{any-ok, ok-both}
use Rattle.babel_capture.proofs.passing.Passing.pass_time.Goals as goal

-- others are given up
abbrev left_of : Reassembly → Reassembly
left_of before = record before { known = record before.known { others = left_known before.clock before.known.others } }

few-still : (old new : Passed) → new.clock ≡ old.clock → new.known.others ≡ old.known.others → is_past old.clock old.known.others ≡ false → is_past new.clock new.known.others ≡ false
few-still old new clock others few = ap (λ (n : ℕ). is_past n new.known.others) clock ∙ ap (is_past old.clock) others ∙ few

pub returns : goal.returns
returns g c =
    let inside = c.self.inside in
    let packet = captured_of c.args.packet.now in
    let moved : passed_of inside.gathered c.forget_others.new.self ≡ ticked c.args.self.now packet = ap (passed_of inside.gathered) (c.forget_others.ensures.after ∙ ap left_of c.tick.ensures)
    ∙ ap (λ (t : Option ℕ). passed_of inside.gathered (left_of (record inside.fragments { clock = clock_at inside.fragments.clock t }))) c.requires.time ∙ ap (λ (v : Passed). ticked v packet) c.self.view_is in
    let e = c.give_up.ensures in
    let unit : Unit {0} = tt in
    record {
      wanted = e.wanted ∙ ap (λ (v : Passed). v.gathering.wanted) moved;
      names = e.names ∙ ap (λ (v : Passed). v.gathering.names) moved;
      packets = e.packets ∙ ap (λ (v : Passed). v.gathering.report.packets) moved;
      gives = subst (λ (v : Passed). OnOk c.give_up.result (Sinks g.S.Sink.has c.args.sink.now c.give_up.new.sink (GivesUp v c.give_up.new.self))) moved e.gives;
      all = e.all;
      few = ok-both c.give_up.result (λ _ gives. few-still (passed_of inside.gathered c.forget_others.new.self) c.give_up.new.self gives.are_read.1.clock gives.are_read.1.others c.forget_others.ensures.few) (any-ok c.give_up.result unit) e.gives;
      stopped = subst (λ (v : Passed). IfErr c.give_up.result (λ _. Sinks g.S.Sink.has c.args.sink.now c.give_up.new.sink (GatherSome v.gathering (missing_in (given_up v.clock v.known.unfinished))))) moved e.stopped;
      err = subst (λ (v : Passed). IfErr c.give_up.result (λ fault. IsRefused v.gathering.wanted v.gathering.senders (missing_in (given_up v.clock v.known.unfinished)) fault)) moved e.err;
      memory = e.memory;
    }
