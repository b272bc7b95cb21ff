use Rattle.std.proofs.Common.{◌≡◌, [], List, ℕ, true, false, refl, ap, sym, subst, ◌∙◌}
use Rattle.babel_capture.specs.declared.datagram.Datagram.{Datagram}
use Rattle.babel_capture.specs.Counts.{Made}
use Rattle.babel_capture.specs.Gathering.{AreLeft}
use Rattle.babel_capture.specs.Passage.{Sighting, is_lost}
use Rattle.babel_capture.specs.Passing.{GivesUp, Passed}
use Rattle.babel_capture.specs.Sinking.{GatherMore, Sinks}
use Rattle.babel_capture.specs.contracts.passing.Passing.{the_view}
use Rattle.babel_capture.proofs.GatherLaws.{no-more}
use Rattle.babel_capture.proofs.GivingLaws.{gives-none, gives-one, missing-lost, missing-other, passed_of}
use Rattle.babel_capture.proofs.SinkLaws.{sinks-as, sinks-none}
use Rattle.babel_capture.proofs.passing.Passing.give_up_one.Goals as goal
use Rattle.babel_capture.proofs.passing.Passing.give_up_one.Goals.{then-is_lost+in_ok-miss, else-is_lost}

pub returns-in_default-clause-gives : goal.returns-in_default-clause-gives
returns-in_default-clause-gives g c =
    let old = the_view c.self.inside in
    let new = passed_of c.self.inside.gathered c.give_up.new.self in
    let same : passed_of c.self.inside.gathered c.self.inside.fragments ≡ new = ap (passed_of c.self.inside.gathered) (sym c.in_default.ensures.none.1) in
    subst (λ (v : Passed). Sinks g.S.Sink.has c.args.sink.now c.args.sink.now (GivesUp v new)) c.self.view_is
    (sinks-none g.S.Sink.has c.args.sink.now (GivesUp old new) (subst (λ (p : Passed). GivesUp old p []) same (gives-none old)))

pub returns-clause-gives : goal.returns-clause-gives
returns-clause-gives g c =
    let old = the_view c.self.inside in
    let one : ℕ × Datagram = (c.in-Some.number, c.in-Some.datagram) in
    let some = c.in-Some.ensures.some in
    elim c.if-is_lost.branch [
      | then-is_lost+in_ok-miss w ↦
          let new = passed_of w.miss.new.self c.give_up.new.self in
          let is : is_lost one.1 ≡ true = sym c.is_lost.ensures ∙ w.if-is_lost.true in
          let are_left = subst (AreLeft old.gathering.wanted) (sym (missing-lost one is)) (w.in_ok-miss.ensures.taken, tt) in
          rw (w.sink-is, w.self-is) (subst (λ (v : Passed). Sinks g.S.Sink.has c.args.sink.now w.miss.new.sink (GivesUp v new)) c.self.view_is
          (sinks-as g.S.Sink.has c.args.sink.now w.miss.new.sink _ (GivesUp old new) (λ more goes. gives-one old new one more some.0 some.1 some.2 some.4 w.miss.ensures.packets w.miss.ensures.senders w.miss.ensures.names
          w.miss.ensures.wanted are_left (subst (λ (s : List Sighting). GatherMore old.gathering new.gathering s more) (sym (missing-lost one is)) goes))
          w.in_ok-miss.ensures.ok))
      | else-is_lost w ↦
          let new = passed_of c.self.inside.gathered c.give_up.new.self in
          let is : is_lost one.1 ≡ false = sym c.is_lost.ensures ∙ w.if-is_lost.false in
          let are_left = subst (AreLeft old.gathering.wanted) (sym (missing-other one is)) tt in
          let none : List Made = [] in
          rw (w.sink-is, w.self-is) (subst (λ (v : Passed). Sinks g.S.Sink.has c.args.sink.now c.args.sink.now (GivesUp v new)) c.self.view_is
          (sinks-none g.S.Sink.has c.args.sink.now (GivesUp old new) (gives-one old new one none some.0 some.1 some.2 some.4 refl refl refl refl are_left
          (subst (λ (s : List Sighting). GatherMore old.gathering new.gathering s none) (sym (missing-other one is)) (no-more old.gathering new.gathering refl refl refl)))))
    ]
