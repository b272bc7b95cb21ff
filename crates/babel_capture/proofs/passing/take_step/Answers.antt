use Rattle.std.proofs.Common.{◌≡◌, ◌∷◌, [], ◌+◌, ℕ, Option, Some, None, ap, sym, subst, ◌∙◌}
use Rattle.std.specs.Option.{option_map}
use Rattle.babel_capture.specs.declared.datagram.Datagram.{Datagram}
use Rattle.babel_capture.specs.declared.datagram.Step.{Step}
use Rattle.babel_capture.specs.declared.datagram.Step.TheVariants as steps
use Rattle.babel_capture.specs.Contents.{captured_of}
use Rattle.babel_capture.specs.Fragments.{of_id}
use Rattle.babel_capture.specs.Gathering.{Gathering}
use Rattle.babel_capture.specs.Passage.{missing_at, missing_of, sight_at, sighting_as}
use Rattle.babel_capture.specs.Sight.{other}
use Rattle.babel_capture.specs.Sinking.{GatherMore, Sinks}
use Rattle.babel_capture.proofs.GatherLaws.{gather-both}
use Rattle.babel_capture.proofs.PassingLaws.{step-none, step-other}
use Rattle.babel_capture.proofs.SinkLaws.{sinks-both}
use Rattle.babel_capture.proofs.passing.take_step.Goals as goal
use Rattle.babel_capture.proofs.passing.take_step.Goals.{in-Some+in-Overlaps+in_ok-miss-in-Overlaps, in-Some+in_default-step, in_default}

pub returns-clause-ok : goal.returns-clause-ok
returns-clause-ok g c =
    let step = c.args.step in
    let found : Option (ℕ × Datagram) = of_id c.args.id.now c.args.fragments.now.known.others in
    let packet = captured_of c.args.packet.now in
    let now = c.args.gathered.now in
    let after = c.pass.new.self in
    let has = g.S.Sink.has in
    let passed = c.pass.ensures.passed c.args.at in
    elim c.match-find_settled.branch [
      | in-Some+in-Overlaps+in_ok-miss-in-Overlaps w ↦
          let one : ℕ × Datagram = (w.in-Some.number, w.in-Some.datagram.now) in
          let is : found ≡ Some one = sym c.find_settled.ensures ∙ ap (option_map (λ one. (one.0, one.1.now))) w.in-Some.is in
          let missing : missing_at step found ≡ missing_of one ∷ [] = ap (λ (s : Step). missing_at s found) w.in-Overlaps.is ∙ ap (missing_at steps.Overlaps) is in
          let sight : sight_at step found ≡ other = ap (λ (s : Step). sight_at s found) w.in-Overlaps.is in
          let between = w.miss.new.self in
          let on : Sinks has w.miss.new.sink c.pass.new.sink (GatherMore between after (sighting_as (now.report.packets + 1) c.args.at packet other ∷ [])) =
          subst (λ (n : ℕ). Sinks has w.miss.new.sink c.pass.new.sink (GatherMore between after (sighting_as (n + 1) c.args.at packet other ∷ []))) w.miss.ensures.packets
          (subst (λ (v : Gathering). Sinks has w.miss.new.sink c.pass.new.sink (GatherMore v after (sighting_as (v.report.packets + 1) c.args.at packet other ∷ []))) w.gathered-is
          (subst (λ s. Sinks has s c.pass.new.sink (GatherMore c.match-find_settled.gathered after (sighting_as (c.match-find_settled.gathered.report.packets + 1) c.args.at packet other ∷ []))) w.sink-is passed)) in
          rw (missing, sight)
          (sinks-both has c.args.sink.now w.miss.new.sink c.pass.new.sink (GatherMore now between (missing_of one ∷ []))
          (GatherMore between after (sighting_as (now.report.packets + 1) c.args.at packet other ∷ [])) _
          (λ first second goes goes_on. gather-both now between after (missing_of one ∷ []) (sighting_as (now.report.packets + 1) c.args.at packet other ∷ []) first second goes goes_on)
          w.in_ok-miss-in-Overlaps.ensures.ok on)
      | in-Some+in_default-step w ↦
          let seen = step-other step found w.in_default-step.not-Completes w.in_default-step.not-Overlaps in
          rw (seen.0, seen.1)
          (subst (λ (v : Gathering). Sinks has c.args.sink.now c.pass.new.sink (GatherMore v after (sighting_as (v.report.packets + 1) c.args.at packet other ∷ []))) w.gathered-is
          (subst (λ s. Sinks has s c.pass.new.sink (GatherMore c.match-find_settled.gathered after (sighting_as (c.match-find_settled.gathered.report.packets + 1) c.args.at packet other ∷ []))) w.sink-is passed))
      | in_default w ↦
          let none : found ≡ None = sym c.find_settled.ensures ∙ ap (option_map (λ one. (one.0, one.1.now))) w.in_default.is in
          let seen = step-none step found none in
          rw (seen.0, seen.1)
          (subst (λ (v : Gathering). Sinks has c.args.sink.now c.pass.new.sink (GatherMore v after (sighting_as (v.report.packets + 1) c.args.at packet other ∷ []))) w.gathered-is
          (subst (λ s. Sinks has s c.pass.new.sink (GatherMore c.match-find_settled.gathered after (sighting_as (c.match-find_settled.gathered.report.packets + 1) c.args.at packet other ∷ []))) w.sink-is passed))
    ]
