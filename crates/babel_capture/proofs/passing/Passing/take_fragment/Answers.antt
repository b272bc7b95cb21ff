use Rattle.std.proofs.Common.{◌≡◌, ◌≤◌, ◌+◌, length, ap, ◌∙◌, arith}
use Rattle.babel_capture.specs.Counts.{Counts}
use Rattle.babel_capture.specs.Fragments.{of_id}
use Rattle.babel_capture.specs.Passage.{missing_at}
use Rattle.babel_capture.specs.Pieces.{fragment_of}
use Rattle.babel_capture.proofs.PassingLaws.{known-length}
use Rattle.babel_capture.proofs.passing.Passing.take_fragment.Goals as goal

pub invariant_of-self-in_default : goal.invariant_of-self-in_default
invariant_of-self-in_default g c =
    let old = c.self.inside.fragments in
    let number = c.packets-number.result + 1 in
    let packets : c.packets-number.result ≡ c.self.inside.gathered.report.packets = c.packets-number.ensures ∙ ap (λ (r : Counts). r.packets) c.report.ensures in
    let few : length (missing_at c.in-Ok.step (of_id c.args.fragment.now.id c.take.new.self.known.others)) + length c.take.new.self.known.unfinished ≤ length old.known.unfinished + 1 =
    rw (c.in-Ok.ensures.step, c.in-Ok.ensures.known) (known-length _ old.known number c.args.at old.clock c.args.packet.now.ends_within (fragment_of c.args.fragment.now)) in (
      omega (arith, c.take.ensures.last, packets, c.in_default.ensures.packets),
      omega (arith, few, c.self.invariant.1, c.in_default.ensures.missing, c.in_default.ensures.packets),
    )
