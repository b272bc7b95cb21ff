use Rattle.std.proofs.Common.{◌≡◌, ◌≤◌, ◌+◌, length, ap, ◌∙◌, arith}
use Rattle.babel_capture.specs.Counts.{Counts}
use Rattle.babel_capture.specs.Pieces.{fragment_of}
use Rattle.babel_capture.proofs.PassingLaws.{known-longer}
use Rattle.babel_capture.proofs.passing.Passing.skip_fragment.Goals as goal

pub invariant_of-self : goal.invariant_of-self
invariant_of-self g c =
    let old = c.self.inside.fragments in
    let number = c.packets-number.result + 1 in
    let fragment = fragment_of c.args.fragment.now in
    let packets : c.packets-number.result ≡ c.self.inside.gathered.report.packets = c.packets-number.ensures ∙ ap (λ (r : Counts). r.packets) c.report.ensures in
    let few : length c.take.new.self.known.unfinished ≤ length old.known.unfinished + 1 = rw c.in-Ok.ensures.known (known-longer old.known number c.args.at old.clock c.args.packet.now.ends_within fragment) in (
      omega (arith, c.take.ensures.last, packets, c.skip.ensures.packets),
      omega (arith, few, c.self.invariant.1, c.skip.ensures.missing, c.skip.ensures.packets),
    )
