use Rattle.std.proofs.Common.{◌++◌, ℕ, List, ap, ◌∙◌}
use Rattle.babel_dump.specs.OriginText.{shown_in}
use Rattle.babel_dump.proofs.OriginLines.{lines_next}
use Rattle.babel_dump.proofs.origins_text.shown.Goals as goal

pub loop-one-preserved : goal.loop-one-preserved
loop-one-preserved c =
    let line = shown_in c.args.format.now (c.in-Some.one.now, c.in-Some.sides.now) in
    lines_next (shown_in c.args.format.now) (c.in-Some.one.now, c.in-Some.sides.now) c.loop-one.one-iterator c.next.new.self c.loop-one.text.items c.push_shown.new.buffer.items _
    c.in-Some.ensures.steps c.loop-one.invariant (c.push_shown.ensures ∙ ap (λ (t : List ℕ). t ++ line) c.in_ok-reserve.ensures.items)
