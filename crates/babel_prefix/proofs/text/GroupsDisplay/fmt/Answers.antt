-- Each turn writes a group, and `:` unless it is the last.
use Rattle.std.proofs.Common.{◌++◌, ◌-◌, false, arith, inl, inr, rules}
use Rattle.std.specs.Fmt.{digits}
use Rattle.std.proofs.Output.{has_written_append}
use Rattle.babel_prefix.proofs.PieceLaws.{IsMark, one_more}
use Rattle.babel_prefix.proofs.text.GroupsDisplay.fmt.Goals as goal
use Rattle.babel_prefix.proofs.text.GroupsDisplay.fmt.Goals.{then-place-last, else-place-last}

pub loop-place-preserved : goal.loop-place-preserved
loop-place-preserved g c = λ plain.
    let h = c.loop-place.invariant plain in
    let place = c.loop-place.place in
    let last = c.args.self.now.below - c.args.self.now.count in
    let mark : IsMark (place - 1 - last) c.if-place-last.mark.now = elim c.if-place-last.branch [
      | then-place-last w ↦ inr (omega arith, search rules)
      | else-place-last w ↦ inl (omega arith, search rules)
    ] in (
      h.0 ++ (digits 16 false c.group.result ++ c.if-place-last.mark.now),
      has_written_append _ _ _ _ _ _ h.1 (search rules),
      one_more place (place - 1) (place - last) (place - 1 - last) c.args.self.now.bits c.group.result c.if-place-last.mark.now h.0 _
          (omega arith) (omega arith) (omega arith) mark c.group.ensures h.2,
    )
