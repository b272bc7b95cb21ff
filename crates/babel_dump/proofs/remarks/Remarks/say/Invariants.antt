-- The remarks before this one were said.
use Rattle.std.proofs.Common.{take}
use Rattle.babel_dump.specs.Remarks.{SaysRemarks}
use Rattle.babel_dump.proofs.remarks.Remarks.say.Given as goal

abbrev pub invariant-loop-remark : goal.invariant-loop-remark
invariant-loop-remark g l = SaysRemarks g.S.Says.hears l.gathered l.fn.self.hint l.initial.says (take l.remark-index l.remark-items) l.says
