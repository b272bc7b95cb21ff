use Rattle.std.proofs.Common.{take}
use Rattle.babel_canon.specs.Writing.{IsTextOf}
use Rattle.babel_canon.proofs.packing.write_text.Given as goal

abbrev pub invariant-loop-key : goal.invariant-loop-key
invariant-loop-key l = IsTextOf l.fn.body l.text (take l.key-index l.pairs)
