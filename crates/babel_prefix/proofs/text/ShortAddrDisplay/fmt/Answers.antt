-- The groups around the gap that was found, or the long text.
use Rattle.std.proofs.Common.{arith}
use Rattle.std.proofs.Output.{has_written_of_eq}
use Rattle.babel_prefix.proofs.PieceLaws.{around}
use Rattle.babel_prefix.proofs.text.ShortAddrDisplay.fmt.Goals as goal

pub returns-clause-writes : goal.returns-clause-writes
returns-clause-writes g c = λ plain ok.
    let found = c.in-Some.ensures in
    has_written_of_eq _ _ _ _ _ (around c.args.self.now.0 c.in-Some.gap _ _ c.bits-bits.ensures.value found.value (omega (arith, found.within))) (c.write-2.ensures.writes plain ok)
