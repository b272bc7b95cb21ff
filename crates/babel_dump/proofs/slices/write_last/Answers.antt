use Rattle.std.proofs.Common.{[]}
use Rattle.babel_dump.proofs.SliceLaws.{wrote_last}
use Rattle.babel_dump.proofs.slices.write_last.Goals as goal

pub returns : goal.returns
returns g c =
    wrote_last _ _ _ _ [] _ c.write_text-2.result (rw c.deref-2.ensures.value at c.in_ok-write_all.ensures) c.write_text-2.ensures
