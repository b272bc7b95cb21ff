use Rattle.babel_dump.proofs.SliceLaws.{not_flushed}
use Rattle.babel_dump.proofs.write.write_text.Goals as goal

pub returns-in-Err : goal.returns-in-Err
returns-in-Err g c = not_flushed _ _ _ _ _ c.in_ok-write_all.ensures c.in-Err.ensures.octets c.in-Err.ensures.counts_failure c.in-Err.ensures.counts_flush
