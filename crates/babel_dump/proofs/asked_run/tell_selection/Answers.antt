use Rattle.std.proofs.Common.{refl}
use Rattle.babel_dump.proofs.SelectTold.{wrote_selection}
use Rattle.babel_dump.proofs.asked_run.tell_selection.Goals as goal

pub returns-clause-done : goal.returns-clause-done
returns-clause-done g c =
    wrote_selection c.args.select.now (g.R.Read.remaining c.args.reader) _ _ _ _ c.in_ok-read.read _ _ _ _ c.new.ensures refl c.in_ok-read.ensures.gave c.in_ok-lines.ensures.told
    c.deref.ensures.value c.in_ok-write_text.ensures.whole c.in_ok-done-2.ensures
