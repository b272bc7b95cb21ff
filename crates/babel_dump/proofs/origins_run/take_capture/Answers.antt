-- The rows of all its senders are taken.
use Rattle.std.proofs.Common.{subst, sym}
use Rattle.std.specs.Prelude.{OnOk}
use Rattle.babel_dump.specs.AskedRun.{AreReadOn}
use Rattle.babel_dump.specs.OriginsMade.{TakesRead}
use Rattle.babel_dump.specs.declared.originated.Originated.{Originated}
use Rattle.babel_dump.proofs.OriginsTold.{on_any, takes_read}
use Rattle.babel_dump.proofs.origins_run.take_capture.Goals as goal

pub returns-clause-taken : goal.returns-clause-taken
returns-clause-taken g c =
    let before = c.args.told.now.originated.all.entries in
    let filter = c.args.origins.now.filter in
    let stream = g.R.Read.remaining c.args.reader in
    subst (λ (o : Originated). OnOk c.note.result (TakesRead filter c.args.side (AreReadOn c.args.each.now stream) before o.all.entries)) (sym c.note.ensures.same)
    (on_any c.note.result (takes_read filter c.args.side c.args.each.now stream c.in_ok-read.field-0 before c.take.new.self.originated.all.entries c.in_ok-read.ensures.made
    c.in_ok-take.ensures.taken))
