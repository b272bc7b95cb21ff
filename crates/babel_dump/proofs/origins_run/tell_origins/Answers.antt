use Rattle.std.proofs.Common.{◌∷◌, map}
use Rattle.babel_dump.proofs.OriginsTold.{wrote_origins}
use Rattle.babel_dump.proofs.origins_run.tell_origins.Goals as goal

pub returns-clause-done : goal.returns-clause-done
returns-clause-done g c =
    wrote_origins c.args.origins.now (g.R.Read.remaining c.args.inputs.now.first ∷ map g.R.Read.remaining c.args.inputs.now.more.items)
    (g.R.Read.remaining c.args.others.now.first ∷ map g.R.Read.remaining c.args.others.now.more.items) _ _ _ _ _ _ _ _ c.new-told.ensures c.in_ok-take_on.ensures.taken
    c.in_ok-take_on-2.ensures.taken c.in_ok-lines.ensures.lines c.in_ok-lines.ensures.status c.deref.ensures.value c.in_ok-write_text.ensures.whole c.of_origins-done.ensures
