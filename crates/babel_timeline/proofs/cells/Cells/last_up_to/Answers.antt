-- The same subjects have a place and an entry.
use Rattle.std.proofs.lemmas.Option.{IfSome_then}
use Rattle.babel_timeline.proofs.PlaceLaws.{absent, had, has, if_none}
use Rattle.babel_timeline.proofs.cells.Cells.last_up_to.Goals as goal

pub returns-clause-none : goal.returns-clause-none
returns-clause-none g c =
    if_none c.last_up_to.result
    (λ none other le. absent g.met.S.Ord.total g.met.S.Sender.exact c.self.invariant c.self.view_is other (none other le)) c.last_up_to.ensures.none

pub returns-clause-some : goal.returns-clause-some
returns-clause-some g c =
    IfSome_then c.last_up_to.result c.last_up_to.ensures.some
    (λ subject is. (is.0, has g.met.S.Ord.total g.met.S.Sender.exact c.self.invariant c.self.view_is subject is.1))

pub returns-clause-greatest : goal.returns-clause-greatest
returns-clause-greatest g c =
    IfSome_then c.last_up_to.result c.last_up_to.ensures.greatest
    (λ subject is other le there. is other le (had g.met.S.Ord.total g.met.S.Sender.exact c.self.invariant c.self.view_is other there))
