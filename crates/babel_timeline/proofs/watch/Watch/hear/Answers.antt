-- The Hello is kept as a row, and the sender is not silent.
use Rattle.std.proofs.Common.{◌∙◌, ap, subst}
use Rattle.std.specs.BTreeMap.{insert_entry}
use Rattle.babel_tlv.specs.Route.{RouteKey}
use Rattle.babel_timeline.specs.declared.row.Row.{Row}
use Rattle.babel_timeline.specs.Rows.{Held, subject_cmp, subject_of}
use Rattle.babel_timeline.specs.Silence.{TakesHello, Watching}
use Rattle.babel_timeline.proofs.WatchLaws.{hello_kept, takes_hello}
use Rattle.babel_timeline.proofs.watch.Watch.hear.Goals as goal

pub invariant_of-self : goal.invariant_of-self
invariant_of-self g c =
    let row : Row = record { ann = c.unwritten-ann.result.ann; when = c.args.hello } in
    let old : Held g.row.S.Denot = c.self.inside.hellos in
    hello_kept g.S.Ord.cmp g.met.S.Ord.total g.met.S.Sender.exact old c.announce.new.self c.args.sender row c.self.invariant
    (c.in-Ok.ensures.ok ∙ ap (λ (k : RouteKey). record old { rows = insert_entry (subject_cmp g.S.Ord.cmp) old.rows (subject_of c.args.sender k) row }) c.key_of_hellos-key.ensures)

pub returns-in-Ok-clause-taken : goal.returns-in-Ok-clause-taken
returns-in-Ok-clause-taken g c =
    let row : Row = record { ann = c.unwritten-ann.result.ann; when = c.args.hello } in
    let inside : Watching g.row.S.Denot = record { rows = c.self.inside.hellos.rows; silent = c.self.inside.silent } in
    let new : Watching g.row.S.Denot = record { rows = c.announce.new.self.rows; silent = c.remove.new.self } in
    subst (λ (old : Watching g.row.S.Denot). TakesHello g.S.Ord.cmp c.args.sender c.args.hello old new) c.self.view_is
    (takes_hello g.S.Ord.cmp g.met.S.Ord.total g.met.S.Sender.exact inside new c.args.sender row
    (ap (λ (h : Held g.row.S.Denot). h.rows) c.in-Ok.ensures.ok ∙ ap (λ (k : RouteKey). insert_entry (subject_cmp g.S.Ord.cmp) inside.rows (subject_of c.args.sender k) row) c.key_of_hellos-key.ensures)
    c.remove.ensures.updates.0)
