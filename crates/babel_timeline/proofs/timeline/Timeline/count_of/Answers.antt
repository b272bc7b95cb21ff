-- Each entry has a row.
use Rattle.std.proofs.Common.{◌∙◌, ap, sym}
use Rattle.babel_timeline.specs.declared.entry.Entry.{Entry}
use Rattle.babel_timeline.specs.Rows.{Held}
use Rattle.babel_timeline.specs.Silence.{row_count}
use Rattle.babel_timeline.proofs.CountLaws.{count-map}
use Rattle.babel_timeline.proofs.timeline.Timeline.count_of.Goals as goal

pub returns : goal.returns
returns g c =
    c.count_from.ensures ∙ sym (count-map g.S.Ord.cmp (λ (e : Entry). e.row) c.args.sender c.self.inside.cells)
    ∙ ap (λ (h : Held g.row.S.Denot). row_count g.S.Ord.cmp c.args.sender h.rows) c.self.view_is
