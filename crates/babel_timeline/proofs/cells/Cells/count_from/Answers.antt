-- Each place is that of an entry.
use Rattle.std.proofs.Common.{◌∙◌, ap, sym}
use Rattle.babel_timeline.specs.Places.{Entries, entry_at}
use Rattle.babel_timeline.specs.Silence.{row_count}
use Rattle.babel_timeline.proofs.CountLaws.{count-map}
use Rattle.babel_timeline.proofs.cells.Cells.count_from.Goals as goal

pub returns : goal.returns
returns g c =
    c.count_from.ensures ∙ sym (count-map g.S.Ord.cmp (entry_at c.self.inside.cells.items) c.args.from.sender c.self.inside.places.entries)
    ∙ ap (λ (entries : Entries g.row.S.Denot). row_count g.S.Ord.cmp c.args.from.sender entries) c.self.view_is
