-- The map has the new entry for its source, and for each other one what it had.
use Rattle.std.proofs.Common.{◌∙◌, List, Option, Some, ap, cond}
use Rattle.std.specs.BTreeMap.{is_at}
use Rattle.babel_selection.specs.declared.distance.Distance.{Distance}
use Rattle.babel_selection.specs.declared.source.Source.{Source}
use Rattle.babel_selection.specs.Distances.{after_update, source_cmp}
use Rattle.babel_selection.specs.Hearing.{entry_at}
use Rattle.babel_selection.proofs.sources.Sources.take.Goals as goal

pub returns : goal.returns
returns c other =
    let source : Source = c.args.source.now in
    c.in_ok-insert.ensures.updates.0 other
    ∙ ap (λ (d : Distance). cond (is_at (source_cmp source) other) (Some d) (entry_at source_cmp c.self.inside.distances.entries other))
    (c.after.ensures ∙ ap (λ (old : Option Distance). after_update c.args.time c.args.ann.now old) c.entry-old.ensures)
    ∙ ap (λ (entries : List (Source × Distance)). cond (is_at (source_cmp source) other)
    (Some (after_update c.args.time c.args.ann.now (entry_at source_cmp c.args.self.now source))) (entry_at source_cmp entries other)) c.self.view_is
