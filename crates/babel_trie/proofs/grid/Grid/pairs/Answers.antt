-- The rows are the boxes, with their blocks as prefixes.
use Rattle.std.proofs.Common.{[], get_or, map, refl, sym, ◌∙◌, ap, subst}
use Rattle.std.specs.List.{All}
use Rattle.std.proofs.lemmas.List.Elements.{All-map}
use Rattle.babel_prefix.specs.Best.{answer}
use Rattle.babel_prefix.specs.BestRow.{AreOfFamily, HasPrefixes}
use Rattle.babel_prefix.specs.Entries.{row_of}
use Rattle.babel_prefix.specs.Width.{width_of}
use Rattle.babel_prefix.proofs.Members.{Listed-get_or}
use Rattle.babel_trie.specs.Nested.{BoxTable, entry_at}
use Rattle.babel_trie.specs.Spans.{run_rows}
use Rattle.babel_trie.proofs.PutLaws.{rows_back}
use Rattle.babel_trie.proofs.RunBoxes.{rows_prefixes}
use Rattle.babel_trie.proofs.grid.Grid.pairs.Goals as goal

pub returns-clause-family : goal.returns-clause-family
returns-clause-family g c =
    let t = c.args.self.now in
    subst (All (AreOfFamily t.family)) (sym (c.in_ok-put_boxes.ensures.ok c.in_ok-pairs.pairs [] c.in_ok-pairs.ensures.items))
    (All-map (AreOfFamily t.family) (entry_at t.family) t.boxes (λ k d k_in. (refl, refl)))

pub returns-clause-prefixes : goal.returns-clause-prefixes
returns-clause-prefixes g c =
    let inside = c.self.inside in
    let w = width_of inside.family in
    let rows = run_rows w inside.sources.nodes.items inside.runs.items in
    subst (All HasPrefixes) (ap (λ (t : BoxTable g.row.V.Denot). map (entry_at t.family) t.boxes) c.self.view_is
    ∙ sym (c.in_ok-put_boxes.ensures.ok c.in_ok-pairs.pairs [] c.in_ok-pairs.ensures.items))
    (All-map HasPrefixes (entry_at inside.family) rows
    (λ k d k_in. rows_prefixes w inside.sources.nodes.items inside.runs.items (answer w rows) c.self.invariant.runs (get_or rows k d) (Listed-get_or rows k d k_in)))

pub returns-clause-boxes : goal.returns-clause-boxes
returns-clause-boxes g c =
    let t = c.args.self.now in
    ap (map row_of) (c.in_ok-put_boxes.ensures.ok c.in_ok-pairs.pairs [] c.in_ok-pairs.ensures.items) ∙ rows_back t.family t.boxes
