-- The changes of the two grids have the answers of their boxes.
use Rattle.std.proofs.Common.{◌≡◌, List, sym, ◌∙◌, ap, subst, Option}
use Rattle.std.specs.Prelude.{MatchOption}
use Rattle.babel_prefix.specs.Best.{Row, answer}
use Rattle.babel_prefix.specs.Width.{width_of}
use Rattle.babel_prefix.specs.declared.family.Family.{Family}
use Rattle.babel_trie.specs.Boxes.{SameAnswers, IsLeastDifference}
use Rattle.babel_trie.specs.Nested.{BoxTable}
use Rattle.babel_trie.specs.Runs.{HasRuns}
use Rattle.babel_trie.specs.Spans.{run_rows}
use Rattle.babel_trie.specs.declared.runs.Change.{Change}
use Rattle.babel_trie.specs.declared.table.Sources.{Sources}
use Rattle.babel_trie.proofs.grid.Grid.first_difference.Goals as goal

pub least_difference-requires-clause-left : goal.least_difference-requires-clause-left
least_difference-requires-clause-left g c =
    let own = c.self.inside in
    let w = width_of own.family in
    let sources = own.sources.nodes.items in
    let f = answer w (run_rows w sources own.runs.items) in
    (f, subst (λ (xs : List (Change (Sources (Option g.row.V.Denot)))). HasRuns w sources xs f) (sym c.deref.ensures.value) c.self.invariant.runs)

pub least_difference-requires-clause-right : goal.least_difference-requires-clause-right
least_difference-requires-clause-right g c =
    let other = c.other.inside in
    let sources = other.sources.nodes.items in
    let family = ap (λ (t : BoxTable g.row.V.Denot). t.family) c.self.view_is in
    let families : other.family ≡ c.self.inside.family = ap (λ (t : BoxTable g.row.V.Denot). t.family) c.other.view_is ∙ sym c.requires.family ∙ sym family in
    let w = width_of c.self.inside.family in
    let f = answer w (run_rows w sources other.runs.items) in
    let here : HasRuns w sources other.runs.items f =
    subst (λ (y : Family). HasRuns (width_of y) sources other.runs.items (answer (width_of y) (run_rows (width_of y) sources other.runs.items)))
    families c.other.invariant.runs in
    (f, subst (λ (xs : List (Change (Sources (Option g.row.V.Denot)))). HasRuns w sources xs f) (sym c.deref-2.ensures.value) here)

pub returns-clause-least : goal.returns-clause-least
returns-clause-least g c =
    let own = c.self.inside in
    let other = c.other.inside in
    let boxes = c.args.self.now.boxes in
    let others = c.args.other.now.boxes in
    let family = ap (λ (t : BoxTable g.row.V.Denot). t.family) c.self.view_is in
    let families : other.family ≡ own.family = ap (λ (t : BoxTable g.row.V.Denot). t.family) c.other.view_is ∙ sym c.requires.family ∙ sym family in
    let w = width_of own.family in
    let sources = own.sources.nodes.items in
    let other_sources = other.sources.nodes.items in
    let left : HasRuns w sources own.runs.items (answer w boxes) =
    subst (λ (rows : List (Row g.row.V.Denot)). HasRuns w sources own.runs.items (answer w rows)) (ap (λ (t : BoxTable g.row.V.Denot). t.boxes) c.self.view_is) c.self.invariant.runs in
    let right_own : HasRuns (width_of other.family) other_sources other.runs.items (answer (width_of other.family) others) =
    subst (λ (rows : List (Row g.row.V.Denot)). HasRuns (width_of other.family) other_sources other.runs.items (answer (width_of other.family) rows))
    (ap (λ (t : BoxTable g.row.V.Denot). t.boxes) c.other.view_is) c.other.invariant.runs in
    let right : HasRuns w other_sources other.runs.items (answer w others) =
    subst (λ (y : Family). HasRuns (width_of y) other_sources other.runs.items (answer (width_of y) others)) families right_own in
    subst (λ (y : Family). MatchOption c.least_difference.result (SameAnswers (width_of y) (answer (width_of y) boxes) (answer (width_of y) others))
    (λ p. IsLeastDifference (width_of y) (answer (width_of y) boxes) (answer (width_of y) others) p.0.bits p.1.bits)) family
    (c.least_difference.ensures.least (answer w boxes) (answer w others)
    (subst (λ (xs : List (Change (Sources (Option g.row.V.Denot)))). HasRuns w sources xs (answer w boxes)) (sym c.deref.ensures.value) left)
    (subst (λ (xs : List (Change (Sources (Option g.row.V.Denot)))). HasRuns w other_sources xs (answer w others)) (sym c.deref-2.ensures.value) right))
