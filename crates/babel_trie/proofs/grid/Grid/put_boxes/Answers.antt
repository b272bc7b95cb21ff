-- The rows are those of the changes.
use Rattle.std.proofs.Common.{List, ◌++◌, map, sym, subst, Option}
use Rattle.std.proofs.lemmas.Result.{on_err_weaker, on_ok_weaker}
use Rattle.babel_prefix.specs.Best.{answer}
use Rattle.babel_prefix.specs.Width.{width_of}
use Rattle.babel_prefix.proofs.Members.{Listed}
use Rattle.babel_trie.specs.Nested.{BoxTable, entry_at}
use Rattle.babel_trie.specs.Runs.{AreRuns}
use Rattle.babel_trie.specs.Sinks.{StopsAmong}
use Rattle.babel_trie.specs.Spans.{run_rows}
use Rattle.babel_trie.specs.declared.runs.Change.{Change}
use Rattle.babel_trie.specs.declared.table.Sources.{Sources}
use Rattle.babel_trie.proofs.RunBoxes.{change_trie}
use Rattle.babel_trie.proofs.grid.Grid.put_boxes.Goals as goal

pub push_runs-requires-clause-each : goal.push_runs-requires-clause-each
push_runs-requires-clause-each g c x t =
    let inside = c.self.inside in
    let w = width_of inside.family in
    let sources = inside.sources.nodes.items in
    let list = inside.runs.items in
    change_trie w sources list (answer w (run_rows w sources list)) c.self.invariant.runs x (subst (λ (xs : List (Change (Sources (Option g.row.V.Denot)))). Listed xs x) c.deref.ensures.value t)

pub push_runs-requires-clause-runs : goal.push_runs-requires-clause-runs
push_runs-requires-clause-runs g c = subst AreRuns (sym c.deref.ensures.value) c.self.invariant.runs.runs

pub push_runs-requires-clause-below : goal.push_runs-requires-clause-below
push_runs-requires-clause-below g c x t = c.self.invariant.runs.below x (subst (λ (xs : List (Change (Sources (Option g.row.V.Denot)))). Listed xs x) c.deref.ensures.value t)

pub returns-clause-ok : goal.returns-clause-ok
returns-clause-ok g c = on_ok_weaker c.push_runs.result (λ there start given has.
    let inside = c.self.inside in
    let Has = g.S.Sink.has start c.push_runs.new.out in
    subst (λ (t : BoxTable g.row.V.Denot). Has (given ++ map (entry_at t.family) t.boxes)) c.self.view_is
    (subst (λ (xs : List (Change (Sources (Option g.row.V.Denot)))). Has
    (given ++ map (entry_at inside.family) (run_rows (width_of inside.family) inside.sources.nodes.items xs))) c.deref.ensures.value
    (there start given has))) c.push_runs.ensures.ok

pub returns-clause-err : goal.returns-clause-err
returns-clause-err g c = on_err_weaker c.push_runs.result (λ there start given has.
    let inside = c.self.inside in
    let Stopped = g.S.Sink.stopped start c.push_runs.new.out in
    subst (λ (t : BoxTable g.row.V.Denot). StopsAmong Stopped given (map (entry_at t.family) t.boxes)) c.self.view_is
    (subst (λ (xs : List (Change (Sources (Option g.row.V.Denot)))). StopsAmong Stopped given
    (map (entry_at inside.family) (run_rows (width_of inside.family) inside.sources.nodes.items xs))) c.deref.ensures.value
    (there start given has))) c.push_runs.ensures.err
