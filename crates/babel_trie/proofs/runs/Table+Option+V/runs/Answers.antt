-- The sorted rows are a table with the same answers.
use Rattle.std.proofs.Common.{◌≡◌, ℕ, ◌+◌, ◌*◌, ◌≤◌, List, length, map, ap, arith, sym, subst}
use Rattle.std.specs.Prelude.{IfOk, IfSome, MatchOption}
use Rattle.std.proofs.lemmas.List.Sorted.{length_permutation}
use Rattle.babel_prefix.specs.Best.{Row, answer}
use Rattle.babel_prefix.specs.BestRow.{IsTable}
use Rattle.babel_prefix.specs.Entries.{Entry, row_of}
use Rattle.babel_prefix.specs.Width.{width_of}
use Rattle.babel_prefix.proofs.EntryLaws.{rows_in-all}
use Rattle.babel_trie.specs.Early.{HasMoreBoxes}
use Rattle.babel_trie.specs.Runs.{HasRuns}
use Rattle.babel_trie.proofs.OfLaws.{table_of_entries, table_of_sorted, answers_of_sorted}
use Rattle.babel_trie.proofs.EarlyRuns.{RunsOrMore-same}
use Rattle.babel_trie.proofs.PartLaws.{if_ok_then}
use Rattle.babel_trie.proofs.runs.Table+Option+V.runs.Goals as goal

pub table_runs-requires-clause-table : goal.table_runs-requires-clause-table
table_runs-requires-clause-table g c =
    let prefixes = c.are_in_order.ensures.prefixes c.if-are_in_order.true in
    subst (λ n. IsTable n (map row_of (g.R.Rows.rows c.args.rows))) (sym c.width.ensures) (table_of_entries c.args.family (g.R.Rows.rows c.args.rows) prefixes c.requires.family c.requires.prefixes)

pub returns-then-are_in_order-clause-runs : goal.returns-then-are_in_order-clause-runs
returns-then-are_in_order-clause-runs g c =
    let rows = g.R.Rows.rows c.args.rows in
    let Known = λ (n : ℕ) (rs : List (Row g.row.V.Denot)). IfOk c.table_runs.result (λ runs. MatchOption runs (HasMoreBoxes c.args.most n (answer n rs))
    (λ list. HasRuns n c.table_runs.new.self.nodes.items list.items (answer n rs))) in
    subst (Known (width_of c.args.family)) (sym (rows_in-all c.args.family rows c.requires.family)) (subst (λ n. Known n (map row_of rows)) c.width.ensures c.table_runs.ensures.runs)

pub table_runs-requires-2-clause-table : goal.table_runs-requires-2-clause-table
table_runs-requires-2-clause-table g c =
    let w = width_of c.args.family in
    let rows = g.R.Rows.rows c.args.rows in
    let table = table_of_entries c.args.family rows c.in_ok-sorted.ensures.prefixes c.requires.family c.requires.prefixes in
    let here = subst (λ (xs : List (Entry g.row.V.Denot)). IsTable w (map row_of xs)) (sym c.as_slice.ensures.value)
    (table_of_sorted w rows c.in_ok-sorted.sorted.items table c.in_ok-sorted.ensures.permutation) in
    subst (λ n. IsTable n (map row_of c.as_slice.result.now)) (sym c.width-2.ensures) here

pub returns-clause-runs : goal.returns-clause-runs
returns-clause-runs g c =
    let w = width_of c.args.family in
    let rows = g.R.Rows.rows c.args.rows in
    let nodes = c.table_runs-2.new.self.nodes.items in
    let Known = λ (n : ℕ) (rs : List (Row g.row.V.Denot)). IfOk c.table_runs-2.result (λ runs. MatchOption runs (HasMoreBoxes c.args.most n (answer n rs))
    (λ list. HasRuns n nodes list.items (answer n rs))) in
    let table = table_of_entries c.args.family rows c.in_ok-sorted.ensures.prefixes c.requires.family c.requires.prefixes in
    let wide = subst (λ n. Known n (map row_of c.as_slice.result.now)) c.width-2.ensures c.table_runs-2.ensures.runs in
    let here = subst (λ (xs : List (Entry g.row.V.Denot)). Known w (map row_of xs)) c.as_slice.ensures.value wide in
    subst (Known w) (sym (rows_in-all c.args.family rows c.requires.family))
    (if_ok_then c.table_runs-2.result here (λ runs. RunsOrMore-same (λ list. list.items) c.args.most w nodes (answer w (map row_of c.in_ok-sorted.sorted.items)) (answer w (map row_of rows)) runs
    (answers_of_sorted w rows c.in_ok-sorted.sorted.items table c.in_ok-sorted.ensures.permutation)))

pub returns-clause-few : goal.returns-clause-few
returns-clause-few g c =
    let rows = g.R.Rows.rows c.args.rows in
    let same : length c.as_slice.result.now ≡ length rows = omega (arith, ap length c.as_slice.ensures.value, length_permutation rows c.in_ok-sorted.sorted.items c.in_ok-sorted.ensures.permutation) in
    subst (λ (n : ℕ). IfOk c.table_runs-2.result (λ runs. IfSome runs (λ list. length list.items ≤ 2 * n + 1))) same c.table_runs-2.ensures.few
