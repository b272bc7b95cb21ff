-- Both lists, in order, have the changes of their difference, whose rows are its boxes.
use Rattle.std.proofs.Common.{map, Option, refl, sym, subst}
use Rattle.std.specs.Option.{option_cmp}
use Rattle.babel_prefix.specs.Best.{answer}
use Rattle.babel_prefix.specs.BestRow.{IsTable}
use Rattle.babel_prefix.specs.Entries.{row_of, answers_in}
use Rattle.babel_prefix.specs.Width.{width_of}
use Rattle.babel_trie.specs.Early.{HasMoreDifferences}
use Rattle.babel_trie.specs.Marks.{option_mark, differing_mark, sources_mark}
use Rattle.babel_trie.specs.Ordered.{rows_of_ordered}
use Rattle.babel_trie.specs.Runs.{HasRuns}
use Rattle.babel_trie.specs.Sound.{IsSound}
use Rattle.babel_trie.specs.Told.{HasDifference}
use Rattle.babel_trie.specs.declared.differing.Differing.{Differing}
use Rattle.babel_trie.specs.declared.table.Table.{Table}
use Rattle.babel_trie.proofs.NodeLaws.{sources_cmp, sound_by}
use Rattle.babel_trie.proofs.OfLaws.{table_of_entries, table_of_sorted, answers_of_entries}
use Rattle.babel_trie.proofs.TellLaws.{differing_cmp}
use Rattle.babel_trie.proofs.ToldRuns.{difference-same}
use Rattle.babel_trie.proofs.every_difference.differences_within.Goals as goal

pub runs-requires-clause-left_table : goal.runs-requires-clause-left_table
runs-requires-clause-left_table g c =
    let rows = g.L.Rows.rows c.args.left in
    let sorted = rows_of_ordered g.L.Rows.rows c.in_order-rows.result in
    let table = table_of_entries c.args.family rows c.in_ok-copy.ensures.prefixes c.requires.left_family c.requires.left_prefixes in
    subst (λ n. IsTable n (map row_of sorted)) (sym c.width.ensures) (table_of_sorted (width_of c.args.family) rows sorted table c.in_order-rows.ensures.permutation)

pub runs-requires-clause-right_table : goal.runs-requires-clause-right_table
runs-requires-clause-right_table g c =
    let rows = g.R.Rows.rows c.args.right in
    let sorted = rows_of_ordered g.R.Rows.rows c.in_order-other_rows.result in
    let table = table_of_entries c.args.family rows c.in_ok-other_copy.ensures.prefixes c.requires.right_family c.requires.right_prefixes in
    subst (λ n. IsTable n (map row_of sorted)) (sym c.width.ensures) (table_of_sorted (width_of c.args.family) rows sorted table c.in_order-other_rows.ensures.permutation)

pub returns-in_default-clause-many : goal.returns-in_default-clause-many
returns-in_default-clause-many g c _ =
    let family = c.args.family in
    let w = width_of family in
    let left = g.L.Rows.rows c.args.left in
    let right = g.R.Rows.rows c.args.right in
    let rows = map row_of (rows_of_ordered g.L.Rows.rows c.in_order-rows.result) in
    let others = map row_of (rows_of_ordered g.R.Rows.rows c.in_order-other_rows.result) in
    let left_same = answers_of_entries family left (rows_of_ordered g.L.Rows.rows c.in_order-rows.result)
    c.in_ok-copy.ensures.prefixes c.requires.left_family c.requires.left_prefixes c.in_order-rows.ensures.permutation in
    let right_same = answers_of_entries family right (rows_of_ordered g.R.Rows.rows c.in_order-other_rows.result)
    c.in_ok-other_copy.ensures.prefixes c.requires.right_family c.requires.right_prefixes c.in_order-other_rows.ensures.permutation in
    let found = rw c.in_default.is at c.in_ok-runs.ensures.difference in
    let more = subst (λ n. HasMoreDifferences c.args.most n (answer n rows) (answer n others)) c.width.ensures found in
    let are = more.1 in (
      more.0,
      record {
        difference = are.difference;
        is_difference = difference-same w (answer w rows) (answer w others) (answers_in family left)
            (answers_in family right) are.difference left_same right_same are.is_difference;
        box_list = are.box_list;
      },
      more.2,
    )

pub of_runs-requires-clause-sound : goal.of_runs-requires-clause-sound
of_runs-requires-clause-sound g c =
    let told : Table (Option (Differing g.row.V.Denot)) = c.runs.new.self.differences in
    let made : Table (Option (Differing g.row.V.Denot)) = c.into_differences.result in
    let sound = sound_by (λ _ _. refl) (λ _ _. refl) (λ _ _. refl) (λ _ _. refl) c.in_ok-runs.ensures.sound in
    sound_by (λ _ _. refl) (λ _ _. refl) (λ _ _. refl) (λ _ _. refl)
    (subst (λ (t : Table (Option (Differing g.row.V.Denot))). IsSound (sources_cmp (option_cmp (differing_cmp g.V.Ord.cmp)))
    (sources_mark (option_mark (differing_mark (option_mark g.V.LawfulOrd.mark)))) t.nodes.items t.numbers) (sym c.into_differences.ensures) sound)

pub of_runs-requires-clause-runs : goal.of_runs-requires-clause-runs
of_runs-requires-clause-runs g c =
    let family = c.args.family in
    let w = width_of family in
    let rows = map row_of (rows_of_ordered g.L.Rows.rows c.in_order-rows.result) in
    let others = map row_of (rows_of_ordered g.R.Rows.rows c.in_order-other_rows.result) in
    let new = c.runs.new.self.differences.nodes.items in
    let found = rw c.in-Some.is at c.in_ok-runs.ensures.difference in
    let has = subst (λ n. HasDifference n (answer n rows) (answer n others) new c.in-Some.runs.items) c.width.ensures found in
    let runs = subst (λ (t : Table (Option (Differing g.row.V.Denot))). HasRuns w t.nodes.items c.in-Some.runs.items has.0) (sym c.into_differences.ensures) has.2 in
    (has.0, runs)

pub returns-clause-boxes : goal.returns-clause-boxes
returns-clause-boxes g c =
    let family = c.args.family in
    let w = width_of family in
    let left = g.L.Rows.rows c.args.left in
    let right = g.R.Rows.rows c.args.right in
    let rows = map row_of (rows_of_ordered g.L.Rows.rows c.in_order-rows.result) in
    let others = map row_of (rows_of_ordered g.R.Rows.rows c.in_order-other_rows.result) in
    let left_same = answers_of_entries family left (rows_of_ordered g.L.Rows.rows c.in_order-rows.result)
    c.in_ok-copy.ensures.prefixes c.requires.left_family c.requires.left_prefixes c.in_order-rows.ensures.permutation in
    let right_same = answers_of_entries family right (rows_of_ordered g.R.Rows.rows c.in_order-other_rows.result)
    c.in_ok-other_copy.ensures.prefixes c.requires.right_family c.requires.right_prefixes c.in_order-other_rows.ensures.permutation in
    let new = c.runs.new.self.differences.nodes.items in
    let found = rw c.in-Some.is at c.in_ok-runs.ensures.difference in
    let has = subst (λ n. HasDifference n (answer n rows) (answer n others) new c.in-Some.runs.items) c.width.ensures found in
    let runs = subst (λ (t : Table (Option (Differing g.row.V.Denot))). HasRuns w t.nodes.items c.in-Some.runs.items has.0) (sym c.into_differences.ensures) has.2 in
    record {
      difference = has.0;
      is_difference = difference-same w (answer w rows) (answer w others) (answers_in family left) (answers_in family right) has.0 left_same right_same has.1;
      box_list = c.in_ok-grid.ensures.boxes has.0 runs;
    }
