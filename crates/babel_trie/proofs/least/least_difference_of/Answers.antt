-- The rows in order are a table with the same answers.
use Rattle.std.proofs.Common.{◌≡◌, ◌^◌, map, sym, subst, rules}
use Rattle.babel_prefix.specs.Address.{Address}
use Rattle.babel_prefix.specs.Best.{answer}
use Rattle.babel_prefix.specs.BestRow.{IsTable}
use Rattle.babel_prefix.specs.Entries.{row_of, answers_in}
use Rattle.babel_prefix.specs.Width.{width_of}
use Rattle.babel_trie.specs.Boxes.{IsLeastDifference}
use Rattle.babel_trie.specs.Differs.{IsFirstPair}
use Rattle.babel_trie.specs.Ordered.{rows_of_ordered}
use Rattle.babel_trie.proofs.ApartLaws.{first-same}
use Rattle.babel_trie.proofs.DifferLaws.{least_from_first}
use Rattle.babel_trie.proofs.OfLaws.{table_of_entries, table_of_sorted, answers_of_entries}
use Rattle.babel_trie.proofs.least.least_difference_of.Goals as goal

pub first_pair-requires-clause-left_table : goal.first_pair-requires-clause-left_table
first_pair-requires-clause-left_table g c =
    let rows = g.L.Rows.rows c.args.left in
    let sorted = rows_of_ordered g.L.Rows.rows c.in_order-rows.result in
    let table = table_of_entries c.args.family rows c.in_ok-copy.ensures.prefixes c.requires.left_family c.requires.left_prefixes in
    subst (λ n. IsTable n (map row_of sorted)) (sym c.width.ensures) (table_of_sorted (width_of c.args.family) rows sorted table c.in_order-rows.ensures.permutation)

pub first_pair-requires-clause-right_table : goal.first_pair-requires-clause-right_table
first_pair-requires-clause-right_table g c =
    let rows = g.R.Rows.rows c.args.right in
    let sorted = rows_of_ordered g.R.Rows.rows c.in_order-other_rows.result in
    let table = table_of_entries c.args.family rows c.in_ok-other_copy.ensures.prefixes c.requires.right_family c.requires.right_prefixes in
    subst (λ n. IsTable n (map row_of sorted)) (sym c.width.ensures) (table_of_sorted (width_of c.args.family) rows sorted table c.in_order-other_rows.ensures.permutation)

pub returns-in_default-clause-least : goal.returns-in_default-clause-least
returns-in_default-clause-least g c d s d_in s_in =
    let V = g.row.V.Denot in
    let family = c.args.family in
    let w = width_of family in
    let left = g.L.Rows.rows c.args.left in
    let right = g.R.Rows.rows c.args.right in
    let rows = rows_of_ordered g.L.Rows.rows c.in_order-rows.result in
    let others = rows_of_ordered g.R.Rows.rows c.in_order-other_rows.result in
    let found = c.in_ok-dst.field-0 in
    let here = subst (λ n. IsFirstPair (2 ^ n) (2 ^ n) (answer n (map row_of rows)) (answer n (map row_of others)) found) c.width.ensures c.in_ok-dst.ensures in
    let first : IsFirstPair (2 ^ w) (2 ^ w) (answers_in family left) (answers_in family right) found =
    first-same w (answer w (map row_of rows)) (answer w (map row_of others)) (answers_in family left) (answers_in family right)
    (answers_of_entries family left rows c.in_ok-copy.ensures.prefixes c.requires.left_family c.requires.left_prefixes c.in_order-rows.ensures.permutation)
    (answers_of_entries family right others c.in_ok-other_copy.ensures.prefixes c.requires.right_family c.requires.right_prefixes c.in_order-other_rows.ensures.permutation) found here in
    let same = subst (IsFirstPair (2 ^ w) (2 ^ w) (answers_in family left) (answers_in family right)) c.in_default.is first in
    same d d_in s s_in

pub returns-clause-least : goal.returns-clause-least
returns-clause-least g c =
    let V = g.row.V.Denot in
    let family = c.args.family in
    let w = width_of family in
    let left = g.L.Rows.rows c.args.left in
    let right = g.R.Rows.rows c.args.right in
    let rows = rows_of_ordered g.L.Rows.rows c.in_order-rows.result in
    let others = rows_of_ordered g.R.Rows.rows c.in_order-other_rows.result in
    let found = c.in_ok-dst.field-0 in
    let here = subst (λ n. IsFirstPair (2 ^ n) (2 ^ n) (answer n (map row_of rows)) (answer n (map row_of others)) found) c.width.ensures c.in_ok-dst.ensures in
    let first : IsFirstPair (2 ^ w) (2 ^ w) (answers_in family left) (answers_in family right) found =
    first-same w (answer w (map row_of rows)) (answer w (map row_of others)) (answers_in family left) (answers_in family right)
    (answers_of_entries family left rows c.in_ok-copy.ensures.prefixes c.requires.left_family c.requires.left_prefixes c.in_order-rows.ensures.permutation)
    (answers_of_entries family right others c.in_ok-other_copy.ensures.prefixes c.requires.right_family c.requires.right_prefixes c.in_order-other_rows.ensures.permutation) found here in
    let at = subst (IsFirstPair (2 ^ w) (2 ^ w) (answers_in family left) (answers_in family right)) c.in-Some.is first in
    let dst : c.unwrap-dst.result ≡ record { family = family; bits = c.in-Some.dst } = search rules in
    let src : c.unwrap-src.result ≡ record { family = family; bits = c.in-Some.src } = search rules in
    let P : Address → Address → Type 0 = λ x y. IsLeastDifference w (answers_in family left) (answers_in family right) x.bits y.bits in
    subst (λ x. P x c.unwrap-src.result) (sym dst)
    (subst (P (record { family = family; bits = c.in-Some.dst })) (sym src)
    (least_from_first w (answers_in family left) (answers_in family right) (c.in-Some.dst, c.in-Some.src) at))
