-- The others of rows in order are in order.
use Rattle.std.proofs.Common.{◌≡◌, ◌∷◌, suc, List, ap, ◌∙◌, subst, arith, rules}
use Rattle.std.specs.List.{All}
use Rattle.babel_prefix.specs.BestRow.{HasPrefixes}
use Rattle.babel_prefix.specs.Entries.{Entry}
use Rattle.babel_tlv.specs.Pair.{Pair}
use Rattle.babel_table.specs.Left.{rows_left}
use Rattle.babel_trie.specs.Held.{RowOrder}
use Rattle.babel_trie.specs.Rows.{InOrder}
use Rattle.babel_canon.specs.declared.values.PackedValue.{PackedValue}
use Rattle.babel_canon.specs.Values.{packed_entries}
use Rattle.babel_canon.proofs.grids.PackedRowsRowsPackedValue.split.Goals as goal

pub invariant_of-result : goal.invariant_of-result
invariant_of-result c =
    let old : List Pair = rows_left c.args.self.rows in
    let new : List Pair = rows_left c.next_key.new.self in
    let others = c.in_ok-value.values.now in
    let row = c.in_ok-key.ensures in
    let values : c.args.self.values.now ≡ c.in_ok-value.value.now ∷ others = search rules in
    let whole = ap (λ (rs : List Pair). packed_entries rs c.args.self.values.now) row.1 ∙ ap (λ (vs : List PackedValue). packed_entries ((c.in_ok-key.key, row.0) ∷ new) vs) values in
    let prefixes = subst (λ (es : List (Entry PackedValue)). All HasPrefixes es) whole c.args.self.prefixes in
    record {
      in_order = (subst (λ (es : List (Entry PackedValue)). InOrder RowOrder es) whole c.args.self.in_order).1;
      prefixes = λ k d inside. prefixes (suc k) d (omega arith);
    }
