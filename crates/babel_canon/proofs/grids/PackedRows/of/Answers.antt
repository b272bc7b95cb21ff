-- The rows of a family of a table are in order.
use Rattle.std.proofs.Common.{List, ap, subst, sym}
use Rattle.std.specs.List.{All}
use Rattle.babel_prefix.specs.BestRow.{HasPrefixes}
use Rattle.babel_prefix.specs.Entries.{Entry}
use Rattle.babel_tlv.specs.Pair.{Pair}
use Rattle.babel_trie.specs.Held.{RowOrder}
use Rattle.babel_trie.specs.Rows.{InOrder}
use Rattle.babel_canon.specs.declared.values.PackedValue.{PackedValue}
use Rattle.babel_canon.specs.Values.{packed_entries}
use Rattle.babel_canon.proofs.PackedOrder.{packed_in_order, packed_prefixes}
use Rattle.babel_canon.proofs.grids.PackedRows.of.Goals as goal

pub invariant_of-result : goal.invariant_of-result
invariant_of-result c =
    let rows = c.args.table.now.rows in
    let values = c.args.values.now in
    let same = ap (λ (rs : List Pair). packed_entries rs values) (sym c.rows_of.ensures.value) in
    record {
      in_order = subst (λ (es : List (Entry PackedValue)). InOrder RowOrder es) same (packed_in_order c.args.family rows values c.rows_of.ensures.valid);
      prefixes = subst (λ (es : List (Entry PackedValue)). All HasPrefixes es) same (packed_prefixes c.args.family rows values c.rows_of.ensures.valid);
    }
