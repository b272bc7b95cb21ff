-- The rows of one family stand in order, with whatever packed values.
use Rattle.std.proofs.Common.{◌≡◌, ◌∷◌, suc, Bool, List, [], inl, inr, refl, sym, ap, ◌∙◌, arith}
use Rattle.std.specs.List.{All, AllByRecursion, AllPairs}
use Rattle.std.specs.Ordering.{nat_cmp, ordering_then, ordering_reverse, is_lt}
use Rattle.std.specs.declared.cmp.Ordering.TheVariants.{Less, Greater}
use Rattle.std.proofs.lemmas.List.Elements.{All-filter, All-from_recursion, filter_passes}
use Rattle.std.proofs.lemmas.List.Kept.{AllPairs-filter}
use Rattle.babel_prefix.specs.declared.family.Family.{Family}
use Rattle.babel_prefix.specs.Address.{AddressPrefix, block_of}
use Rattle.babel_prefix.specs.BestRow.{HasPrefixes}
use Rattle.babel_prefix.specs.Entries.{Entry}
use Rattle.babel_prefix.specs.Members.{Listed}
use Rattle.babel_prefix.specs.Order.{prefix_cmp}
use Rattle.babel_prefix.specs.Width.{same_family}
use Rattle.babel_prefix.proofs.EntryLaws.{same_family-is}
use Rattle.babel_prefix.proofs.OrderLaws.{family_equality}
use Rattle.babel_tlv.specs.Keys.{key_cmp}
use Rattle.babel_tlv.specs.Pair.{Pair}
use Rattle.babel_tlv.specs.Pairs.{IsPair}
use Rattle.babel_tlv.proofs.OrderLaws.{key_total}
use Rattle.babel_table.specs.TableRows.{AreRows, family_rows}
use Rattle.babel_table.proofs.EntryLaws.{rising_rows}
use Rattle.babel_trie.specs.Held.{RowOrder}
use Rattle.babel_trie.specs.Rows.{InOrder}
use Rattle.babel_trie.proofs.OrderLaws.{block_cmp, order_from_keys}
use Rattle.babel_canon.specs.declared.values.PackedValue.{PackedValue}
use Rattle.babel_canon.specs.Values.{packed_entries}

-- a lesser key of the same family, of prefixes
record IsBefore (row later : Pair) : Type 0 where
  less : key_cmp row.0 later.0 ≡ Less
  dst : row.0.dst.address.family ≡ later.0.dst.address.family
  src : row.0.src.address.family ≡ later.0.src.address.family

same_order : (p q : AddressPrefix) → p.address.family ≡ q.address.family → prefix_cmp p q ≡ block_cmp (block_of p) (block_of q)
same_order p q same =
    ap (λ o. ordering_then (ordering_then o (nat_cmp p.address.bits q.address.bits)) (nat_cmp p.len q.len)) ((family_equality p.address.family q.address.family).1 same)

stands_before : (row later : Pair) (x y : Entry PackedValue) → IsBefore row later → x.0 ≡ row.0.dst → x.1 ≡ row.0.src → y.0 ≡ later.0.dst → y.1 ≡ later.0.src → RowOrder x y
stands_before row later x y before x_dst x_src y_dst y_src =
    let turned : key_cmp later.0 row.0 ≡ Greater = key_total.antisymm later.0 row.0 ∙ ap ordering_reverse before.less in
    let dst = same_order later.0.dst row.0.dst (sym before.dst) in
    let src = same_order later.0.src row.0.src (sym before.src) in
    let places = ap (λ o. ordering_then o (block_cmp (block_of later.0.src) (block_of row.0.src))) (sym dst) ∙ ap (λ o. ordering_then (prefix_cmp later.0.dst row.0.dst) o) (sym src) ∙ turned in
    order_from_keys x y (rw (x_dst, x_src, y_dst, y_src) (ap is_lt places))

-- each member is of a row
of_row : (P : Pair → Type 0) (rows : List Pair) (values : List PackedValue) (x : Entry PackedValue) → All P rows
    → Listed (packed_entries rows values) x → (row : Pair) × P row × (x.0 ≡ row.0.dst) × (x.1 ≡ row.0.src)
of_row P [] [] x all none = absurd none
of_row P [] (v ∷ values) x all none = absurd none
of_row P (row ∷ rows) [] x all none = absurd none
of_row P (row ∷ rows) (v ∷ values) x all (inl same) = (row, all 0 row (omega arith), ap (λ (e : Entry PackedValue). e.0) (sym same), ap (λ (e : Entry PackedValue). e.1) (sym same))
of_row P (row ∷ rows) (v ∷ values) x all (inr later) = of_row P rows values x (λ k d inside. all (suc k) d (omega arith)) later

in_order : (rows : List Pair) (values : List PackedValue) → AllPairs IsBefore rows → InOrder RowOrder (packed_entries rows values)
in_order [] [] before = tt
in_order [] (v ∷ values) before = tt
in_order (row ∷ rows) [] before = tt
in_order (row ∷ rows) (v ∷ values) before = (
  λ y later.
      let from = of_row (IsBefore row) rows values y (λ k d inside. before 0 (suc k) d (omega arith) (omega arith)) later in
      stands_before row from.0 (row.0.dst, row.0.src, v) y from.1 refl refl from.2 from.3,
  in_order rows values (λ i j d lt inside. before (suc i) (suc j) d (omega arith) (omega arith)),
)

have_prefixes : (rows : List Pair) (values : List PackedValue) → All IsPair rows → AllByRecursion HasPrefixes (packed_entries rows values)
have_prefixes [] [] each = tt
have_prefixes [] (v ∷ values) each = tt
have_prefixes (row ∷ rows) [] each = tt
have_prefixes (row ∷ rows) (v ∷ values) each =
    let pair = each 0 row (omega arith) in
    ((pair.dst, pair.src), have_prefixes rows values (λ k d inside. each (suc k) d (omega arith)))

module _ (family : Family) (rows : List Pair) (values : List PackedValue) (are : AreRows rows) where
  are_pairs : All IsPair (family_rows family rows)
  are_pairs = All-filter (λ row. same_family row.0.dst.address.family family) IsPair rows (All-from_recursion IsPair rows are.each)

  of_family : All (λ (row : Pair). row.0.dst.address.family ≡ family) (family_rows family rows)
  of_family k d inside = same_family-is _ family (filter_passes (λ (row : Pair). same_family row.0.dst.address.family family) rows k d inside)

  before : AllPairs IsBefore (family_rows family rows)
  before i j d lt inside =
      let test : Pair → Bool = λ row. same_family row.0.dst.address.family family in
      let less = AllPairs-filter (λ (row later : Pair). key_cmp row.0 later.0 ≡ Less) test rows (λ k l e below within. rising_rows rows k l e are.rising below within) i j d lt inside in
      let dst = of_family i d (omega arith) ∙ sym (of_family j d inside) in
      let mine = are_pairs i d (omega arith) in
      let theirs = are_pairs j d inside in
      record { less = less; dst = dst; src = sym mine.one_family ∙ dst ∙ theirs.one_family }

  pub packed_in_order : InOrder RowOrder (packed_entries (family_rows family rows) values)
  packed_in_order = in_order (family_rows family rows) values before

  pub packed_prefixes : All HasPrefixes (packed_entries (family_rows family rows) values)
  packed_prefixes = All-from_recursion HasPrefixes (packed_entries (family_rows family rows) values) (have_prefixes (family_rows family rows) values are_pairs)
