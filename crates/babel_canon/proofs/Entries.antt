-- The rows of one family as entries.
use Rattle.std.proofs.Common.{◌≡◌, Bool, true, cond, List, [], ◌∷◌, ◌++◌, sym, ap, ◌∙◌}
use Rattle.std.specs.List.{filter}
use Rattle.std.proofs.lemmas.Bool.{and_from}
use Rattle.std.proofs.lemmas.List.{map-append}
use Rattle.std.proofs.lemmas.List.Elements.{filter-append}
use Rattle.std.proofs.lemmas.List.Kept.{AllPairs-filter}
use Rattle.babel_prefix.specs.declared.family.Family.{Family}
use Rattle.babel_prefix.specs.Width.{same_family}
use Rattle.babel_prefix.specs.Entries.{Entry, are_of_family}
use Rattle.babel_prefix.specs.BestRow.{HasDistinctPrefixes}
use Rattle.babel_prefix.proofs.EntryLaws.{same_family-refl}
use Rattle.babel_tlv.specs.declared.held.Held.{Held}
use Rattle.babel_tlv.specs.Pair.{Pair}
use Rattle.babel_table.specs.Rows.{IsRising, entries_of}
use Rattle.babel_table.proofs.EntryLaws.{distinct-from_rising}
use Rattle.babel_canon.proofs.Boxes.{entry_of}

one_more : (family : Family) (rows : List Pair) (row : Pair)
    → filter (are_of_family family) (entries_of (rows ++ row ∷ [])) ≡ filter (are_of_family family) (entries_of rows) ++ cond (are_of_family family (entry_of row)) (entry_of row ∷ []) []
one_more family rows row =
    ap (filter (are_of_family family)) (map-append entry_of rows (row ∷ []))
    ∙ filter-append (are_of_family family) (entries_of rows) (entry_of row ∷ [])

pub kept : (family : Family) (rows : List Pair) (row : Pair) → row.0.dst.address.family ≡ family → row.0.src.address.family ≡ family
    → filter (are_of_family family) (entries_of (rows ++ row ∷ [])) ≡ filter (are_of_family family) (entries_of rows) ++ entry_of row ∷ []
kept family rows row here there =
    let passes : are_of_family family (entry_of row) ≡ true =
    and_from _ _ (ap (same_family row.0.dst.address.family) (sym here) ∙ same_family-refl row.0.dst.address.family)
    (ap (same_family row.0.src.address.family) (sym there) ∙ same_family-refl row.0.src.address.family) in
    one_more family rows row ∙ ap (λ (b : Bool). filter (are_of_family family) (entries_of rows) ++ cond b (entry_of row ∷ []) []) passes

pub distinct_entries : (family : Family) (rows : List Pair) → IsRising rows → HasDistinctPrefixes (filter (are_of_family family) (entries_of rows))
distinct_entries family rows rising =
    AllPairs-filter (λ (entry later : Entry Held). entry.0 ≡ later.0 → entry.1 ≡ later.1 → ⊥) (are_of_family family) (entries_of rows) (distinct-from_rising rows rising)
