-- The lines of the rows that a filter keeps, one after another.
use Rattle.std.proofs.Common.{◌≡◌, List, [], ◌∷◌, ◌++◌, ap, ◌∙◌}
use Rattle.std.proofs.lemmas.Grind.{flat_map-append}
use Rattle.std.proofs.lemmas.List.Elements.{filter-append}
use Rattle.babel_tlv.specs.Pair.{Pair}
use Rattle.babel_tlv.specs.declared.view.View.{View}
use Rattle.babel_dump.specs.Filter.{is_kept, kept_rows}
use Rattle.babel_dump.specs.InFormat.{line_in, pairs_in}
use Rattle.babel_dump.specs.declared.filter.Filter.{Filter}
use Rattle.babel_dump.specs.declared.format.Format.{Format}

module _ (format : Format) (view : View) (asked : Filter) where
  -- those of two lists of rows
  pub both_kept : (rows more : List Pair)
      → pairs_in format view (kept_rows asked (rows ++ more)) ≡ pairs_in format view (kept_rows asked rows) ++ pairs_in format view (kept_rows asked more)
  both_kept rows more =
      ap (λ (l : List Pair). pairs_in format view l) (filter-append (is_kept asked) rows more) ∙ flat_map-append (line_in format view) (kept_rows asked rows) (kept_rows asked more)

  -- that of the next row comes before those of the rows after it
  pub next_kept : (left rest : List Pair) (row : Pair) → left ≡ row ∷ rest
      → pairs_in format view (kept_rows asked left) ≡ pairs_in format view (kept_rows asked (row ∷ [])) ++ pairs_in format view (kept_rows asked rest)
  next_kept left rest row is = ap (λ (l : List Pair). pairs_in format view (kept_rows asked l)) is ∙ both_kept (row ∷ []) rest
