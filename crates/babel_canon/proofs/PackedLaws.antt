-- The rows of one family with their packed values.
use Rattle.std.proofs.Common.{◌≡◌, ◌<◌, ◌++◌, ◌∷◌, ◌&&◌, Bool, true, false, cond, List, [], length, get_or, refl, sym, ap, ◌∙◌, subst, arith}
use Rattle.std.specs.List.{filter}
use Rattle.std.proofs.Math.Seq.{get_or-append_seam}
use Rattle.std.proofs.lemmas.List.{length-append}
use Rattle.std.proofs.lemmas.List.Elements.{filter_passes}
use Rattle.babel_prefix.specs.declared.family.Family.{Family}
use Rattle.babel_prefix.specs.Width.{same_family}
use Rattle.babel_prefix.specs.Entries.{Entry, are_of_family}
use Rattle.babel_prefix.proofs.EntryLaws.{same_family-is}
use Rattle.babel_tlv.specs.declared.held.Held.{Held}
use Rattle.babel_tlv.specs.Pair.{Pair}
use Rattle.babel_table.specs.Rows.{entries_of}
use Rattle.babel_table.specs.TableRows.{family_rows}
use Rattle.babel_canon.specs.declared.values.PackedValue.{PackedValue}
use Rattle.babel_canon.specs.Values.{AreNumberedEntries, packed_entries}
use Rattle.babel_canon.proofs.Boxes.{entry_of}

-- one row and one value more
pub packed_more : (rows : List Pair) (values : List PackedValue) (row : Pair) (value : PackedValue) → length values ≡ length rows
    → packed_entries (rows ++ row ∷ []) (values ++ value ∷ []) ≡ packed_entries rows values ++ (row.0.dst, row.0.src, value) ∷ []
packed_more [] [] row value same = refl
packed_more [] (v ∷ values) row value same = absurd (omega (arith, same))
packed_more (r ∷ rows) [] row value same = absurd (omega (arith, same))
packed_more (r ∷ rows) (v ∷ values) row value same =
    let here : Entry PackedValue = (r.0.dst, r.0.src, v) in
    ap (λ (es : List (Entry PackedValue)). here ∷ es) (packed_more rows values row value (omega (arith, same)))

-- a row that comes next among those of a family is of the family
pub next_of_family : (family : Family) (all so_far rest : List Pair) (row : Pair) → so_far ++ row ∷ rest ≡ family_rows family all → row.0.dst.address.family ≡ family
next_of_family family all so_far rest row whole =
    let test : Pair → Bool = λ r. same_family r.0.dst.address.family family in
    let i = length so_far in
    let inside : i < length (family_rows family all) = omega (arith, ap length (sym whole), length-append so_far (row ∷ rest)) in
    let at : get_or (family_rows family all) i row ≡ row = ap (λ (rs : List Pair). get_or rs i row) (sym whole) ∙ get_or-append_seam so_far row rest row in
    same_family-is row.0.dst.address.family family (subst (λ (r : Pair). test r ≡ true) at (filter_passes test all i row inside))

-- the entries of a family are those of its rows
filtered_once : (family : Family) (rows : List Pair) → filter (are_of_family family) (entries_of (family_rows family rows)) ≡ filter (are_of_family family) (entries_of rows)
filtered_once family [] = refl
filtered_once family (row ∷ rows) = by (filtered_once family rows) (same_family row.0.dst.address.family family) refl
  where
    entries : List Pair → List (Entry Held)
    entries rs = filter (are_of_family family) (entries_of rs)

    by : entries (family_rows family rows) ≡ entries rows → (b : Bool) → same_family row.0.dst.address.family family ≡ b
        → entries (cond b (row ∷ family_rows family rows) (family_rows family rows)) ≡ cond (b && same_family row.0.src.address.family family) (entry_of row ∷ entries rows) (entries rows)
    by later true e =
        ap (λ (b : Bool). cond (b && same_family row.0.src.address.family family) (entry_of row ∷ entries (family_rows family rows)) (entries (family_rows family rows))) e
        ∙ ap (λ (es : List (Entry Held)). cond (same_family row.0.src.address.family family) (entry_of row ∷ es) es) later
    by later false e = later

-- what are the entries of the rows of a family are those of all rows
pub of_all_rows : (family : Family) (rows : List Pair) (values : List Held) (entries : List (Entry PackedValue))
    → AreNumberedEntries family (family_rows family rows) values entries → AreNumberedEntries family rows values entries
of_all_rows family rows values entries are = record { of_family = are.of_family; numbers = are.numbers; items = are.items ∙ filtered_once family rows }
