-- The lines by the places of the rows that answer are the lines of what a table answers.
use Rattle.std.proofs.Common.{◌≡◌, refl, ◌++◌, ◌∷◌, [], List, ap, ◌∙◌, ℕ, Bool}
use Rattle.std.specs.List.{AllZip, zip}
use Rattle.std.specs.Prelude.{Option}
use Rattle.babel_tlv.specs.Pair.{Pair}
use Rattle.babel_table.specs.RowFor.{IsPlaceFor}
use Rattle.babel_table.specs.Rows.{Routes}
use Rattle.babel_table.specs.declared.row_place.RowPlace.{RowPlace}
use Rattle.babel_dump.specs.InFormat.{answer_line_in, each_in, pair_in, placed_in, placed_line_in}
use Rattle.babel_dump.specs.declared.addr_pair.AddrPair.{AddrPair}
use Rattle.babel_dump.specs.declared.format.Format.{Format}

placed_line : (format : Format) (with_prefix : Bool) (table : Routes) (pair : AddrPair) (place : RowPlace) → IsPlaceFor table.rows pair.dst pair.src place
    → placed_line_in format with_prefix table (pair, place) ≡ pair_in format with_prefix table pair
placed_line format with_prefix table pair place is = ap (λ (row : Option Pair). answer_line_in format with_prefix pair.dst pair.src row) is

pub placed_each : (format : Format) (with_prefix : Bool) (table : Routes) (asked : List AddrPair) (places : List RowPlace)
    → AllZip (λ pair place. IsPlaceFor table.rows pair.dst pair.src place) asked places
    → placed_in format with_prefix table (zip asked places) ≡ each_in format with_prefix table asked
placed_each format with_prefix table [] [] all = refl
placed_each format with_prefix table [] (place ∷ places) all = absurd all
placed_each format with_prefix table (pair ∷ asked) [] all = absurd all
placed_each format with_prefix table (pair ∷ asked) (place ∷ places) all =
    ap (λ (line : List ℕ). line ++ placed_in format with_prefix table (zip asked places)) (placed_line format with_prefix table pair place all.0)
    ∙ ap (λ (lines : List ℕ). pair_in format with_prefix table pair ++ lines) (placed_each format with_prefix table asked places all.1)
