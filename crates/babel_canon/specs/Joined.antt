-- What two lists of rows hold for each key of either, as it is looked for: this project's own.
use Rattle.std.specs.Prelude.{Bool, List, [], ◌∷◌, filter, map, Option, None, Some}
use Rattle.std.specs.Option.{option_cmp}
use Rattle.std.specs.Ordering.{is_ne}
use Rattle.std.specs.declared.cmp.Ordering.{Ordering}
use Rattle.std.specs.declared.cmp.Ordering.TheVariants.{Less, Equal, Greater}
use Rattle.babel_tlv.specs.declared.held.Held.{Held}
use Rattle.babel_tlv.specs.Keys.{key_cmp}
use Rattle.babel_tlv.specs.Pair.{Pair}
use Rattle.babel_tlv.specs.Pairs.{held_cmp}
use Rattle.babel_tlv.specs.Route.{RouteKey}
use Rattle.babel_table.specs.Left.{rows_left}
use Rattle.babel_canon.specs.declared.every_difference.Difference.{Difference}
use Rattle.babel_canon.specs.declared.differing_routes.RouteDifferences.{RouteDifferences}

-- a key, and what both hold for it, if anything
abbrev pub Joined : Type 0
Joined = RouteKey × (Option Held × Option Held)

abbrev pub of_left : Pair → Joined
of_left row = (row.0, (Some row.1, None))

abbrev pub of_right : Pair → Joined
of_right row = (row.0, (None, Some row.1))

-- what comes first by the order of the keys of two rows
abbrev pub first_by : Ordering → (less equal greater : List Joined) → List Joined
first_by Less less equal greater = less
first_by Equal less equal greater = equal
first_by Greater less equal greater = greater

-- a row is joined with others, and `later` joins the rows after it
abbrev pub joined_with : (later : List Pair → List Joined) → Pair → List Pair → List Joined
joined_with later row [] = of_left row ∷ later []
joined_with later row (other ∷ others) =
    first_by (key_cmp row.0 other.0) (of_left row ∷ later (other ∷ others))
    ((row.0, (Some row.1, Some other.1)) ∷ later others)
    (of_right other ∷ joined_with later row others)

abbrev pub joined : List Pair → List Pair → List Joined
joined [] others = map of_right others
joined (row ∷ rows) others = joined_with (joined rows) row others

-- whether two answers differ
abbrev pub differ : Option Held × Option Held → Bool
differ both = is_ne (option_cmp held_cmp both.0 both.1)

abbrev pub difference_of : Joined → Difference
difference_of both = record { key = both.0; left = both.1.0; right = both.1.1 }

-- the keys of two lists of rows that hold different things
abbrev pub differing : List Pair → List Pair → List Difference
differing rows others = map difference_of (filter (λ both. differ both.1) (joined rows others))

-- what is left to give
abbrev pub joined_left : RouteDifferences → List Joined
joined_left both = joined (rows_left both.left) (rows_left both.right)

abbrev pub differences_left : RouteDifferences → List Difference
differences_left both = differing (rows_left both.left) (rows_left both.right)
