-- The differences of both families, and their number.
use Rattle.std.proofs.Common.{◌≡◌, ◌+◌, List, ◌++◌, length, map, arith}
use Rattle.std.proofs.lemmas.List.{length-append, length-map}
use Rattle.babel_prefix.specs.declared.family.Family.TheVariants.{V4, V6}
use Rattle.babel_prefix.specs.Best.{Row}
use Rattle.babel_trie.specs.declared.differing.Differing.{Differing}
use Rattle.babel_tlv.specs.declared.held.Held.{Held}
use Rattle.babel_canon.specs.Differences.{difference_at}
use Rattle.babel_canon.specs.PackedDifferences.{valued_differences, valued_row}
use Rattle.babel_canon.specs.declared.values.PackedValue.{PackedValue}

-- how many there are
pub differences-length : (v4 v6 : List (Row (Differing Held))) → length (map (difference_at V4) v4 ++ map (difference_at V6) v6) ≡ length v4 + length v6
differences-length v4 v6 = omega (arith, length-append (map (difference_at V4) v4) (map (difference_at V6) v6), length-map v4 (difference_at V4), length-map v6 (difference_at V6))

-- how many there are, by the packed boxes
pub valued-length : (values : List Held) (v4 v6 : List (Row (Differing PackedValue))) → length (valued_differences values v4 v6) ≡ length v4 + length v6
valued-length values v4 v6 = omega (arith, differences-length (map (valued_row values) v4) (map (valued_row values) v6), length-map v4 (valued_row values), length-map v6 (valued_row values))
