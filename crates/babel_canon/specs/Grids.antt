-- The boxes of the two families as pairs: this project's own.
use Rattle.std.specs.Prelude.{List, ◌++◌, map}
use Rattle.babel_prefix.specs.declared.family.Family.{Family}
use Rattle.babel_prefix.specs.declared.family.Family.TheVariants.{V4, V6}
use Rattle.babel_prefix.specs.Width.{width_of}
use Rattle.babel_prefix.specs.Address.{prefix_of}
use Rattle.babel_prefix.specs.Best.{Row}
use Rattle.babel_prefix.specs.Entries.{Entry}
use Rattle.babel_trie.specs.Boxes.{IsBoxList}
use Rattle.babel_tlv.specs.declared.held.Held.{Held}
use Rattle.babel_tlv.specs.Pair.{Pair}
use Rattle.babel_canon.specs.Boxes.{answers_of}

-- a box of a family as a pair
abbrev pub pair_at : Family → Row Held → Pair
pair_at family row =
    (record { dst = prefix_of family row.dst; src = prefix_of family row.src }, row.value)

-- an entry as a pair
abbrev pub pair_of : Entry Held → Pair
pair_of entry = (record { dst = entry.0; src = entry.1 }, entry.2)

-- IPv4 first
abbrev pub both_families : List (Row Held) → List (Row Held) → List Pair
both_families v4 v6 = map (pair_at V4) v4 ++ map (pair_at V6) v6

-- these are the boxes of what rows answer in a family
abbrev pub AreFamilyBoxes : Family → List Pair → List (Row Held) → Type 0
AreFamilyBoxes family rows boxes = IsBoxList (width_of family) (answers_of family rows) boxes
