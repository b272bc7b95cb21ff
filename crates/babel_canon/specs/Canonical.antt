-- The canonical form of a table, and why there is none: this project's own. Its octets are packets
-- of RFC 8966, 4.2.
use Rattle.std.specs.Prelude.{◌≡◌, ℕ, ◌<◌, ◌≤◌, List, length, ◌⊎◌}
use Rattle.babel_tlv.specs.declared.fault.Fault.{Fault}
use Rattle.babel_tlv.specs.declared.fault.Fault.TheVariants as faults
use Rattle.babel_tlv.specs.Pair.{Pair}
use Rattle.babel_tlv.specs.Group.{IsCanonicalText}
use Rattle.babel_table.specs.Bounds.{Bounds}
use Rattle.babel_canon.specs.Boxes.{AreBoxes}
use Rattle.babel_canon.specs.Fewest.{AreFewest}

-- pairs, and their canonical octets
pub record Canonical : Type 0 where
  pub pairs : List Pair
  pub octets : List ℕ

-- the boxes of the rows' answers, no more than the limit, and their text
pub record IsCanonical (limits : Bounds) (body : ℕ) (rows : List Pair) (canon : Canonical) :
    Type 0 where
  pub boxes : AreBoxes rows canon.pairs
  pub few : length canon.pairs ≤ limits.entries
  pub text : IsCanonicalText body canon.pairs canon.octets

-- the boxes of the rows' answers, no more than the limit, and the fewest pairs with these answers
pub record AreCanonical (limits : Bounds) (rows pairs : List Pair) : Type 0 where
  pub boxes : AreBoxes rows pairs
  pub few : length pairs ≤ limits.entries
  pub fewest : AreFewest rows pairs

-- the octets are the text of these
pub record SaysCanonical (limits : Bounds) (body : ℕ) (rows : List Pair) (octets : List ℕ) :
    Type 0 where
  pub pairs : List Pair
  pub are_canonical : AreCanonical limits rows pairs
  pub text : IsCanonicalText body pairs octets

-- they are so many
pub record CountsCanonical (limits : Bounds) (rows : List Pair) (count : ℕ) : Type 0 where
  pub pairs : List Pair
  pub are_canonical : AreCanonical limits rows pairs
  pub count_is : count ≡ length pairs

-- the boxes of the rows' answers are more than the limit
abbrev pub HasManyBoxes : Bounds → List Pair → Type 0
HasManyBoxes limits rows =
    (boxes : List Pair) × AreBoxes rows boxes × (limits.entries < length boxes)

-- too many pairs, or out of memory
abbrev pub CanonicalFault : Bounds → List Pair → Fault → Type 0
CanonicalFault limits rows fault =
    ((fault ≡ faults.TooManyPairs) × HasManyBoxes limits rows) ⊎ (fault ≡ faults.Memory)
