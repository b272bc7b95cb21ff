-- Lists of pairs that have the answers of rows (RFC 9079, 4) and do not overlap, of both families
-- together, and how short they can be: this project's own.
use Rattle.std.specs.Prelude.{◌≡◌, ◌⊎◌, ◌≤◌, List, length, AllPairs}
use Rattle.std.specs.List.{AllByRecursion}
use Rattle.babel_prefix.specs.Address.{Address, AddressPrefix, IsAddress}
use Rattle.babel_prefix.specs.Covers.{Covers}
use Rattle.babel_tlv.specs.Route.{RouteKey}
use Rattle.babel_tlv.specs.Keys.{IsKey}
use Rattle.babel_tlv.specs.Pair.{Pair}
use Rattle.babel_table.specs.BestMatch.{ContainsBoth}
use Rattle.babel_canon.specs.Boxes.{AreBoxes}
use Rattle.babel_canon.specs.Answers.{AnswerTheSame}

-- no address is in both prefixes
abbrev pub AreApart : AddressPrefix → AddressPrefix → Type 0
AreApart prefix other = (a : Address) → IsAddress a → Covers prefix a → Covers other a → ⊥

-- no destination and source are in both keys
abbrev pub DoNotOverlap : RouteKey → RouteKey → Type 0
DoNotOverlap key other =
    (d s : Address) → IsAddress d → IsAddress s → ContainsBoth d s key → ContainsBoth d s other → ⊥

-- Any two destination prefixes are equal or have no address in common, no two pairs overlap, and
-- the answers are those of the rows.
pub record AreDisjoint (rows pairs : List Pair) : Type 0 where
  pub keys : AllByRecursion (λ pair. IsKey pair.0) pairs
  pub destinations :
      AllPairs (λ pair later. (pair.0.dst ≡ later.0.dst) ⊎ AreApart pair.0.dst later.0.dst) pairs
  pub no_overlap : AllPairs (λ pair later. DoNotOverlap pair.0 later.0) pairs
  pub answers : AnswerTheSame pairs rows

-- the pairs are so, and no list that is so has fewer
pub record AreFewest (rows pairs : List Pair) : Type 0 where
  pub disjoint : AreDisjoint rows pairs
  pub fewest : (others : List Pair) → AreDisjoint rows others → length pairs ≤ length others

-- the boxes of rows are the fewest
abbrev pub BoxesAreFewest : Type 0
BoxesAreFewest = (rows boxes : List Pair) → AreBoxes rows boxes → AreFewest rows boxes
