-- What the canonical text of pairs is read as: RFC 8966, 4.5 and 4.6.9; RFC 9079, 5; RFC 9229,
-- 2.
use Rattle.std.specs.Prelude.{◌≡◌, ◌≢◌, ℕ, ◌*◌, ◌^◌, ◌<◌, ◌≤◌, List, [], length, map, Ok, ◌↔◌}
use Rattle.std.specs.Prelude.{AllPairs, Contains}
use Rattle.std.specs.List.{AllByRecursion}
use Rattle.std.specs.Map.{keys_of}
use Rattle.babel_tlv.specs.declared.event.Event.{Event}
use Rattle.babel_tlv.specs.declared.held.Held.{Held}
use Rattle.babel_tlv.specs.declared.held.Held.TheVariants as helds
use Rattle.babel_tlv.specs.declared.mode.Mode.{Mode}
use Rattle.babel_tlv.specs.declared.mode.Mode.TheVariants as modes
use Rattle.babel_tlv.specs.Route.{RouteKey}
use Rattle.babel_tlv.specs.Pair.{Pair}
use Rattle.babel_tlv.specs.declared.start.Start.{Start}
use Rattle.babel_tlv.specs.Pairs.{HopFits, IsPair}
use Rattle.babel_tlv.specs.Framing.{TlvAt, ReadsAs}
use Rattle.babel_tlv.specs.Says.{sayings}
use Rattle.babel_tlv.specs.Group.{IsCanonicalText}
use Rattle.babel_tlv.specs.News.{spoken, pair_event}
use Rattle.babel_table.specs.Bounds.{Bounds}
use Rattle.babel_table.specs.Holds.{Holds}
use Rattle.babel_table.specs.Rows.{Routes}
use Rattle.babel_table.specs.TableOf.{IsTableOf}
use Rattle.babel_table.specs.DumpFault.{HasNoFault}

-- no two pairs have one key
abbrev pub HaveDistinctKeys : List Pair → Type 0
HaveDistinctKeys pairs = AllPairs (λ key later. key ≢ later) (keys_of pairs)

abbrev pub IsRoute : Held → Type 0
IsRoute (helds.Route ann) = Unit {0}
IsRoute helds.Unreachable = ⊥

-- a mode in which the pairs can be read: in mode Plain none is unreachable
abbrev pub AreReadableIn : Mode → List Pair → Type 0
AreReadableIn modes.Plain pairs = AllByRecursion (λ pair. IsRoute pair.1) pairs
AreReadableIn modes.Hold pairs = Unit {0}

-- the octets are packets of which each TLV says nothing, or what the pair says whose turn it is
pub record TellsPairs (start : Start) (octets : List ℕ) (pairs : List Pair) : Type 0 where
  pub packets : List (List TlvAt)
  pub said : List Event
  pub reads : ReadsAs octets packets []
  pub fine : map (λ saying. saying.what) (sayings start packets) ≡ map (λ event. Ok event) said
  pub news : spoken said ≡ map pair_event pairs

-- Read from this start on, the octets tell the pairs, and exactly these stand after them; they have
-- no fault where a table has room for the pairs, and are no more than 83 octets for each; and every
-- table of them has the pairs as its rows.
pub record ReadsBack (mode : Mode) (start : Start) (octets : List ℕ)
    (pairs : List Pair) : Type 0 where
  pub tells : TellsPairs start octets pairs
  pub holds : (key : RouteKey) (held : Held) →
      Holds mode tells.said key held ↔ Contains pairs (key, held)
  pub no_fault : (limits : Bounds) → limits.via_v6 ≡ start.via_v6
      → length pairs ≤ limits.entries → 83 * length pairs ≤ limits.bytes
      → HasNoFault limits mode start.sender octets
  pub short : length octets ≤ 83 * length pairs
  pub table : (limits : Bounds) (table : Routes) → limits.via_v6 ≡ start.via_v6
      → IsTableOf limits mode start.sender octets table → (pair : Pair)
      → Contains table.rows pair ↔ Contains pairs pair

-- the canonical text of pairs with distinct keys, with any sender, is read back as the pairs, where
-- encoding 4 is read if some pair needs it
abbrev pub TextReadsBack : Type 0
TextReadsBack =
    (mode : Mode) (body : ℕ) (pairs : List Pair) (octets : List ℕ) (start : Start)
    → body < 2 ^ 16 → AllByRecursion IsPair pairs
    → AllByRecursion (λ pair. HopFits start.via_v6 pair.0 pair.1) pairs
    → HaveDistinctKeys pairs → AreReadableIn mode pairs → IsCanonicalText body pairs octets
    → ReadsBack mode start octets pairs
