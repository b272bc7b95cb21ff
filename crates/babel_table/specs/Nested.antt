-- How far the keys around a key reach, among keys in rising order: this project's own.
use Rattle.std.specs.Prelude.{◌≡◌, ◌≢◌, ℕ, ◌<◌, ◌≤◌, true, false, List, length}
use Rattle.std.specs.List.{All, AllWithin, HoldsAt}
use Rattle.std.specs.List.Sorted.{IsStrictlySortedBy}
use Rattle.std.specs.Ordering.{is_le}
use Rattle.babel_prefix.specs.declared.family.Family.{Family}
use Rattle.babel_prefix.specs.Address.{Address, AddressPrefix}
use Rattle.babel_prefix.specs.Covers.{Covers}
use Rattle.babel_tlv.specs.Keys.{key_cmp, IsKey}
use Rattle.babel_tlv.specs.Route.{RouteKey}
use Rattle.babel_table.specs.declared.nested_rows.Around.{Around}

-- the first keys, so many, are none greater than this one; those past them are all greater
abbrev pub AreUpTo : List RouteKey → ℕ → RouteKey → Type 0
AreUpTo keys n key = AllWithin (λ other. is_le (key_cmp other key) ≡ true) keys 0 n

abbrev pub ArePast : List RouteKey → ℕ → RouteKey → Type 0
ArePast keys n key = AllWithin (λ other. is_le (key_cmp other key) ≡ false) keys n (length keys)

-- the key's destination prefix has the address
abbrev pub LeadsTo : Address → RouteKey → Type 0
LeadsTo a key = Covers key.dst a

-- the key leads to the destination prefix, and its source prefix has the address
abbrev pub LeadsFrom : AddressPrefix → Address → RouteKey → Type 0
LeadsFrom dst a key = (key.dst ≡ dst) × Covers key.src a

-- the key leads to a larger destination prefix around this one
abbrev pub LeadsAround : AddressPrefix → RouteKey → Type 0
LeadsAround dst key = (key.dst ≢ dst) × Covers key.dst dst.address

-- no key from `low` on and before `high` is such a one
abbrev pub NoneWithin : (RouteKey → Type 0) → List RouteKey → ℕ → ℕ → Type 0
NoneWithin P keys low high = AllWithin (λ key. ¬ P key) keys low high

-- the keys around the one at this place are among so many at the front
pub record IsNestedAt (keys : List RouteKey) (place : ℕ) (around : Around) : Type 0 where
  pub dst_before : around.dst ≤ place
  pub src_before : around.src ≤ place
  pub dst : HoldsAt (λ key. NoneWithin (LeadsAround key.dst) keys around.dst place) keys place
  pub src : HoldsAt (λ key. NoneWithin (LeadsFrom key.dst key.src.address) keys around.src place)
      keys place

-- the prefixes are of the family
abbrev pub IsKeyOf : Family → RouteKey → Type 0
IsKeyOf family key = IsKey key × (key.dst.address.family ≡ family)

-- rising keys of the family, and of the first of them how far those around each reach
pub record IsNested (family : Family) (keys : List RouteKey) (around : List Around) : Type 0 where
  pub rising : IsStrictlySortedBy key_cmp keys
  pub of : All (IsKeyOf family) keys
  pub short : length around ≤ length keys
  pub each : (place : ℕ) → place < length around → HoldsAt (IsNestedAt keys place) around place
