-- Which senders of two captures are compared with each other, where none is named. It is this
-- project's own: interfaces are numbered in each recording by itself, so that a sender is found
-- again by its address where it has one place in each, and by its place where it has several in one.
use Rattle.std.specs.Prelude.{◌≡◌, if◌then◌else◌, List, [], ◌∷◌, ◌++◌, filter, is_none, map}
use Rattle.std.specs.Prelude.{Option, None, Some}
use Rattle.std.specs.BTreeMap.{is_at}
use Rattle.std.specs.List.{list_any}
use Rattle.std.specs.List.Sorted.{IsPermutation, IsSortedByKey}
use Rattle.std.specs.Map.{keys_of, lookup}
use Rattle.babel_prefix.specs.Address.{Address}
use Rattle.babel_prefix.specs.Order.{address_cmp}
use Rattle.babel_capture.specs.Tallies.{origin_cmp}
use Rattle.babel_capture.specs.declared.tallies.Origin.{Origin}
use Rattle.babel_dump.specs.declared.fellows.Fellows.{Fellows}
use Rattle.babel_dump.specs.declared.fellows.Fellows.TheVariants as fellows

-- those of this address, each at its place
abbrev pub places_of : Address → List Origin → List Origin
places_of sender origins = filter (λ origin. is_at (address_cmp sender) origin.sender) origins

-- the only one
abbrev pub only : List Origin → Option Origin
only (origin ∷ []) = Some origin
only origins = None

-- the sender at the same place
abbrev pub at_place : List Origin → Origin → Option Origin
at_place others origin =
    if list_any (is_at (origin_cmp origin)) others then Some origin else None

-- the only one on either side, or else the one at the same place
abbrev pub fellow_by : (own other same : Option Origin) → Option Origin
fellow_by (Some own) (Some other) same = Some other
fellow_by own other same = same

-- the fellow that one of these senders has among the others
abbrev pub fellow_of : (own others : List Origin) → Origin → Option Origin
fellow_of own others origin =
    fellow_by (only (places_of origin.sender own)) (only (places_of origin.sender others))
    (at_place others origin)

-- a sender of the first capture, with its fellow or alone
abbrev pub left_with : Origin → Option Origin → Fellows
left_with left None = fellows.Left left
left_with left (Some right) = fellows.Both left right

-- all of the first capture, and those of the other that have no fellow
abbrev pub fellows_in : (lefts rights : List Origin) → List Fellows
fellows_in lefts rights =
    map (λ left. left_with left (fellow_of lefts rights left)) lefts
    ++ map fellows.Right (filter (λ right. is_none (fellow_of rights lefts right)) rights)

-- the one that is told: that of the first capture, where there is one
abbrev pub lead_of : Fellows → Origin
lead_of (fellows.Both left right) = left
lead_of (fellows.Left origin) = origin
lead_of (fellows.Right origin) = origin

-- these, in the order of senders
pub record AreFellows (lefts rights : List Origin) (found : List Fellows) : Type 0 where
  pub all : IsPermutation (fellows_in lefts rights) found
  pub in_order : IsSortedByKey lead_of origin_cmp found

-- Each is its fellow's fellow: so a sender of the other capture is in one pair, or alone.
abbrev pub FellowsAreMutual : Type 0
FellowsAreMutual = (own others : List Origin) (origin other : Origin)
    → at_place own origin ≡ Some origin → fellow_of own others origin ≡ Some other
    → (at_place others other ≡ Some other) × (fellow_of others own other ≡ Some origin)

-- ---- how they are found

-- what is known of the senders of one address: nothing, the only one, or that there are several
abbrev pub lone_in : List Origin → Option (Option Origin)
lone_in [] = None
lone_in (origin ∷ []) = Some (Some origin)
lone_in (origin ∷ other ∷ more) = Some None

-- these are the senders of a capture, and this is known of each address
pub record Occurs {T : Type 0} (origins : List Origin) (senders : List (Origin × T))
    (lone : List (Address × Option Origin)) : Type 0 where
  pub senders_are : keys_of senders ≡ origins
  pub lone_is : (sender : Address)
      → lookup (is_at (address_cmp sender)) lone ≡ lone_in (places_of sender origins)
