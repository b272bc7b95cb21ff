-- The routes of a dump under a view: the rows of its table, each key with what the view sees of
-- what is held for it. Their octets, and how those of two tables differ: this project's own.
use Rattle.std.specs.Prelude.{◌≡◌, ◌≢◌, ◌⊎◌, ◌↔◌, ℕ, List, [], map, Contains, Option, None, Some}
use Rattle.std.specs.List.Sorted.{IsStrictlySortedBy}
use Rattle.babel_prefix.specs.Address.{Address}
use Rattle.babel_tlv.specs.declared.fault.Fault.{Fault}
use Rattle.babel_tlv.specs.declared.fault.Fault.TheVariants as faults
use Rattle.babel_tlv.specs.declared.held.Held.{Held}
use Rattle.babel_tlv.specs.declared.mode.Mode.{Mode}
use Rattle.babel_tlv.specs.declared.view.View.{View}
use Rattle.babel_tlv.specs.Group.{IsCanonicalText}
use Rattle.babel_tlv.specs.Keys.{key_cmp}
use Rattle.babel_tlv.specs.Pair.{Pair}
use Rattle.babel_tlv.specs.Route.{RouteKey}
use Rattle.babel_tlv.specs.Views.{keeps_all}
use Rattle.babel_table.specs.Bounds.{Bounds, AreBounds}
use Rattle.babel_table.specs.DumpFault.{DumpFault, HasNoFault}
use Rattle.babel_table.specs.Rows.{Routes}
use Rattle.babel_table.specs.Seen.{seen_rows}
use Rattle.babel_table.specs.TableOf.{IsTableOf}
use Rattle.babel_table.specs.TableRows.{AreRows}
use Rattle.babel_canon.specs.Headline.{TellsApart, ReadsAgain}
use Rattle.babel_canon.specs.Sent.{Sent}
use Rattle.babel_canon.specs.Sizes.{IsBodySize}
use Rattle.babel_canon.specs.Views.{AnswerTheSameUnder}
use Rattle.babel_canon.specs.declared.every_difference.Difference.{Difference}

-- ---- what is the same

-- two tables have the same routes under a view
abbrev pub RoutesTheSame : View → List Pair → List Pair → Type 0
RoutesTheSame view rows others = seen_rows view rows ≡ seen_rows view others

-- these rows are the routes of others under the view
abbrev pub AreRoutes : View → List Pair → List Pair → Type 0
AreRoutes view rows others = rows ≡ seen_rows view others

-- ---- route octets

-- the octets say the routes of the dump: it has no fault, and they are the text of its table's rows
-- as the view sees them, with no boxes between
pub record SaysRoutes (view : View) (limits : Bounds) (mode : Mode) (body : ℕ) (one : Sent)
    (octets : List ℕ) : Type 0 where
  pub no_fault : HasNoFault limits mode one.sender one.dump
  pub table : Routes
  pub is_table : IsTableOf limits mode one.sender one.dump table
  pub rows : AreRows table.rows
  pub text : IsCanonicalText body (seen_rows view table.rows) octets

-- the dump's own fault, or out of memory: its rows are never too many
abbrev pub RoutesFault : Bounds → Mode → Sent → Fault → Type 0
RoutesFault limits mode one fault =
    DumpFault limits mode one.sender one.dump fault ⊎ (fault ≡ faults.Memory)

-- read with `any` sender, the octets give the routes of the dump, and are made of them again: under
-- this view, or under `again`
abbrev pub RoutesReadAgain :
    (view again : View) → Bounds → Mode → ℕ → Sent → List ℕ → Address → Type 0
RoutesReadAgain view again limits mode body =
    ReadsAgain (AreRoutes view) (SaysRoutes again limits mode body) (RoutesFault limits mode)
    limits mode

-- The headline for routes: route octets are equal exactly where the routes are the same; and, read
-- with any sender, they give the routes again and are their own route octets, under the view and
-- under the one that keeps all.
pub record AreRouteOctets (view : View) (limits : Bounds) (mode : Mode) (body : ℕ) (one : Sent)
    (octets : List ℕ) : Type 0 where
  pub says : SaysRoutes view limits mode body one octets
  pub tells_apart : TellsApart (RoutesTheSame view) (SaysRoutes view limits mode body) limits mode
      one octets
  pub reads_again : (any : Address) → RoutesReadAgain view view limits mode body one octets any
  pub reads_without : (any : Address)
      → RoutesReadAgain view keeps_all limits mode body one octets any

-- it holds of all that says the routes of a dump
abbrev pub RoutesHeadline : Type 0
RoutesHeadline =
    (view : View) (limits : Bounds) (mode : Mode) (body : ℕ) → AreBounds limits → IsBodySize body
    → (one : Sent) (octets : List ℕ) → SaysRoutes view limits mode body one octets
    → AreRouteOctets view limits mode body one octets

-- tables with the same routes answer the same
abbrev pub SameRoutesAnswer : Type 0
SameRoutesAnswer =
    (view : View) (rows others : List Pair) → AreRows rows → AreRows others
    → RoutesTheSame view rows others → AnswerTheSameUnder view rows others

-- ---- how two tables differ

-- what rows hold for a key, if anything
abbrev pub HoldFor : List Pair → RouteKey → Option Held → Type 0
HoldFor rows key None = (held : Held) → ¬ Contains rows (key, held)
HoldFor rows key (Some held) = Contains rows (key, held)

-- rows and others hold these two for the key, and they differ
pub record IsRouteDifference (rows others : List Pair) (difference : Difference) : Type 0 where
  pub left : HoldFor rows difference.key difference.left
  pub right : HoldFor others difference.key difference.right
  pub differs : difference.left ≢ difference.right

-- these are all keys for which rows and others hold what differs, each once, in rising order
pub record AreRouteDifferences (rows others : List Pair) (differences : List Difference) :
    Type 0 where
  pub rising : IsStrictlySortedBy key_cmp (map (λ difference. difference.key) differences)
  pub exact : (difference : Difference)
      → Contains differences difference ↔ IsRouteDifference rows others difference

-- two tables have one list of them
abbrev pub RouteDifferencesAreOne : Type 0
RouteDifferencesAreOne =
    (rows others : List Pair) (differences too : List Difference)
    → AreRouteDifferences rows others differences → AreRouteDifferences rows others too
    → differences ≡ too

-- there is none exactly where the rows are equal
abbrev pub NoneWhereRoutesSame : Type 0
NoneWhereRoutesSame =
    (rows others : List Pair) (differences : List Difference) → AreRows rows → AreRows others
    → AreRouteDifferences rows others differences → (differences ≡ []) ↔ (rows ≡ others)
