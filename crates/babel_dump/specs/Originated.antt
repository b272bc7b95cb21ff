-- Who originates what: for each key and router-id the least metric that a sender announces, and how
-- many senders announce one; of the senders in one capture, or in each of two. This is this
-- project's own. RFC 8966, 3.2.5, keeps a router's feasibility distances by these three, too.
use Rattle.std.specs.Prelude.{ℕ, ◌≡◌, ◌+◌, if◌then◌else◌, List, [], ◌∷◌, ◌++◌, length, fold, min}
use Rattle.std.specs.Prelude.{Option, None, Some}
use Rattle.std.specs.BTreeMap.{insert_entry, is_at}
use Rattle.std.specs.Cmp.Lexicographic.{slice_cmp}
use Rattle.std.specs.List.{filter_map}
use Rattle.std.specs.List.Sorted.{IsStrictlySortedBy}
use Rattle.std.specs.Map.{keys_of, lookup}
use Rattle.std.specs.Option.{unwrap_or}
use Rattle.std.specs.Ordering.{nat_cmp, on, then_cmp}
use Rattle.std.specs.declared.cmp.Ordering.{Ordering}
use Rattle.babel_tlv.specs.Keys.{key_cmp}
use Rattle.babel_tlv.specs.Pair.{Pair}
use Rattle.babel_tlv.specs.declared.held.Held.TheVariants as helds
use Rattle.babel_dump.specs.declared.originated.Announced.{Announced}
use Rattle.babel_dump.specs.declared.originated.OnSides.{OnSides}
use Rattle.babel_dump.specs.declared.originated.Origination.{Origination}
use Rattle.babel_dump.specs.declared.run_fault.Side.{Side}
use Rattle.babel_dump.specs.declared.run_fault.Side.TheVariants as sides

-- by destination, then by source, then by router-id
abbrev pub origination_cmp : Origination → Origination → Ordering
origination_cmp =
    then_cmp (on (λ one. one.key) key_cmp) (on (λ one. one.router_id) (slice_cmp nat_cmp))

-- the metric of a row, if it is a route for this key with this router-id
abbrev pub metric_for : Origination → Pair → Option ℕ
metric_for one (key, helds.Route ann) =
    if is_at (origination_cmp one) (record { key = key; router_id = ann.router_id })
    then Some ann.metric else None
metric_for one (key, helds.Unreachable) = None

-- the least of some metrics, and how many there are
abbrev pub least_of : List ℕ → Option Announced
least_of [] = None
least_of (metric ∷ metrics) = Some (record {
  metric = fold min metric metrics;
  senders = length (metric ∷ metrics);
})

-- how it is announced by these rows, of which each sender has one at most for a key
abbrev pub announced_by : List Pair → Origination → Option Announced
announced_by rows one = least_of (filter_map (metric_for one) rows)

-- on one side at least, or not at all
abbrev pub on_sides : (left right : Option Announced) → Option OnSides
on_sides None None = None
on_sides left right = Some (record { left = left; right = right })

-- in order, all that is announced by the rows of the tables of senders on both sides
pub record AreOriginated (all : List (Origination × OnSides)) (left right : List Pair) :
    Type 0 where
  pub sorted : IsStrictlySortedBy origination_cmp (keys_of all)
  pub each : (one : Origination)
      → lookup (is_at (origination_cmp one)) all
      ≡ on_sides (announced_by left one) (announced_by right one)

-- ---- how they are found

-- with a sender more that announces this metric
abbrev pub announced_too : Option Announced → (metric : ℕ) → Announced
announced_too None metric = record { metric = metric; senders = 1 }
announced_too (Some before) metric =
    record { metric = min before.metric metric; senders = before.senders + 1 }

-- on this side
abbrev pub sides_too : Side → (metric : ℕ) → OnSides → OnSides
sides_too sides.First metric before =
    record before { left = Some (announced_too before.left metric) }
sides_too sides.Other metric before =
    record before { right = Some (announced_too before.right metric) }

abbrev pub on_neither : OnSides
on_neither = record { left = None; right = None }

-- one of them is announced once more
abbrev pub IsAnnouncedToo : Side → Origination → (metric : ℕ)
    → (before after : List (Origination × OnSides)) → Type 0
IsAnnouncedToo side one metric before after = after ≡ insert_entry origination_cmp before one
    (sides_too side metric (unwrap_or (lookup (is_at (origination_cmp one)) before) on_neither))

-- the rows of each side with more on one
abbrev pub left_with : Side → (left more : List Pair) → List Pair
left_with sides.First left more = left ++ more
left_with sides.Other left more = left

abbrev pub right_with : Side → (right more : List Pair) → List Pair
right_with sides.First right more = right
right_with sides.Other right more = right ++ more

-- they are taken
pub record TakesMore (side : Side) (more : List Pair) (before after : List (Origination × OnSides))
    : Type 0 where
  pub takes : (left right : List Pair) → AreOriginated before left right
      → AreOriginated after (left_with side left more) (right_with side right more)
