-- What is kept of a router's own Updates, what it becomes with one more, and that it is the source
-- table of all of them.
use Rattle.std.specs.Prelude.{◌≡◌, ℕ, if◌then◌else◌, List, [], ◌∷◌, ◌++◌, Some}
use Rattle.std.specs.BTreeMap.{is_at}
use Rattle.babel_tlv.specs.Route.{Announcement, RouteKey}
use Rattle.babel_selection.specs.declared.distance.Distance.{Distance}
use Rattle.babel_selection.specs.declared.source.Source.{Source}
use Rattle.babel_selection.specs.Distances.{OwnUpdate, after_update, distance_of, is_gone}
use Rattle.babel_selection.specs.Distances.{source_cmp, source_of}
use Rattle.babel_selection.specs.Hearing.{entry_at}

-- an Update of a source changes the entry of that alone
abbrev pub TakesUpdate : ℕ → Source → Announcement → List (Source × Distance)
    → List (Source × Distance) → Type 0
TakesUpdate time source ann old new = (other : Source) → entry_at source_cmp new other
    ≡ (if is_at (source_cmp source) other
    then Some (after_update time ann (entry_at source_cmp old source))
    else entry_at source_cmp old other)

-- the keys of the entries that stand at the moment
abbrev pub standing_keys : ℕ → List (Source × Distance) → List RouteKey
standing_keys moment [] = []
standing_keys moment (entry ∷ entries) =
    (if is_gone moment entry.1 then [] else entry.0.key ∷ []) ++ standing_keys moment entries

-- these are the entries after these Updates
abbrev pub AreDistances : List OwnUpdate → List (Source × Distance) → Type 0
AreDistances updates entries =
    (source : Source) → entry_at source_cmp entries source ≡ distance_of updates source

abbrev pub BeginsDistances : Type 0
BeginsDistances = AreDistances [] []

abbrev pub UpdateKeepsDistances : Type 0
UpdateKeepsDistances = (updates : List OwnUpdate) (one : OwnUpdate)
    (old new : List (Source × Distance)) → AreDistances updates old
    → TakesUpdate one.time (source_of one.key one.ann) one.ann old new
    → AreDistances (updates ++ one ∷ []) new
