-- What is told of who is silent: this project's own.
use Rattle.std.specs.Prelude.{◌≡◌, ◌↔◌, ℕ, ◌≤◌, Bool, true, false, not, ◌&&◌, ◌||◌, is_none}
use Rattle.std.specs.Prelude.{if◌then◌else◌, List, [], ◌∷◌, ◌++◌, fold, map, Option, Some, None}
use Rattle.std.specs.declared.cmp.Ordering.{Ordering}
use Rattle.std.specs.BTreeMap.{is_at}
use Rattle.std.specs.List.{AllByRecursion, Contains, filter_map}
use Rattle.std.specs.Option.{is_some}
use Rattle.babel_tlv.specs.declared.hello.Hello.{Hello}
use Rattle.babel_tlv.specs.Framing.{TlvAt, tlvs_of}
use Rattle.babel_tlv.specs.Hellos.{hello_of, is_scheduled}
use Rattle.babel_table.specs.Moments.{Stamp, end_after}
use Rattle.babel_timeline.specs.declared.telling.Telling.{Telling}
use Rattle.babel_timeline.specs.declared.telling.Telling.TheVariants as tellings
use Rattle.babel_timeline.specs.RequestsTold.{body_of}
use Rattle.babel_timeline.specs.Rows.{Rows}
use Rattle.babel_timeline.specs.Silence.{IsSilentAt, IsWatch, NoneFallsSilent, Watching, is_silent}
use Rattle.babel_timeline.specs.Silence.{patience, row_count}
use Rattle.babel_timeline.specs.Telling.{AskedFor, TellsEnds, of_rows}

-- whether it is told who is silent: where each change is told, and rows end
abbrev pub watches : Option ℕ → AskedFor → Bool
watches factor asked = is_none asked && is_some factor

-- ---- Hellos

abbrev pub interval_of : Option Hello → Option ℕ
interval_of None = None
interval_of (Some hello) = if is_scheduled hello then Some hello.interval else None

-- the Interval of a multicast Hello that says when the next one comes; nothing of other TLVs
abbrev pub scheduled : TlvAt → Option ℕ
scheduled tlv = interval_of (hello_of tlv)

-- a sender's Hello of this Interval, which came at this time
abbrev pub hello_at : {S : Type 0} → S → (time interval : ℕ) → S × Stamp
hello_at sender time interval = (sender, record { time = time; interval = interval })

-- the Hellos among a sender's TLVs, which came at this time, and those of a packet
abbrev pub hellos_among : {S : Type 0} → S → (time : ℕ) → List TlvAt → List (S × Stamp)
hellos_among sender time tlvs = map (hello_at sender time) (filter_map scheduled tlvs)

abbrev pub hellos_heard : {S : Type 0} → S → (time : ℕ) → (packet : List ℕ) → List (S × Stamp)
hellos_heard sender time packet = hellos_among sender time (tlvs_of 0 (body_of packet))

-- ---- what is told

-- what is told of who is silent or returns is so by one of these Hellos: from 3.5 times its Interval
-- after it on the sender is silent; with it the sender returns
abbrev pub IsSo : {S : Type 0} → List (S × Stamp) → Telling S → Type 0
IsSo hellos (tellings.Change told) = Unit {0}
IsSo hellos (tellings.Answer time sender answer before) = Unit {0}
IsSo hellos (tellings.Request time sender to request) = Unit {0}
IsSo hellos (tellings.Silent time sender since routes) = (hello : Stamp)
    × Contains hellos (sender, hello) × (since ≡ hello.time)
    × (end_after patience hello ≡ Some time)
IsSo hellos (tellings.Returns time sender) =
    (hello : Stamp) × Contains hellos (sender, hello) × (time ≡ hello.time)

module _ {S : Type 0} (cmp : S → S → Ordering) where
  abbrev pub silent_after : S → Bool → Telling S → Bool
  silent_after sender was (tellings.Change told) = was
  silent_after sender was (tellings.Answer time other answer before) = was
  silent_after sender was (tellings.Request time other to request) = was
  silent_after sender was (tellings.Silent time other since routes) =
      is_at (cmp other) sender || was
  silent_after sender was (tellings.Returns time other) = not (is_at (cmp other) sender) && was

  -- whether a sender is silent by what was told: it fell silent, and did not return since
  abbrev pub is_told_silent : List (Telling S) → S → Bool
  is_told_silent told sender = fold (silent_after sender) false told

  -- of these Hellos it is told who is silent at the moment, exactly
  pub record TellsWhoIsSilent (hellos : List (S × Stamp)) (moment : ℕ) (told : List (Telling S))
      : Type 0 where
    pub silent : (sender : S)
        → (is_told_silent told sender ≡ true) ↔ IsSilentAt cmp moment hellos sender
    pub so : AllByRecursion (IsSo hellos) told

  -- ---- step by step

  -- who was told to be silent is, by the moment, and the last Hellos of the others are waited for
  pub record IsWatched (hellos : List (S × Stamp)) (moment : ℕ) (told : List (Telling S))
      (watching : Watching S) : Type 0 where
    pub watch : IsWatch cmp hellos moment watching
    pub told_is : (sender : S) → is_told_silent told sender ≡ is_silent cmp watching sender
    pub so : AllByRecursion (IsSo hellos) told

  -- the same, and all is told that falls silent by the moment
  abbrev pub IsWatchedWhole : List (S × Stamp) → ℕ → List (Telling S) → Watching S → Type 0
  IsWatchedWhole hellos moment told watching =
      IsWatched hellos moment told watching × NoneFallsSilent cmp moment watching

  -- with what is told anew, after more Hellos that came at this time, all is told again
  abbrev pub TellsSilences : (more : List (S × Stamp)) → (time : ℕ) → (old new : List (Telling S))
      → (was now : Watching S) → Type 0
  TellsSilences more time old new was now =
      (hellos : List (S × Stamp)) (moment : ℕ) (before : List (Telling S)) → moment ≤ time
      → IsWatched hellos moment (before ++ old) was
      → IsWatchedWhole (hellos ++ more) time (before ++ new) now

  -- the same, where all was told that falls silent by this time
  abbrev pub TellsReturns : (more : List (S × Stamp)) → (time : ℕ) → (old new : List (Telling S))
      → (was now : Watching S) → Type 0
  TellsReturns more time old new was now =
      (hellos : List (S × Stamp)) (before : List (Telling S))
      → IsWatchedWhole hellos time (before ++ old) was
      → IsWatchedWhole (hellos ++ more) time (before ++ new) now

-- ---- how many rows who falls silent holds

-- it is told that senders return, and nothing else
abbrev pub TellsOnlyReturns : {S : Type 0} → (time : ℕ) → (old new : List (Telling S)) → Type 0
TellsOnlyReturns {S = S} time old new =
    (senders : List S) × (new ≡ old ++ map (tellings.Returns time) senders)

-- where this was told, so many rows of a sender are left at a time
abbrev pub Leaving : Type 0 → Type 1
Leaving S = (told : List (Telling S)) → (time : ℕ) → S → (routes : ℕ) → Type 0

module _ {S : Type 0} (Leaves : Leaving S) where
  -- who falls silent holds as many rows as are left then, where this was told
  abbrev pub CountsRows : (told : List (Telling S)) → Telling S → Type 0
  CountsRows told (tellings.Change change) = Unit {0}
  CountsRows told (tellings.Answer time sender answer before) = Unit {0}
  CountsRows told (tellings.Request time sender to request) = Unit {0}
  CountsRows told (tellings.Silent time sender since routes) = Leaves told time sender routes
  CountsRows told (tellings.Returns time sender) = Unit {0}

  -- and so does each who is told besides, one after another
  abbrev pub EachCounts : (told more : List (Telling S)) → Type 0
  EachCounts told [] = Unit {0}
  EachCounts told (one ∷ more) = CountsRows told one × EachCounts (told ++ one ∷ []) more

module _ {S : Type 0} (cmp : S → S → Ordering) (factor : Option ℕ) (rows : Rows S)
    (old : List (Telling S)) where
  -- of these rows so many of the sender are left, once all that ends by the time was told, and this
  pub record LeavesRows (told : List (Telling S)) (time : ℕ) (sender : S) (routes : ℕ) : Type 0
    where
      pub left : Rows S
      pub ends : TellsEnds cmp factor None time rows left (of_rows None old) (of_rows None told)
      pub are : routes ≡ row_count cmp sender left

  -- with what is told anew, each who falls silent holds so many
  abbrev pub TellsCounts : (new : List (Telling S)) → Type 0
  TellsCounts new = (more : List (Telling S)) × (new ≡ old ++ more) × EachCounts LeavesRows old more
