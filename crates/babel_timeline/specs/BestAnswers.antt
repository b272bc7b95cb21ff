-- That a sender answers what it announces for its best match: laws of the definitions.
use Rattle.std.specs.Prelude.{◌≡◌, ℕ, ◌≤◌, true, List, map, Option, Some, None, IsSome}
use Rattle.std.specs.List.{AllByRecursion}
use Rattle.std.specs.Option.{option_map}
use Rattle.std.specs.declared.cmp.Ordering.{Ordering}
use Rattle.babel_prefix.specs.Address.{Address, IsAddress}
use Rattle.babel_tlv.specs.declared.held.Held.{Held}
use Rattle.babel_tlv.specs.declared.held.Held.TheVariants as helds
use Rattle.babel_tlv.specs.declared.view.View.{View}
use Rattle.babel_tlv.specs.Context.{Context}
use Rattle.babel_tlv.specs.Framing.{TlvAt}
use Rattle.babel_tlv.specs.Keys.{IsKey}
use Rattle.babel_tlv.specs.Route.{Announcement, RouteKey}
use Rattle.babel_table.specs.BestMatch.{ContainsBoth, IsBestAmong, IsMoreSpecific}
use Rattle.babel_table.specs.Moments.{Told, told_at}
use Rattle.babel_timeline.specs.declared.best_match.BestMatch.{BestMatch}
use Rattle.babel_timeline.specs.declared.change.Change.{Change}
use Rattle.babel_timeline.specs.declared.subject.Subject.{Subject}
use Rattle.babel_timeline.specs.Accounts.{IsAccount, IsHeldAt, Said, said, said_by}
use Rattle.babel_timeline.specs.Rows.{AllLast, Rows, row_at, subject_of}
use Rattle.babel_timeline.specs.Telling.{AskedFor, IsAnswer, counts, seen_event}

-- a destination and a source address of one family
pub record ArePair (pair : Address × Address) : Type 0 where
  pub dst : IsAddress pair.0
  pub src : IsAddress pair.1
  pub one_family : pair.0.family ≡ pair.1.family

-- what a TLV told in its context, when it came
abbrev pub IsOfTlv : Told → Type 0
IsOfTlv told = (time : ℕ) × (context : Context) × (tlv : TlvAt) × (told ≡ told_at time context tlv)

-- the most specific key that contains both addresses, and what is announced for it, or nothing where
-- nothing is held for a key that contains both
abbrev pub IsBest : (RouteKey → Held → Type 0) → Address × Address → Option BestMatch → Type 0
IsBest Has pair None = IsBestAmong Has pair.0 pair.1 None
IsBest Has pair (Some best) =
    Has best.key (helds.Route best.ann) × ContainsBoth pair.0 pair.1 best.key
    × ((other : RouteKey) (its : Held) → Has other its → ContainsBoth pair.0 pair.1 other
    → ¬ IsMoreSpecific other best.key)

-- what was said, and what counts of it, as the view sees it
abbrev pub seen_said : {S : Type 0} → AskedFor → View → List (Said S) → List (Said S)
seen_said asked view all =
    map (λ one. said one.sender one.told.when (seen_event asked view one.told.event)) all

module _ {S : Type 0} (cmp : S → S → Ordering) where
  -- the rows hold this for a key of the sender's
  abbrev pub RowsHave : Rows S → S → RouteKey → Held → Type 0
  RowsHave rows sender key held =
      option_map (λ row. helds.Route row.ann) (row_at cmp rows (subject_of sender key)) ≡ Some held

  -- where each row is of a key that counts, the answer is that of the best match among the rows
  abbrev pub RowsAnswerBest : Type 0
  RowsAnswerBest = (pair : Address × Address) (rows : Rows S) (sender : S)
      (answer : Option BestMatch)
      → ((subject : Subject S) → IsSome (row_at cmp rows subject)
      → IsKey subject.key × (counts (Some pair) subject.key ≡ true))
      → IsAnswer cmp pair rows sender answer
      → IsBest (RowsHave rows sender) pair answer

  module _ (factor : Option ℕ) where
    -- by what the sender said this is held for the key at the moment
    abbrev pub SaysAt : ℕ → List (Said S) → S → RouteKey → Held → Type 0
    SaysAt moment all sender key held = (ann : Announcement) × (held ≡ helds.Route ann)
        × IsHeldAt factor moment (said_by cmp sender all) key ann

    -- once all that ends by a moment has been told of, a sender's answer is that of the best match
    -- among all that it announced and that is held then, also for keys that do not count
    abbrev pub AnswersAreBest : Type 0
    AnswersAreBest = (pair : Address × Address) (view : View) (all : List (Said S))
        (moment later : ℕ) (changes : List (Change S)) (rows : Rows S) (sender : S)
        (answer : Option BestMatch)
        → ArePair pair → AllByRecursion (λ one. IsOfTlv one.told) all
        → IsAccount cmp factor None (seen_said (Some pair) view all) moment changes rows
        → moment ≤ later → AllLast cmp factor later rows → IsAnswer cmp pair rows sender answer
        → IsBest (SaysAt later (seen_said None view all) sender) pair answer
