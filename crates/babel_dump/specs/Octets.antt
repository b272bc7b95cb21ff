-- The octets that are made of a dump's table: this project's own.
use Rattle.std.specs.Prelude.{ℕ, ◌≡◌, List}
use Rattle.babel_prefix.specs.Address.{Address}
use Rattle.babel_tlv.specs.declared.mode.Mode.{Mode}
use Rattle.babel_tlv.specs.declared.view.View.{View}
use Rattle.babel_tlv.specs.Group.{IsCanonicalText}
use Rattle.babel_tlv.specs.Pair.{Pair}
use Rattle.babel_tlv.specs.Views.{keeps_all}
use Rattle.babel_table.specs.Bounds.{Bounds}
use Rattle.babel_table.specs.DumpFault.{HasNoFault}
use Rattle.babel_table.specs.Rows.{Routes}
use Rattle.babel_table.specs.Seen.{seen_rows}
use Rattle.babel_table.specs.TableOf.{IsTableOf}
use Rattle.babel_canon.specs.Answers.{AnswerTheSame}
use Rattle.babel_canon.specs.AnswersTell.{AnswersTell}
use Rattle.babel_canon.specs.Canonical.{HasManyBoxes, SaysCanonical}
use Rattle.babel_canon.specs.Headline.{ReadsAgain, TellsApart}
use Rattle.babel_canon.specs.Normalises.{NormaliseFault, Normalises, SaysFewest, as_they_are}
use Rattle.babel_canon.specs.Routes.{AreRouteOctets}
use Rattle.babel_canon.specs.Sent.{Sent, sent}
use Rattle.babel_canon.specs.Views.{AnswerTheSameUnder, ReadsAgainSeen}
use Rattle.babel_dump.specs.declared.job.Form.{Form}
use Rattle.babel_dump.specs.declared.job.Form.TheVariants as forms
use Rattle.babel_dump.specs.declared.reading.Reading.{Reading}

-- These are the canonical octets of what is seen of a dump: they tell it apart from each that
-- answers otherwise, and, read with any sender, answer as it does; and no list of pairs says as
-- much in fewer.
pub record IsNormal (Same : List Pair → List Pair → Type 0) (see : List Pair → List Pair)
    (limits : Bounds) (mode : Mode) (body : ℕ) (one : Sent) (octets : List ℕ) : Type 0 where
  pub normalises : Normalises see limits mode body one octets
  pub fewest : SaysFewest see limits mode body one octets
  pub tells_apart : TellsApart Same (Normalises see limits mode body) limits mode one octets
  pub reads_again : (any : Address) → ReadsAgain Same (Normalises see limits mode body)
      (NormaliseFault see limits mode) limits mode one octets any

-- These are the canonical octets of a dump that is read so, under the view, read again with it or
-- without; and, if it keeps every field, its canonical octets, of which the headline is told in
-- plain definitions.
pub record IsNormalOfDump (reading : Reading) (view : View) (body : ℕ) (dump : List ℕ)
    (octets : List ℕ) : Type 0 where
  pub under : IsNormal (AnswerTheSameUnder view) (seen_rows view)
      reading.limits reading.mode body (sent reading.sender dump) octets
  pub reads_without : (any : Address) → ReadsAgainSeen view as_they_are
      reading.limits reading.mode body (sent reading.sender dump) octets any
  pub whole : view ≡ keeps_all → IsNormal AnswerTheSame as_they_are
      reading.limits reading.mode body (sent reading.sender dump) octets
  pub told : view ≡ keeps_all → AnswersTell
      (Normalises as_they_are reading.limits reading.mode body)
      (NormaliseFault as_they_are reading.limits reading.mode)
      reading.limits.via_v6 reading.mode (sent reading.sender dump) octets

-- the octets of a dump that is read so have no fault, and this is their table
pub record HasTable (reading : Reading) (dump : List ℕ) (table : Routes) : Type 0 where
  pub accepted : HasNoFault reading.limits reading.mode reading.sender dump
  pub is_table : IsTableOf reading.limits reading.mode reading.sender dump table

-- these are the canonical octets of what the view sees of a table, with the fewest pairs, and those
-- of each dump that is read so and has this table
pub record AreNormal (reading : Reading) (view : View) (body : ℕ) (table : Routes)
    (octets : List ℕ) : Type 0 where
  pub says : SaysCanonical reading.limits body (seen_rows view table.rows) octets
  pub of_dump :
      (dump : List ℕ) → HasTable reading dump table → IsNormalOfDump reading view body dump octets

-- these are the octets of what the view sees of a table's rows, and the route octets of each dump
-- that is read so and has this table
pub record AreRoutes (reading : Reading) (view : View) (body : ℕ) (table : Routes)
    (octets : List ℕ) : Type 0 where
  pub text : IsCanonicalText body (seen_rows view table.rows) octets
  pub of_dump : (dump : List ℕ) → HasTable reading dump table
      → AreRouteOctets view reading.limits reading.mode body (sent reading.sender dump) octets

-- what `normalise` makes of a table, with `--routes` or without it
abbrev pub AreOctets : Form → Reading → View → (body : ℕ) → Routes → List ℕ → Type 0
AreOctets forms.Answers = AreNormal
AreOctets forms.Routes = AreRoutes

-- rows have no canonical form: it has more pairs than the limit; as routes they are their own form
abbrev pub HasTooMany : Form → Bounds → List Pair → Type 0
HasTooMany forms.Answers limits rows = HasManyBoxes limits rows
HasTooMany forms.Routes limits rows = ⊥
