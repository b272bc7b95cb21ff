-- The canonical form of a dump, and why there is none: this project's own. `see` is what is seen of
-- the rows of its table: the rows as they are, or what a view sees of them.
use Rattle.std.specs.Prelude.{◌≡◌, ◌⊎◌, ℕ, ◌≤◌, List, length}
use Rattle.babel_prefix.specs.Address.{Address}
use Rattle.babel_tlv.specs.declared.fault.Fault.{Fault}
use Rattle.babel_tlv.specs.declared.fault.Fault.TheVariants as faults
use Rattle.babel_tlv.specs.declared.mode.Mode.{Mode}
use Rattle.babel_tlv.specs.Pair.{Pair}
use Rattle.babel_tlv.specs.Group.{IsCanonicalText}
use Rattle.babel_table.specs.Bounds.{Bounds, AreBounds}
use Rattle.babel_table.specs.Rows.{Routes}
use Rattle.babel_table.specs.TableOf.{IsTableOf}
use Rattle.babel_table.specs.DumpFault.{DumpFault, HasNoFault}
use Rattle.babel_canon.specs.Sizes.{IsBodySize}
use Rattle.babel_canon.specs.Answers.{AnswerTheSame}
use Rattle.babel_canon.specs.Boxes.{AreBoxes}
use Rattle.babel_canon.specs.Canonical.{HasManyBoxes}
use Rattle.babel_canon.specs.Fewest.{AreFewest}
use Rattle.babel_canon.specs.Headline.{TellsApart, ReadsAgain}
use Rattle.babel_canon.specs.Sent.{Sent}

-- the rows as they are
abbrev pub as_they_are : List Pair → List Pair
as_they_are rows = rows

-- The octets are the canonical form of what is seen of the dump: it has no fault, and they are the
-- text of the boxes of what is seen of its table's answers, which are no more than the limit.
pub record Normalises (see : List Pair → List Pair) (limits : Bounds) (mode : Mode) (body : ℕ)
    (one : Sent) (octets : List ℕ) : Type 0 where
  pub no_fault : HasNoFault limits mode one.sender one.dump
  pub table : Routes
  pub is_table : IsTableOf limits mode one.sender one.dump table
  pub boxes : List Pair
  pub are_boxes : AreBoxes (see table.rows) boxes
  pub few : length boxes ≤ limits.entries
  pub text : IsCanonicalText body boxes octets

-- the dump's own fault; or too many pairs of what is seen of it, where it has none; or out of
-- memory
abbrev pub NormaliseFault : (see : List Pair → List Pair) → Bounds → Mode → Sent → Fault → Type 0
NormaliseFault see limits mode one fault =
    DumpFault limits mode one.sender one.dump fault
    ⊎ ((fault ≡ faults.TooManyPairs) × HasNoFault limits mode one.sender one.dump
    × ((table : Routes) × IsTableOf limits mode one.sender one.dump table
    × HasManyBoxes limits (see table.rows)))
    ⊎ (fault ≡ faults.Memory)

-- the octets are the text of the fewest pairs with what is seen of the answers of the dump's table
pub record SaysFewest (see : List Pair → List Pair) (limits : Bounds) (mode : Mode) (body : ℕ)
    (one : Sent) (octets : List ℕ) : Type 0 where
  pub table : Routes
  pub is_table : IsTableOf limits mode one.sender one.dump table
  pub pairs : List Pair
  pub fewest : AreFewest (see table.rows) pairs
  pub text : IsCanonicalText body pairs octets

-- The headline: canonical octets are equal exactly where the answers are, and, read with any
-- sender, give the answers again and are their own canonical form.
abbrev pub Headline : Type 0
Headline =
    (limits : Bounds) (mode : Mode) (body : ℕ) → AreBounds limits → IsBodySize body
    → (one : Sent) (octets : List ℕ)
    → Normalises as_they_are limits mode body one octets
    → TellsApart AnswerTheSame (Normalises as_they_are limits mode body) limits mode one octets
    × ((any : Address) → ReadsAgain AnswerTheSame (Normalises as_they_are limits mode body)
    (NormaliseFault as_they_are limits mode) limits mode one octets any)
