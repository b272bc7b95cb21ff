-- What is said at once of what was not read of a capture.
use Rattle.std.specs.Prelude.{◌≡◌, List, Option, None, Some, if◌then◌else◌}
use Rattle.std.specs.List.{FoldsTo}
use Rattle.babel_capture.specs.Gathering.{Gathering, name_of}
use Rattle.babel_dump.specs.declared.hint.Hint.{Hint}
use Rattle.babel_dump.specs.declared.remark.NamedRemark.{NamedRemark}
use Rattle.babel_dump.specs.declared.remark.Remark.{Remark}

-- whoever is told before a line, the type and the value of what is said, whoever is told after it
abbrev pub Hears : Type 0 → Type 1
Hears S = S → (T : Type 0) → T → S → Type 0

-- a hint is said, if there is one
abbrev pub SaysHint : {S : Type 0} → Hears S → S → Option Hint → S → Type 0
SaysHint hears old None new = new ≡ old
SaysHint hears old (Some hint) new = hears old Hint hint new

-- it is said what of a sender was not read, with the name of its interface; and then, where it is said
-- with that, what can be done about it
pub record SaysRemark {S : Type 0} (hears : Hears S) (gathering : Gathering) (hint : Option Hint)
    (old : S) (remark : Remark) (new : S) : Type 0 where
  pub line : NamedRemark
  pub is_of : line.remark ≡ remark
  pub name : line.name.now ≡ name_of gathering remark.origin.place.interface
  pub between : S
  pub says : hears old NamedRemark line between
  pub says_hint : SaysHint hears between (if remark.is_hinted then hint else None) new

-- these are said one after another, and nothing else
abbrev pub SaysRemarks : {S : Type 0} → Hears S → Gathering → Option Hint → S → List Remark → S
    → Type 0
SaysRemarks hears gathering hint old remarks new =
    FoldsTo (SaysRemark hears gathering hint) old remarks new
