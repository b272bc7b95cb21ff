-- Laws of the definitions: what is read of one sender at one place. They are this project's own.
use Rattle.std.specs.Prelude.{◌≡◌, ◌≢◌, ◌≤◌, ℕ, Bool, false, true, List, [], length, Option}
use Rattle.std.specs.Prelude.{Some}
use Rattle.std.specs.BTreeMap.{is_at}
use Rattle.std.specs.List.{filter}
use Rattle.babel_capture.specs.Capture.{IsReadToCut}
use Rattle.babel_capture.specs.Counts.{Made}
use Rattle.babel_capture.specs.Dumps.{packets_made}
use Rattle.babel_capture.specs.Findings.{Found, everyone, left}
use Rattle.babel_capture.specs.Gathering.{Gathering}
use Rattle.babel_capture.specs.Senders.{made_from}
use Rattle.babel_capture.specs.Tallies.{origin_cmp}
use Rattle.babel_capture.specs.declared.tallies.Origin.{Origin}
use Rattle.babel_capture.specs.declared.wanted.Wanted.{Wanted}
use Rattle.babel_capture.specs.Window.{Extent}

-- the datagrams of each sender at each place, or of this sender at this place; and whether missing
-- fragments are accepted
abbrev pub all_senders : (accepts_missing : Bool) → Wanted
all_senders accepts_missing = record everyone { accepts_missing = accepts_missing }

abbrev pub only : (accepts_missing : Bool) → Origin → Wanted
only accepts_missing origin = record {
  sender = Some origin.sender;
  place = Some origin.place;
  are_listed = true;
  accepts_missing = accepts_missing;
}

-- where they alone are wanted, one sender at most is counted
abbrev pub NamedIsOne : Type 0
NamedIsOne =
    (limit : Extent) (octets : List ℕ) (gathering : Gathering) (cut : Option ℕ)
    (accepts : Bool) (origin : Origin) → IsReadToCut limit octets gathering cut
    → gathering.wanted ≡ only accepts origin
    → length gathering.senders ≤ 1

-- a datagram of this sender at this place is missed
abbrev pub is_missed : Origin → Found → Bool
is_missed origin (left reason (Some missed)) = is_at (origin_cmp origin) missed
is_missed origin what = false

abbrev pub missed_from : Origin → List Made → List Made
missed_from origin made = filter (λ one. is_missed origin one.what) made

-- Where nobody is named, and none of its datagrams is missed, what is found of it is what the same
-- octets give where it alone is wanted, and that is all that they give then.
abbrev pub AloneIsTheSame : Type 0
AloneIsTheSame =
    (limit : Extent) (octets : List ℕ) (all : Gathering) (cut : Option ℕ) (accepts : Bool)
    (origin : Origin) → (read : IsReadToCut limit octets all cut)
    → all.wanted ≡ all_senders accepts
    → missed_from origin read.is_read.gathered.made ≡ []
    → (own : Gathering) × (alone : IsReadToCut limit octets own cut)
    × (own.wanted ≡ only accepts origin) × (made_from origin alone.is_read.gathered.made
    ≡ made_from origin read.is_read.gathered.made)
    × (packets_made alone.is_read.gathered.made
    ≡ packets_made (made_from origin read.is_read.gathered.made))

-- and where one is missed, they give nothing
abbrev pub MissingIsNone : Type 0
MissingIsNone =
    (limit : Extent) (octets : List ℕ) (all own : Gathering) (cut own_cut : Option ℕ)
    (accepts : Bool) (origin : Origin) → (read : IsReadToCut limit octets all cut)
    → all.wanted ≡ all_senders accepts → missed_from origin read.is_read.gathered.made ≢ []
    → IsReadToCut limit octets own own_cut → own.wanted ≡ only accepts origin
    → ⊥
