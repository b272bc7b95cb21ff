-- What is gathered of the packets of a capture.
use Rattle.std.specs.Prelude.{◌≡◌, ◌≤◌, ◌⊎◌, ℕ, List, [], ◌∷◌, length, slice_get}
use Rattle.std.specs.Option.{unwrap_or}
use Rattle.babel_capture.specs.declared.fault.Fault.{Fault}
use Rattle.babel_capture.specs.declared.fault.Fault.TheVariants as faults
use Rattle.babel_capture.specs.declared.wanted.Wanted.{Wanted}
use Rattle.babel_capture.specs.Contents.{Content, file, describes, holds, skips}
use Rattle.babel_capture.specs.Counts.{Counts, Made, counts_of}
use Rattle.babel_capture.specs.Findings.{Found, passed, left, refused, found, Finds}
use Rattle.babel_capture.specs.Lack.{lack_fault}
use Rattle.babel_capture.specs.Passage.{Sighting, sight_in}
use Rattle.babel_capture.specs.Sight.{Sight, fragmented}
use Rattle.babel_capture.specs.Tallies.{CountNeedsMemory, IsOneTooMany, Senders, senders_listed}
use Rattle.babel_capture.specs.Tallies.{tally_of}

-- a packet that is not refused
abbrev pub IsTaken : Found → Type 0
IsTaken (refused lack) = ⊥
IsTaken what = Unit {0}

-- What is made of each packet, and of each datagram of which fragments are missing. No datagram of
-- a sender that is named lacks something.
abbrev pub AreMade : Wanted → List Sighting → List Made → Type 0
AreMade wanted [] made = made ≡ []
AreMade wanted (sighting ∷ later) made =
    (one : Made) × (others : List Made) × (made ≡ one ∷ others) × (one.number ≡ sighting.number)
    × (one.link ≡ sighting.link) × (one.came ≡ sighting.came)
    × Finds wanted sighting.what one.what × IsTaken one.what × AreMade wanted later others

-- What is made of packets that are taken, each of them: at most 65,536 senders are listed, each
-- counted at each place where it occurs.
pub record AreTaken (wanted : Wanted) (sightings : List Sighting) (made : List Made) : Type 0 where
  pub are_made : AreMade wanted sightings made
  pub few : length (senders_listed wanted.are_listed made) ≤ 65536

-- what was gathered so far, and the names of the interfaces, which are empty where they have none
pub record Gathering : Type 0 where
  pub wanted : Wanted
  pub names : List (List ℕ)
  pub report : Counts
  pub senders : Senders

-- the name of the interface with this number
abbrev pub name_of : Gathering → ℕ → List ℕ
name_of gathering interface = unwrap_or (slice_get gathering.names interface) []

-- what these packets give
pub record IsGathered (sightings : List Sighting) (gathering : Gathering) : Type 0 where
  pub made : List Made
  pub taken : AreTaken gathering.wanted sightings made
  pub report : gathering.report ≡ counts_of made
  pub senders : gathering.senders ≡ senders_listed gathering.wanted.are_listed made

-- What is made of the packet in the block at this offset is refused: the datagram of a sender that
-- is named lacks something, or the sender is one more than are kept.
abbrev pub RefusesFound : Senders → ℕ → Found → Fault → Type 0
RefusesFound senders at (refused lack) fault = fault ≡ lack_fault at lack
RefusesFound senders at (found place ends packet has_trailer) fault =
    (fault ≡ faults.TooManySenders at)
    × IsOneTooMany senders (record { place = place; sender = ends.sender })
RefusesFound senders at what fault = ⊥

-- a packet that is seen so is refused
abbrev pub RefusesSight : Wanted → Senders → ℕ → Sight → Fault → Type 0
RefusesSight wanted senders at sight fault =
    (what : Found) × Finds wanted sight what × RefusesFound senders at what fault

-- it is taken, and no packet of it counts for a sender
abbrev pub IsUncounted : Found → Type 0
IsUncounted passed = Unit {0}
IsUncounted (left reason missed) = Unit {0}
IsUncounted what = ⊥

abbrev pub IsLeft : Wanted → Sight → Type 0
IsLeft wanted sight = (what : Found) × Finds wanted sight what × IsUncounted what

abbrev pub AreLeft : Wanted → List Sighting → Type 0
AreLeft wanted [] = Unit {0}
AreLeft wanted (sighting ∷ later) = IsLeft wanted sighting.what × AreLeft wanted later

-- one of these is refused, and those before it do not count
abbrev pub IsRefused : Wanted → Senders → List Sighting → Fault → Type 0
IsRefused wanted senders [] fault = ⊥
IsRefused wanted senders (sighting ∷ later) fault =
    (what : Found) × Finds wanted sighting.what what
    × (RefusesFound senders sighting.at what fault
    ⊎ (IsUncounted what × IsRefused wanted senders later fault))

-- memory is needed to list the sender of the packet, if one was found
abbrev pub FoundNeedsMemory : Senders → Found → Type 0
FoundNeedsMemory senders (found place ends packet has_trailer) =
    CountNeedsMemory (tally_of senders (record { place = place; sender = ends.sender })) packet
    has_trailer
FoundNeedsMemory senders what = ⊥

-- or to keep a fragment, or to join those that came
abbrev pub IsFragment : Sight → Type 0
IsFragment (fragmented fragment) = Unit {0}
IsFragment what = ⊥

abbrev pub SightNeedsMemory : Wanted → Senders → Sight → Type 0
SightNeedsMemory wanted senders sight =
    IsFragment sight ⊎ ((what : Found) × Finds wanted sight what × FoundNeedsMemory senders what)

-- and for a block: it describes an interface, or holds such a packet, or skips a fragment
abbrev pub BlockNeedsMemory : Wanted → Senders → Content → Type 0
BlockNeedsMemory wanted senders (file order interface) = Unit {0}
BlockNeedsMemory wanted senders (describes interface name) = Unit {0}
BlockNeedsMemory wanted senders (holds packet) = SightNeedsMemory wanted senders (sight_in packet)
BlockNeedsMemory wanted senders (skips packet) = IsFragment (sight_in packet)
BlockNeedsMemory wanted senders content = ⊥
