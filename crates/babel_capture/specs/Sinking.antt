-- What a sink is told of the packets of a capture, and what it took: this project's own.
use Rattle.std.specs.Prelude.{◌≡◌, ℕ, List, [], ◌++◌, Option, None, Some}
use Rattle.babel_capture.specs.declared.missed.Missed.{Missed}
use Rattle.babel_capture.specs.declared.reason.Reason.{Reason}
use Rattle.babel_capture.specs.declared.sink.BabelPacket.{BabelPacket}
use Rattle.babel_capture.specs.declared.sink.Record.{Record}
use Rattle.babel_capture.specs.declared.sink.Said.{Said}
use Rattle.babel_capture.specs.declared.sink.Said.TheVariants as saids
use Rattle.babel_capture.specs.declared.wanted.Wanted.{Wanted}
use Rattle.babel_capture.specs.Blocks.{AreBlocks, BlockAt, octets_of, sightings_of, start}
use Rattle.babel_capture.specs.Capture.{IsReadToCut}
use Rattle.babel_capture.specs.Counts.{Made}
use Rattle.babel_capture.specs.Findings.{Found, destination_found, missed_in, octets_found}
use Rattle.babel_capture.specs.Findings.{origin_found, reason_left}
use Rattle.babel_capture.specs.Gathering.{AreTaken, Gathering, IsGathered}
use Rattle.babel_capture.specs.Passage.{Sighting}
use Rattle.babel_capture.specs.Reading.{HasTaken, LeadTo, Progress}
use Rattle.babel_capture.specs.Times.{time_of}
use Rattle.babel_capture.specs.Window.{Extent}

-- the Babel packet that is told, and the datagram that is told to be missed
abbrev pub packet_said : Said → Option BabelPacket
packet_said (saids.Packet packet) = Some packet
packet_said said = None

abbrev pub missed_said : Said → Option Missed
missed_said (saids.Missed missed) = Some missed
missed_said said = None

-- why a datagram is told to be left out, if one is
abbrev pub left_said : Said → Option Reason
left_said (saids.Missed missed) = Some missed.reason
left_said (saids.LeftOut origin reason) = Some reason
left_said said = None

-- it is the Babel packet that was found, if one was
abbrev pub IsPacketOf : Found → Option BabelPacket → Type 0
IsPacketOf what None = (origin_found what ≡ None) × (octets_found what ≡ [])
IsPacketOf what (Some packet) =
    (origin_found what ≡ Some packet.origin) × (octets_found what ≡ packet.octets.now)
    × (destination_found what ≡ Some packet.destination.now)

-- this is told of a packet
pub record IsTold (one : Made) (told : Record) : Type 0 where
  pub number : told.number ≡ one.number
  pub time : told.time ≡ time_of one.came
  pub packet : IsPacketOf one.what (packet_said told.said)
  pub missed : missed_said told.said ≡ missed_in one.what
  pub left : left_said told.said ≡ reason_left one.what

-- a sink took some packets, which are those that are read besides
pub record Sinks {S : Type 0} (has : S → S → List Made → Type 0) (old new : S)
    (Reads : List Made → Type 0) : Type 0 where
  pub more : List Made
  pub took : (start : S) (made : List Made) → has start old made → has start new (made ++ more)
  pub are_read : Reads more

-- with these packets more what is gathered goes from the one to the other
abbrev pub GatherMore : (old new : Gathering) → List Sighting → List Made → Type 0
GatherMore old new sightings more =
    (before : List Sighting) (was : IsGathered before old)
    → (now : IsGathered (before ++ sightings) new) × (now.made ≡ was.made ++ more)

-- and with some of them, the first ones, before one that is refused or needs memory that is not
-- there
abbrev pub GatherSome : (old : Gathering) → List Sighting → List Made → Type 0
GatherSome old sightings more =
    (before : List Sighting) (was : IsGathered before old)
    → (front : List Sighting) × (back : List Sighting) × (sightings ≡ front ++ back)
    × AreTaken old.wanted (before ++ front) (was.made ++ more)

-- and with the blocks of these octets
abbrev pub LeadMore : (old new : Progress) → List ℕ → List Made → Type 0
LeadMore old new octets more =
    (limit : Extent) (read : List ℕ) (was : LeadTo limit read old)
    → (now : LeadTo limit (read ++ octets) new) × (now.gathered.made ≡ was.gathered.made ++ more)

-- and with this piece, before and after which these octets are pending
abbrev pub FeedMore : (old : Progress) (before : List ℕ) (new : Progress) (after : List ℕ)
    → (piece : List ℕ) → List Made → Type 0
FeedMore old before new after piece more =
    (limit : Extent) (fed : List ℕ) (was : HasTaken limit old before fed)
    → (now : HasTaken limit new after (fed ++ piece))
    × (now.leads.gathered.made ≡ was.leads.gathered.made ++ more)

-- and at the end of the octets, where they may be cut short
abbrev pub EndMore : (old : Progress) (before : List ℕ) (new : Gathering) (cut : Option ℕ)
    → List Made → Type 0
EndMore old before new cut more =
    (limit : Extent) (fed : List ℕ) (was : HasTaken limit old before fed)
    → (now : IsReadToCut limit fed new cut)
    × (now.is_read.gathered.made ≡ was.leads.gathered.made ++ more)

-- octets begin with blocks whose first packets are these, and are taken
pub record StopsBehind (limit : Extent) (wanted : Wanted) (octets : List ℕ)
    (made : List Made) : Type 0 where
  pub blocks : List BlockAt
  pub rest : List ℕ
  pub whole : octets ≡ octets_of blocks ++ rest
  pub are_blocks : AreBlocks (start limit) 0 blocks
  pub front : List Sighting
  pub back : List Sighting
  pub parts : sightings_of blocks ≡ front ++ back
  pub taken : AreTaken wanted front made

-- or with some packets of a whole block, up to a fault
abbrev pub StopBlock : (old : Progress) → List ℕ → List Made → Type 0
StopBlock old block more =
    (limit : Extent) (read : List ℕ) (was : LeadTo limit read old) (rest : List ℕ)
    → StopsBehind limit old.gathering.wanted ((read ++ block) ++ rest) (was.gathered.made ++ more)

-- up to a fault of these octets
abbrev pub StopLead : (old : Progress) → List ℕ → List Made → Type 0
StopLead old octets more =
    (limit : Extent) (read : List ℕ) (was : LeadTo limit read old)
    → StopsBehind limit old.gathering.wanted (read ++ octets) (was.gathered.made ++ more)

-- up to a fault of this piece
abbrev pub StopMore : (old : Progress) → (before piece : List ℕ) → List Made → Type 0
StopMore old before piece more =
    (limit : Extent) (fed : List ℕ) (was : HasTaken limit old before fed)
    → StopsBehind limit old.gathering.wanted (fed ++ piece) (was.leads.gathered.made ++ more)
