-- How far a capture was read, block by block.
use Rattle.std.specs.Prelude.{◌≡◌, ◌≢◌, ◌≤◌, ◌<◌, ◌-◌, ℕ, List, [], ◌++◌, length}
use Rattle.std.specs.Prelude.{Ok, Err, ◌+◌, ◌⊎◌}
use Rattle.babel_capture.specs.declared.fault.Fault.{Fault}
use Rattle.babel_capture.specs.declared.fault.Fault.TheVariants as faults
use Rattle.babel_capture.specs.declared.layout.Layout.{Layout}
use Rattle.babel_capture.specs.declared.layout.Layout.TheVariants as layouts
use Rattle.babel_capture.specs.declared.wanted.Wanted.{Wanted}
use Rattle.babel_capture.specs.Blocks.{BlockAt, HasHeader, IsEnd, IsPartial, header_of, BeginsBlock}
use Rattle.babel_capture.specs.Blocks.{AreBlocks, start, context_behind, names_of, octets_of}
use Rattle.babel_capture.specs.Blocks.{passage_of, sightings_in, sightings_of}
use Rattle.babel_capture.specs.Contents.{Content, block_said}
use Rattle.babel_capture.specs.Context.{Before}
use Rattle.babel_capture.specs.Counts.{Made}
use Rattle.babel_capture.specs.Fragments.{Datagrams}
use Rattle.babel_capture.specs.Gathering.{AreTaken, BlockNeedsMemory, Gathering, IsGathered}
use Rattle.babel_capture.specs.Gathering.{IsRefused}
use Rattle.babel_capture.specs.Lengths.{block_len}
use Rattle.babel_capture.specs.Passage.{Passage}
use Rattle.babel_capture.specs.Tallies.{Senders, senders_listed}
use Rattle.babel_capture.specs.Window.{Extent}

-- what the blocks so far say of the capture, what was gathered of their packets, the latest time of
-- those, 0 before any, and the datagrams that are known by their fragments; where the next block
-- begins, and how many octets after the end of what is read were passed over
pub record Progress : Type 0 where
  pub context : Before
  pub gathering : Gathering
  pub clock : ℕ
  pub known : Datagrams
  pub at : ℕ
  pub passed : ℕ

-- how far the packets were passed
abbrev pub passage_in : Progress → Passage
passage_in progress = record {
  count = progress.gathering.report.packets;
  clock = progress.clock;
  known = progress.known;
}

-- the octets are blocks, and this is how far they lead
pub record LeadTo (limit : Extent) (octets : List ℕ) (progress : Progress) : Type 0 where
  pub blocks : List BlockAt
  pub whole : octets ≡ octets_of blocks
  pub are_blocks : AreBlocks (start limit) 0 blocks
  pub place : progress.at ≡ length octets
  pub context : progress.context ≡ context_behind (start limit) blocks
  pub gathered : IsGathered (sightings_of blocks) progress.gathering
  pub names : progress.gathering.names ≡ names_of blocks
  pub passage : passage_in progress ≡ passage_of blocks

-- a whole block that can't be read, or whose packet is refused
abbrev pub BlockFails : Wanted → Senders → Passage → Before → ℕ → List ℕ → Fault → Type 0
BlockFails wanted senders passage before at block fault =
    (block_said before at block ≡ Err fault)
    ⊎ ((content : Content) × (block_said before at block ≡ Ok content)
    × IsRefused wanted senders (sightings_in passage at content) fault)

-- octets of which the header tells that they begin with no block; or that go on after the end of
-- what is read, past the limit
abbrev pub HeaderFails : Before → ℕ → List ℕ → Fault → Type 0
HeaderFails before at octets fault =
    (HasHeader before octets × (block_len before at (header_of before octets) ≡ Err fault))
    ⊎ (IsEnd before at octets × (before.limit - at < length octets) × (fault ≡ faults.TooLong at))

-- octets that begin with no block that is taken: their header tells, or the whole block
abbrev pub StopsAt : Wanted → Senders → Passage → Before → ℕ → List ℕ → Fault → Type 0
StopsAt wanted senders passage before at octets fault =
    HeaderFails before at octets fault
    ⊎ ((block : List ℕ) × BeginsBlock before at octets block
    × BlockFails wanted senders passage before at block fault)

-- the octets are blocks that are taken, and then octets that are not: their fault
pub record Stops (limit : Extent) (wanted : Wanted) (octets : List ℕ) (fault : Fault) : Type 0 where
  pub blocks : List BlockAt
  pub rest : List ℕ
  pub made : List Made
  pub whole : octets ≡ octets_of blocks ++ rest
  pub are_blocks : AreBlocks (start limit) 0 blocks
  pub taken : AreTaken wanted (sightings_of blocks) made
  pub stops : StopsAt wanted (senders_listed wanted.are_listed made) (passage_of blocks)
      (context_behind (start limit) blocks) (length (octets_of blocks)) rest fault

-- octets for which memory is needed: what is left of them is less than a block, and is kept; or the
-- block that they begin with needs it
abbrev pub NeedsMemoryAt : Wanted → Senders → Before → ℕ → List ℕ → Type 0
NeedsMemoryAt wanted senders before at octets =
    (IsPartial before at octets × (octets ≢ []))
    ⊎ ((block : List ℕ) × (content : Content) × BeginsBlock before at octets block
    × (block_said before at block ≡ Ok content) × BlockNeedsMemory wanted senders content)

-- memory is needed for a piece that comes after these octets: for a block that begins in it, where
-- those before are taken
pub record NeedsMemory (limit : Extent) (wanted : Wanted) (fed piece : List ℕ) : Type 0 where
  pub blocks : List BlockAt
  pub rest : List ℕ
  pub made : List Made
  pub whole : fed ++ piece ≡ octets_of blocks ++ rest
  pub are_blocks : AreBlocks (start limit) 0 blocks
  pub taken : AreTaken wanted (sightings_of blocks) made
  pub in_piece : length fed ≤ length (octets_of blocks)
  pub needs : NeedsMemoryAt wanted (senders_listed wanted.are_listed made)
      (context_behind (start limit) blocks) (length (octets_of blocks)) rest

-- the first block was read, so that the octets are a capture
abbrev pub IsKnown : Layout → Type 0
IsKnown layouts.Start = ⊥
IsKnown (layouts.Pcap order) = Unit {0}
IsKnown (layouts.Section order) = Unit {0}

abbrev pub HasStarted : Before → Type 0
HasStarted before = IsKnown before.layout

-- ---- in pieces

-- Octets that are less than a block are pending; after the end of what is read as many as tell it,
-- and the others were passed over.
abbrev pub IsPending : Progress → (rest pending : List ℕ) → Type 0
IsPending progress rest pending =
    ((pending ≡ rest) ⊎ (IsEnd progress.context progress.at rest
    × IsEnd progress.context progress.at pending))
    × (length rest ≡ length pending + progress.passed)

-- the octets are blocks that lead so far, and less than another
pub record HasTaken (limit : Extent) (progress : Progress) (pending fed : List ℕ) : Type 0 where
  pub read : List ℕ
  pub rest : List ℕ
  pub whole : fed ≡ read ++ rest
  pub leads : LeadTo limit read progress
  pub partial : IsPartial progress.context progress.at rest
  pub kept : IsPending progress rest pending

-- after a piece memory is wanted; or the octets so far have this fault, with those of the piece
abbrev pub PieceFails : Progress → (pending piece : List ℕ) → Fault → Type 0
PieceFails progress pending piece fault = (fault ≡ faults.Memory)
    ⊎ ((limit : Extent) (fed : List ℕ) → HasTaken limit progress pending fed
    → Stops limit progress.gathering.wanted (fed ++ piece) fault)

-- memory is needed for a piece
abbrev pub PieceNeedsMemory : Progress → (pending piece : List ℕ) → Type 0
PieceNeedsMemory progress pending piece =
    (limit : Extent) (fed : List ℕ) → HasTaken limit progress pending fed
    → NeedsMemory limit progress.gathering.wanted fed piece
