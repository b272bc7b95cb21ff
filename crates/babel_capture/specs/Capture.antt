-- A capture, its faults, and what a reader has made of the octets that it was fed. Reading in
-- pieces is this project's own.
use Rattle.std.specs.Prelude.{◌≡◌, ◌≢◌, ℕ, List, [], ◌++◌, length, Option, Some, None, ◌⊎◌}
use Rattle.std.specs.Prelude.{if◌then◌else◌}
use Rattle.babel_capture.specs.declared.fault.Fault.{Fault}
use Rattle.babel_capture.specs.declared.fault.Fault.TheVariants as faults
use Rattle.babel_capture.specs.declared.wanted.Wanted.{Wanted}
use Rattle.babel_capture.specs.Blocks.{BlockAt, IsPartial, AreBlocks, start, context_behind}
use Rattle.babel_capture.specs.Blocks.{names_of, octets_of, passage_of, sightings_of}
use Rattle.babel_capture.specs.Blocks.{sightings_to_end}
use Rattle.babel_capture.specs.Context.{Before}
use Rattle.babel_capture.specs.Counts.{Made}
use Rattle.babel_capture.specs.Gathering.{Gathering, IsGathered, AreTaken, IsRefused}
use Rattle.babel_capture.specs.Passage.{missing_in}
use Rattle.babel_capture.specs.Reading.{Progress, HasStarted, HasTaken, Stops}
use Rattle.babel_capture.specs.Tallies.{senders_listed}
use Rattle.babel_capture.specs.Window.{Extent, moment_up_to}
use Rattle.babel_capture.specs.declared.timing.Timing.{Timing}

-- the octets are a capture, whole blocks from the first to the last, and this is what its packets
-- give
pub record IsRead (limit : Extent) (octets : List ℕ) (gathering : Gathering) : Type 0 where
  pub blocks : List BlockAt
  pub whole : octets ≡ octets_of blocks
  pub are_blocks : AreBlocks (start limit) 0 blocks
  pub started : HasStarted (context_behind (start limit) blocks)
  pub gathered : IsGathered (sightings_to_end blocks) gathering
  pub names : gathering.names ≡ names_of blocks

-- the octets are a capture, and then less than a block, or its end before the last octet: it is cut
-- short at this offset, if there are any
pub record IsReadToCut (limit : Extent) (octets : List ℕ) (gathering : Gathering)
    (cut : Option ℕ) : Type 0 where
  pub read : List ℕ
  pub rest : List ℕ
  pub whole : octets ≡ read ++ rest
  pub is_read : IsRead limit read gathering
  pub partial : IsPartial (context_behind (start limit) is_read.blocks) (length read) rest
  pub where_cut : ((rest ≡ []) × (cut ≡ None)) ⊎ ((rest ≢ []) × (cut ≡ Some (length read)))

-- the octets end before the first block is whole, or within a later one
abbrev pub IsShortBy : Before → ℕ → List ℕ → Fault → Type 0
IsShortBy before at rest fault =
    ((¬ HasStarted before) × (fault ≡ faults.NotCapture))
    ⊎ (HasStarted before × (rest ≢ []) × (fault ≡ faults.CutShort at))

-- whole blocks that are taken, and then less than a block: the fault
pub record EndsShort (limit : Extent) (wanted : Wanted) (octets : List ℕ)
    (fault : Fault) : Type 0 where
  pub blocks : List BlockAt
  pub rest : List ℕ
  pub made : List Made
  pub whole : octets ≡ octets_of blocks ++ rest
  pub are_blocks : AreBlocks (start limit) 0 blocks
  pub taken : AreTaken wanted (sightings_to_end blocks) made
  pub partial : IsPartial (context_behind (start limit) blocks) (length (octets_of blocks)) rest
  pub short : IsShortBy (context_behind (start limit) blocks) (length (octets_of blocks)) rest fault

-- or fragments of a datagram are missing at their end, which is refused
pub record EndsLost (limit : Extent) (wanted : Wanted) (octets : List ℕ)
    (fault : Fault) : Type 0 where
  pub blocks : List BlockAt
  pub rest : List ℕ
  pub made : List Made
  pub whole : octets ≡ octets_of blocks ++ rest
  pub are_blocks : AreBlocks (start limit) 0 blocks
  pub taken : AreTaken wanted (sightings_of blocks) made
  pub partial : IsPartial (context_behind (start limit) blocks) (length (octets_of blocks)) rest
  pub lost : IsRefused wanted (senders_listed wanted.are_listed made)
      (missing_in (passage_of blocks).known.unfinished) fault

-- the fault of octets that are no capture, or none that can be read
abbrev pub CaptureFault : Extent → Wanted → List ℕ → Fault → Type 0
CaptureFault limit wanted octets fault = Stops limit wanted octets fault
    ⊎ EndsShort limit wanted octets fault ⊎ EndsLost limit wanted octets fault

-- ---- in pieces

-- what a reader holds: how much it reads, how far its blocks led, the octets so far
-- of the next one, and the fault if it has one
pub record State : Type 0 where
  pub limit : Extent
  pub progress : Progress
  pub pending : List ℕ
  pub fault : Option Fault

-- the moment up to which packets were read; none where one that was read has no time
abbrev pub moment_read : State → Option ℕ
moment_read state =
    let timing : Timing = state.progress.gathering.report.timing in
    if timing.has_untimed then None
    else moment_up_to state.limit.window state.progress.context.start timing.latest

-- out of memory, or the fault of the octets
abbrev pub HasFailed : State → Fault → List ℕ → Type 0
HasFailed state fault fed = (fault ≡ faults.Memory)
    ⊎ Stops state.limit state.progress.gathering.wanted fed fault

abbrev pub HasReadTo : State → Option Fault → List ℕ → Type 0
HasReadTo state None fed = HasTaken state.limit state.progress state.pending fed
HasReadTo state (Some fault) fed = HasFailed state fault fed

-- the reader stands where these octets, fed since it was made, have led it
abbrev pub HasRead : State → List ℕ → Type 0
HasRead state fed = HasReadTo state state.fault fed
