-- A capture as its blocks, one after another: draft-ietf-opsawg-pcap, 3; draft-ietf-opsawg-pcapng,
-- 3.1, 3.2.
use Rattle.std.specs.Prelude.{◌≡◌, ℕ, ◌+◌, ◌-◌, ◌<◌, ◌≤◌, List, [], ◌∷◌, ◌++◌, length, take, Ok}
use Rattle.std.specs.Prelude.{◌⊎◌, None}
use Rattle.std.specs.List.{flat_map}
use Rattle.std.specs.Result.{IsOkAnd}
use Rattle.babel_capture.specs.declared.layout.Layout.TheVariants as layouts
use Rattle.babel_capture.specs.Contents.{Content, file, section, describes, holds, skips}
use Rattle.babel_capture.specs.Contents.{names_in}
use Rattle.babel_capture.specs.Contents.{nothing, block_said, context_after}
use Rattle.babel_capture.specs.Context.{Before}
use Rattle.babel_capture.specs.Lengths.{header_len, block_len}
use Rattle.babel_capture.specs.Passage.{Passage, Sighting, missing_in, passed_at, sightings_at}
use Rattle.babel_capture.specs.Passage.{sightings_skipped}
use Rattle.babel_capture.specs.Window.{Extent}

-- ---- one block

-- the octets that tell a block's length
abbrev pub HasHeader : Before → List ℕ → Type 0
HasHeader before octets = header_len before.layout ≤ length octets

abbrev pub header_of : Before → List ℕ → List ℕ
header_of before octets = take (header_len before.layout) octets

-- the octets, at this offset, are a block, by the length that it says
pub record IsBlock (before : Before) (at : ℕ) (octets : List ℕ) : Type 0 where
  pub header : HasHeader before octets
  pub len : block_len before at (header_of before octets) ≡ Ok (length octets)

-- octets that begin with a block
pub record BeginsBlock (before : Before) (at : ℕ) (octets block : List ℕ) : Type 0 where
  pub fits : length block ≤ length octets
  pub front : block ≡ take (length block) octets
  pub is_block : IsBlock before at block

-- the octets begin with the end of what is read, whatever comes after it
abbrev pub IsEnd : Before → ℕ → List ℕ → Type 0
IsEnd before at octets =
    HasHeader before octets × (block_len before at (header_of before octets) ≡ Ok 0)

-- less than a block, or what comes after the end, as far as so much is read
abbrev pub IsPartial : Before → ℕ → List ℕ → Type 0
IsPartial before at octets =
    (length octets < header_len before.layout)
    ⊎ (HasHeader before octets × IsOkAnd (block_len before at (header_of before octets))
    (λ len. length octets < len))
    ⊎ (IsEnd before at octets × (length octets ≤ before.limit - at))

-- ---- blocks

-- a block, where its first octet lies, and what it says
pub record BlockAt : Type 0 where
  pub at : ℕ
  pub octets : List ℕ
  pub content : Content

-- before the first block of a capture of which so much is read
abbrev pub start : Extent → Before
start limit = record {
  limit = limit.octets;
  layout = layouts.Start;
  first = 0;
  interfaces = [];
  window = limit.window;
  start = None;
  to_cut = limit.to_cut;
}

-- blocks one after another, the first at this offset, each after what those before it say
abbrev pub AreBlocks : Before → ℕ → List BlockAt → Type 0
AreBlocks before at [] = Unit {0}
AreBlocks before at (block ∷ blocks) =
    (block.at ≡ at) × IsBlock before at block.octets
    × (block_said before at block.octets ≡ Ok block.content)
    × AreBlocks (context_after before block.content) (at + length block.octets) blocks

-- what blocks say about the capture
abbrev pub context_behind : Before → List BlockAt → Before
context_behind before [] = before
context_behind before (block ∷ blocks) = context_behind (context_after before block.content) blocks

abbrev pub octets_of : List BlockAt → List ℕ
octets_of blocks = flat_map (λ block. block.octets) blocks

-- the names of the interfaces that they describe, in order
abbrev pub names_of : List BlockAt → List (List ℕ)
names_of blocks = flat_map (λ block. names_in block.content) blocks

-- ---- packets

-- what is seen at the packet of a block, if it has one, and the passage after it
abbrev pub sightings_in : Passage → ℕ → Content → List Sighting
sightings_in before at (file order interface) = []
sightings_in before at (section order) = []
sightings_in before at (describes interface name) = []
sightings_in before at (holds packet) = sightings_at before at packet
sightings_in before at (skips packet) = sightings_skipped before at packet
sightings_in before at nothing = []

abbrev pub passage_after : Passage → ℕ → Content → Passage
passage_after before at (holds packet) = passed_at before at packet
passage_after before at (skips packet) = passed_at before at packet
passage_after before at content = before

-- what is seen at the packets of blocks, in order, and the passage after them
abbrev pub sightings_behind : Passage → List BlockAt → List Sighting
sightings_behind before [] = []
sightings_behind before (block ∷ blocks) =
    sightings_in before block.at block.content
    ++ sightings_behind (passage_after before block.at block.content) blocks

abbrev pub passage_behind : Passage → List BlockAt → Passage
passage_behind before [] = before
passage_behind before (block ∷ blocks) =
    passage_behind (passage_after before block.at block.content) blocks

abbrev pub no_passage : Passage
no_passage = record { count = 0; clock = 0; known = record { unfinished = []; others = [] } }

abbrev pub sightings_of : List BlockAt → List Sighting
sightings_of blocks = sightings_behind no_passage blocks

abbrev pub passage_of : List BlockAt → Passage
passage_of blocks = passage_behind no_passage blocks

-- and where nothing comes after them, fragments are missing of the datagrams that are known still
abbrev pub sightings_to_end : List BlockAt → List Sighting
sightings_to_end blocks = sightings_of blocks ++ missing_in (passage_of blocks).known.unfinished
