-- A law of the definitions: a capture without fragments is read packet by packet. It is this
-- project's own.
use Rattle.std.specs.Prelude.{◌≡◌, ℕ, ◌+◌, List, [], ◌∷◌, ◌++◌, length}
use Rattle.babel_capture.specs.Blocks.{BlockAt, sightings_to_end}
use Rattle.babel_capture.specs.Contents.{Content, holds, skips}
use Rattle.babel_capture.specs.Passage.{Sighting, sight_in, sighting_as, skipped_of}
use Rattle.babel_capture.specs.Sight.{Sight, fragmented}

-- it is no fragment
abbrev pub IsUnfragmented : Sight → Type 0
IsUnfragmented (fragmented fragment) = ⊥
IsUnfragmented what = Unit {0}

abbrev pub HasNoFragment : Content → Type 0
HasNoFragment (holds packet) = IsUnfragmented (sight_in packet)
HasNoFragment (skips packet) = IsUnfragmented (sight_in packet)
HasNoFragment content = Unit {0}

abbrev pub HaveNoFragments : List BlockAt → Type 0
HaveNoFragments [] = Unit {0}
HaveNoFragments (block ∷ blocks) = HasNoFragment block.content × HaveNoFragments blocks

-- each packet, as its frame is seen, after so many
abbrev pub one_by_one_in : ℕ → ℕ → Content → List Sighting
one_by_one_in number at (holds packet) = sighting_as number at packet (sight_in packet) ∷ []
one_by_one_in number at (skips packet) = skipped_of number at packet ∷ []
one_by_one_in number at content = []

abbrev pub one_by_one : ℕ → List BlockAt → List Sighting
one_by_one count [] = []
one_by_one count (block ∷ blocks) =
    let here : List Sighting = one_by_one_in (count + 1) block.at block.content in
    here ++ one_by_one (count + length here) blocks

abbrev pub UnfragmentedIsOneByOne : Type 0
UnfragmentedIsOneByOne =
    (blocks : List BlockAt) → HaveNoFragments blocks → sightings_to_end blocks
    ≡ one_by_one 0 blocks
