-- A capture without fragments is read packet by packet.
use Rattle.std.proofs.Common.{◌≡◌, ◌+◌, ℕ, List, [], ◌∷◌, ◌++◌, length, refl, sym, ap, ◌∙◌, arith}
use Rattle.std.proofs.lemmas.List.{append-nil}
use Rattle.babel_capture.specs.Blocks.{BlockAt, passage_after, passage_behind, sightings_behind, sightings_in, sightings_of}
use Rattle.babel_capture.specs.Contents.{Captured, Content, file, section, describes, holds, skips, nothing}
use Rattle.babel_capture.specs.Fragments.{Datagrams, clock_at}
use Rattle.babel_capture.specs.Passage.{Passage, Sighting, known_after, missing_in, seen_at, sight_in, sighting_as}
use Rattle.babel_capture.specs.Sight.{Sight, other, too_short, fragmented, datagram}
use Rattle.babel_capture.specs.Times.{time_in}
use Rattle.babel_capture.specs.Unfragmented.{HasNoFragment, HaveNoFragments, IsUnfragmented, UnfragmentedIsOneByOne, one_by_one, one_by_one_in}

abbrev nothing_known : Datagrams
nothing_known = record { unfinished = []; others = [] }

-- so many packets were passed up to then, and no datagram is known
abbrev passage : ℕ → ℕ → Passage
passage count clock = record { count = count; clock = clock; known = nothing_known }

seen-so : (before : Passage) (at : ℕ) (packet : Captured) (what : Sight) → IsUnfragmented what
    → (seen_at before at packet what ≡ sighting_as (before.count + 1) at packet what ∷ []) × (known_after before at packet.ends_within what ≡ before.known)
seen-so before at packet other is = (refl, refl)
seen-so before at packet too_short is = (refl, refl)
seen-so before at packet (fragmented fragment) is = absurd is
seen-so before at packet (datagram place ends carried) is = (refl, refl)

-- one block
record IsOneByOne (count clock at : ℕ) (content : Content) : Type 0 where
  later : ℕ
  same : sightings_in (passage count clock) at content ≡ one_by_one_in (count + 1) at content
  after : passage_after (passage count clock) at content ≡ passage (count + length (one_by_one_in (count + 1) at content)) later

none : (count clock at : ℕ) (content : Content) → sightings_in (passage count clock) at content ≡ [] → passage_after (passage count clock) at content ≡ passage count clock
    → one_by_one_in (count + 1) at content ≡ [] → IsOneByOne count clock at content
none count clock at content seen after plain =
    let more : count ≡ count + 0 = omega arith in
    record {
      later = clock;
      same = seen ∙ sym plain;
      after = after ∙ ap (λ (n : ℕ). passage n clock) more ∙ ap (λ (s : List Sighting). passage (count + length s) clock) (sym plain);
    }

one : (count clock at : ℕ) (content : Content) → HasNoFragment content → IsOneByOne count clock at content
one count clock at (file order interface) is = none count clock at (file order interface) refl refl refl
one count clock at (section order) is = none count clock at (section order) refl refl refl
one count clock at (describes interface name) is = none count clock at (describes interface name) refl refl refl
one count clock at nothing is = none count clock at nothing refl refl refl
one count clock at (skips packet) is =
    let moved = clock_at clock (time_in packet.moment) in
    let seen = seen-so (passage count moved) at packet (sight_in packet) is in
    record {
      later = moved;
      same = refl;
      after = ap (λ (k : Datagrams). record { count = count + 1; clock = moved; known = k }) seen.1;
    }
one count clock at (holds packet) is =
    let moved = clock_at clock (time_in packet.moment) in
    let seen = seen-so (passage count moved) at packet (sight_in packet) is in
    record {
      later = moved;
      same = seen.0;
      after = ap (λ (k : Datagrams). record { count = count + 1; clock = moved; known = k }) seen.1;
    }

each : (count clock : ℕ) (blocks : List BlockAt) → HaveNoFragments blocks
    → (sightings_behind (passage count clock) blocks ≡ one_by_one count blocks) × ((passage_behind (passage count clock) blocks).known ≡ nothing_known)
each count clock [] are = (refl, refl)
each count clock (block ∷ blocks) are =
    let first = one count clock block.at block.content are.0 in
    let here = one_by_one_in (count + 1) block.at block.content in
    let others = each (count + length here) first.later blocks are.1 in (
      ap (λ (s : List Sighting). s ++ sightings_behind (passage_after (passage count clock) block.at block.content) blocks) first.same
          ∙ ap (λ (p : Passage). here ++ sightings_behind p blocks) first.after ∙ ap (λ (s : List Sighting). here ++ s) others.0,
      ap (λ (p : Passage). (passage_behind p blocks).known) first.after ∙ others.1,
    )

pub unfragmented_is_one_by_one : UnfragmentedIsOneByOne
unfragmented_is_one_by_one blocks are =
    let all = each 0 0 blocks are in
    ap (λ (k : Datagrams). sightings_of blocks ++ missing_in k.unfinished) all.1 ∙ append-nil (sightings_of blocks) ∙ all.0
