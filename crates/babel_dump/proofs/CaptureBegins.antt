-- Octets begin with blocks of a capture: of two such beginnings one goes on where the other ends, and so does what is made of them.
use Rattle.std.proofs.Common.{◌≡◌, ℕ, ◌+◌, List, [], ◌∷◌, ◌++◌, length, append-nil, append_assoc, length-append, refl, sym, ap, subst, ◌∙◌, arith, inl, inr, Option}
use Rattle.std.specs.Prelude.{◌⊎◌}
use Rattle.std.proofs.lemmas.List.Concat.{flat_map-append}
use Rattle.babel_capture.proofs.OneCapture.{block_one, content_or_none, made_one, one_block, partial_none}
use Rattle.babel_capture.specs.Blocks.{AreBlocks, BlockAt, IsPartial, context_behind, no_passage, octets_of, passage_after, passage_of, sightings_behind, sightings_in, sightings_of, sightings_to_end, start}
use Rattle.babel_capture.specs.Capture.{IsReadToCut}
use Rattle.babel_capture.specs.Contents.{block_said, context_after}
use Rattle.babel_capture.specs.Context.{Before}
use Rattle.babel_capture.specs.Counts.{Made}
use Rattle.babel_capture.specs.Gathering.{AreMade, Gathering}
use Rattle.babel_capture.specs.Passage.{Passage, Sighting, missing_in}
use Rattle.babel_capture.specs.Times.{time_of}
use Rattle.babel_capture.specs.declared.wanted.Wanted.{Wanted}
use Rattle.babel_dump.proofs.CaptureEnds.{made_in_two, packets_on, uncounted_at_end}
use Rattle.babel_dump.specs.CaptureGiven.{BeginsWith, extent_of}
use Rattle.babel_dump.specs.Packets.{packets_made, timed_found}
use Rattle.babel_dump.specs.declared.capture_reading.CaptureReading.{CaptureReading}
use Rattle.babel_table.specs.Moments.{dump_of}

-- ---- blocks

abbrev GoesOn : {X : Type 0} → (whole front : List X) → Type 0
GoesOn {X} whole front = (more : List X) × (whole ≡ front ++ more)

-- the first block is one
module _ (before : Before) (at : ℕ) (one another : BlockAt) (blocks others : List BlockAt) (rest behind : List ℕ) (are : AreBlocks before at (one ∷ blocks))
    (are_too : AreBlocks before at (another ∷ others)) (same : octets_of (one ∷ blocks) ++ rest ≡ octets_of (another ∷ others) ++ behind) where
  first_octets : (one.octets ≡ another.octets) × (octets_of blocks ++ rest ≡ octets_of others ++ behind)
  first_octets = block_one before at one.octets another.octets (octets_of blocks ++ rest) (octets_of others ++ behind) are.1 are_too.1
      (sym (append_assoc one.octets (octets_of blocks) rest) ∙ same ∙ append_assoc another.octets (octets_of others) behind)

  first_block : another ≡ one
  first_block = one_block another one (are_too.0 ∙ sym are.0) (sym first_octets.0) (ap content_or_none (sym are_too.2 ∙ ap (block_said before at) (sym first_octets.0) ∙ are.2))

  others_are : AreBlocks (context_after before one.content) (at + length one.octets) others
  others_are = subst (λ (b : BlockAt). AreBlocks (context_after before b.content) (at + length b.octets) others) first_block are_too.3

  goes_on : GoesOn blocks others → GoesOn (one ∷ blocks) (another ∷ others)
  goes_on on = (on.0, ap (λ (b : BlockAt). b ∷ blocks) (sym first_block) ∙ ap (λ (bs : List BlockAt). another ∷ bs) on.1)

  goes_back : GoesOn others blocks → GoesOn (another ∷ others) (one ∷ blocks)
  goes_back on = (on.0, ap (λ (b : BlockAt). b ∷ others) first_block ∙ ap (λ (bs : List BlockAt). one ∷ bs) on.1)

either_on : (before : Before) (at : ℕ) (blocks others : List BlockAt) (rest behind : List ℕ) → AreBlocks before at blocks → AreBlocks before at others
    → octets_of blocks ++ rest ≡ octets_of others ++ behind → GoesOn blocks others ⊎ GoesOn others blocks
either_on before at [] others rest behind are are_too same = inr (others, refl)
either_on before at (one ∷ blocks) [] rest behind are are_too same = inl (one ∷ blocks, refl)
either_on before at (one ∷ blocks) (another ∷ others) rest behind are are_too same =
    elim (either_on (context_after before one.content) (at + length one.octets) blocks others rest behind are.3 (others_are before at one another blocks others rest behind are are_too same)
    (first_octets before at one another blocks others rest behind are are_too same).1) [
      | inl on ↦ inl (goes_on before at one another blocks others rest behind are are_too same on)
      | inr on ↦ inr (goes_back before at one another blocks others rest behind are are_too same on)
    ]

-- blocks before less than a block go on where any others end
whole_on : (before : Before) (at : ℕ) (blocks others : List BlockAt) (rest behind : List ℕ) → AreBlocks before at blocks → AreBlocks before at others
    → octets_of blocks ++ rest ≡ octets_of others ++ behind → IsPartial (context_behind before blocks) (at + length (octets_of blocks)) rest → GoesOn blocks others
whole_on before at blocks [] rest behind are are_too same partial = (blocks, refl)
whole_on before at [] (another ∷ others) rest behind are are_too same partial =
    absurd (partial_none before at another.octets (octets_of others ++ behind) are_too.1
    (subst (λ (n : ℕ). IsPartial before n (another.octets ++ (octets_of others ++ behind))) (omega arith)
    (subst (λ (t : List ℕ). IsPartial before (at + 0) t) (same ∙ append_assoc another.octets (octets_of others) behind) partial)))
whole_on before at (one ∷ blocks) (another ∷ others) rest behind are are_too same partial =
    goes_on before at one another blocks others rest behind are are_too same
    (whole_on (context_after before one.content) (at + length one.octets) blocks others rest behind are.3 (others_are before at one another blocks others rest behind are are_too same)
    (first_octets before at one another blocks others rest behind are are_too same).1
    (subst (λ (n : ℕ). IsPartial (context_behind (context_after before one.content) blocks) n rest) (omega (arith, length-append one.octets (octets_of blocks))) partial))

-- ---- what is made of them

sightings_on : (before : Passage) (blocks more : List BlockAt) → GoesOn (sightings_behind before (blocks ++ more)) (sightings_behind before blocks)
sightings_on before [] more = (sightings_behind before more, refl)
sightings_on before (block ∷ blocks) more =
    let here : List Sighting = sightings_in before block.at block.content in
    let after : Passage = passage_after before block.at block.content in
    let on = sightings_on after blocks more in
    (on.0, ap (λ (t : List Sighting). here ++ t) on.1 ∙ sym (append_assoc here (sightings_behind after blocks) on.0))

-- of two that begin one list, one goes on where the other ends
first_and_others : (one other : Sighting) (rest behind : List Sighting) → one ∷ rest ≡ other ∷ behind → (one ≡ other) × (rest ≡ behind)
first_and_others one other rest behind same = (cc, cc)

fronts : (one other back behind : List Sighting) → one ++ back ≡ other ++ behind → GoesOn one other ⊎ GoesOn other one
fronts [] other back behind same = inr (other, refl)
fronts (sighting ∷ one) [] back behind same = inl (sighting ∷ one, refl)
fronts (sighting ∷ one) (another ∷ other) back behind same =
    let both = first_and_others sighting another (one ++ back) (other ++ behind) same in
    elim (fronts one other back behind both.1) [
      | inl on ↦ inl (on.0, ap (λ (s : Sighting). s ∷ one) both.0 ∙ ap (λ (t : List Sighting). another ∷ t) on.1)
      | inr on ↦ inr (on.0, ap (λ (s : Sighting). s ∷ other) (sym both.0) ∙ ap (λ (t : List Sighting). sighting ∷ t) on.1)
    ]

made_first : (wanted : Wanted) (front back : List Sighting) (made : List Made) → AreMade wanted (front ++ back) made → (first : List Made) × GoesOn made first × AreMade wanted front first
made_first wanted front back made are = let parts = made_in_two wanted front back made are in (parts.first, (parts.later, parts.whole), parts.are_first)

made_on : (wanted : Wanted) (front other : List Sighting) (made other_made : List Made) → GoesOn front other → AreMade wanted front made → AreMade wanted other other_made
    → GoesOn made other_made
made_on wanted front other made other_made on are are_too =
    let first = made_first wanted other on.0 made (subst (λ (ss : List Sighting). AreMade wanted ss made) on.1 are) in
    (first.1.0, first.1.1 ∙ ap (λ (ms : List Made). ms ++ first.1.0) (made_one wanted other first.0 other_made first.2 are_too))

-- and so do its packets, end to end
abbrev pub dump_made : List Made → List ℕ
dump_made made = dump_of (packets_made made)

dump_on : (made other : List Made) → GoesOn made other → GoesOn (dump_made made) (dump_made other)
dump_on made other on = (
  dump_made on.0,
  ap dump_made on.1 ∙ ap dump_of (flat_map-append (λ (one : Made). timed_found (time_of one.came) one.what) other on.0)
      ∙ flat_map-append (λ (piece : ℕ × List ℕ). piece.1) (packets_made other) (packets_made on.0),
)

-- ---- octets that begin so

module _ (reading : CaptureReading) (wanted : Wanted) (octets : List ℕ) (made other : List Made) (is : BeginsWith reading wanted octets made) (is_too : BeginsWith reading wanted octets other) where
  -- where the blocks of one go on, what is seen at the packets of the other is the first of it
  front_on : GoesOn is.blocks is_too.blocks → (more : List Sighting) × (is.front ++ is.back ≡ is_too.front ++ more)
  front_on on =
      let seen = sightings_on no_passage is_too.blocks on.0 in (
        is_too.back ++ seen.0,
        sym is.parts ∙ ap sightings_of on.1 ∙ seen.1 ∙ ap (λ (t : List Sighting). t ++ seen.0) is_too.parts ∙ append_assoc is_too.front is_too.back seen.0,
      )

  front_back : GoesOn is_too.blocks is.blocks → (more : List Sighting) × (is.front ++ more ≡ is_too.front ++ is_too.back)
  front_back on =
      let seen = sightings_on no_passage is.blocks on.0 in (
        is.back ++ seen.0,
        sym (append_assoc is.front is.back seen.0) ∙ ap (λ (t : List Sighting). t ++ seen.0) (sym is.parts) ∙ sym seen.1 ∙ ap sightings_of (sym on.1) ∙ is_too.parts,
      )

  either_made : GoesOn is.front is_too.front ⊎ GoesOn is_too.front is.front → GoesOn (dump_made made) (dump_made other) ⊎ GoesOn (dump_made other) (dump_made made)
  either_made (inl on) = inl (dump_on made other (made_on wanted is.front is_too.front made other on is.are_made is_too.are_made))
  either_made (inr on) = inr (dump_on other made (made_on wanted is_too.front is.front other made on is_too.are_made is.are_made))

  pub either_begins : GoesOn (dump_made made) (dump_made other) ⊎ GoesOn (dump_made other) (dump_made made)
  either_begins = elim (either_on (start (extent_of reading)) 0 is.blocks is_too.blocks is.rest is_too.rest is.are_blocks is_too.are_blocks (sym is.whole ∙ is_too.whole)) [
    | inl on ↦ let front = front_on on in either_made (fronts is.front is_too.front is.back front.0 front.1)
    | inr on ↦ let front = front_back on in either_made (fronts is.front is_too.front front.0 is_too.back front.1)
  ]

  -- the one before less than a block goes on where the other ends, if it is made of all
  pub whole_begins : IsPartial (context_behind (start (extent_of reading)) is.blocks) (length (octets_of is.blocks)) is.rest → is.back ≡ [] → GoesOn (dump_made made) (dump_made other)
  whole_begins partial all =
      let on =
      whole_on (start (extent_of reading)) 0 is.blocks is_too.blocks is.rest is_too.rest is.are_blocks is_too.are_blocks (sym is.whole ∙ is_too.whole)
      (subst (λ (n : ℕ). IsPartial (context_behind (start (extent_of reading)) is.blocks) n is.rest) (omega arith) partial) in
      let front = front_on on in
      dump_on made other
      (made_on wanted is.front is_too.front made other
      (front.0, sym (append-nil is.front) ∙ ap (λ (t : List Sighting). is.front ++ t) (sym all) ∙ front.1) is.are_made is_too.are_made)

-- ---- a capture that was read

-- what was read of a capture begins with what is made of its packets, which are all of its packets
pub record ReadBegins (reading : CaptureReading) (wanted : Wanted) (octets : List ℕ) (made : List Made) : Type 0 where
  pub first : List Made
  pub begins : BeginsWith reading wanted octets first
  pub all : begins.back ≡ []
  pub partial : IsPartial (context_behind (start (extent_of reading)) begins.blocks) (length (octets_of begins.blocks)) begins.rest
  pub packets : packets_made made ≡ packets_made first

pub read_begins : (reading : CaptureReading) (wanted : Wanted) (octets : List ℕ) (gathering : Gathering) (cut : Option ℕ) → gathering.wanted ≡ wanted
    → (is : IsReadToCut (extent_of reading) octets gathering cut) → ReadBegins reading wanted octets is.is_read.gathered.made
read_begins reading wanted octets gathering cut same is =
    let read = is.is_read in
    let at_end = missing_in (passage_of read.blocks).known.unfinished in
    let parts = made_in_two wanted (sightings_of read.blocks) at_end read.gathered.made
    (subst (λ (w : Wanted). AreMade w (sightings_to_end read.blocks) read.gathered.made) same read.gathered.taken.are_made) in
    record {
      first = parts.first;
      begins = record {
        blocks = read.blocks;
        rest = is.rest;
        whole = is.whole ∙ ap (λ (t : List ℕ). t ++ is.rest) read.whole;
        are_blocks = read.are_blocks;
        front = sightings_of read.blocks;
        back = [];
        parts = sym (append-nil (sightings_of read.blocks));
        are_made = parts.are_first;
      };
      all = refl;
      partial = subst (λ (t : List ℕ). IsPartial (context_behind (start (extent_of reading)) read.blocks) (length t) is.rest) read.whole is.partial;
      packets = ap packets_made parts.whole ∙ packets_on parts.first parts.later (uncounted_at_end wanted (passage_of read.blocks).known.unfinished parts.later parts.are_later);
    }
