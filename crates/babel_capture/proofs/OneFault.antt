-- Octets have one outcome or one fault: where the blocks of two readings are the same so far, the next block is taken in both, or
-- fails in both, or is not whole in both.
use Rattle.std.proofs.Common.{Bool, true, false, ◌≡◌, ◌≢◌, ℕ, ◌+◌, ◌≤◌, ◌<◌, List, [], ◌∷◌, ◌++◌, length, drop, refl, sym, ap, subst, ◌∙◌, append_assoc, inl, inr, arith, length-append}
use Rattle.std.specs.Prelude.{◌⊎◌, Option, Some, None, Result, Ok, Err, fold}
use Rattle.std.specs.Result.{IsOkAnd}
use Rattle.std.proofs.lemmas.List.{append-nil, take-append-drop, take-append-le}
use Rattle.babel_capture.specs.declared.fault.Fault.{Fault}
use Rattle.babel_capture.specs.declared.fault.Fault.TheVariants as faults
use Rattle.babel_capture.specs.declared.tallies.Origin.{Origin}
use Rattle.babel_capture.specs.declared.wanted.Wanted.{Wanted}
use Rattle.babel_capture.specs.Blocks.{AreBlocks, BeginsBlock, BlockAt, IsBlock, IsPartial, context_behind, header_of, no_passage, octets_of, passage_after, passage_behind, sightings_behind, sightings_in, sightings_of}
use Rattle.babel_capture.specs.Blocks.{passage_of, sightings_to_end, start}
use Rattle.babel_capture.specs.Capture.{CaptureFault, EndsLost, EndsShort, IsReadToCut, IsShortBy}
use Rattle.babel_capture.specs.Contents.{Content, block_said, context_after}
use Rattle.babel_capture.specs.Context.{Before}
use Rattle.babel_capture.specs.Counts.{Made}
use Rattle.babel_capture.specs.Findings.{Found, found, left, passed, refused, untold}
use Rattle.babel_capture.specs.Gathering.{AreMade, AreTaken, Gathering, IsRefused, IsTaken, IsUncounted, RefusesFound}
use Rattle.babel_capture.specs.Lengths.{block_len, header_len}
use Rattle.babel_capture.specs.OneFault.{CutIsTheFault, FaultIsOne, ReadHasNoFault}
use Rattle.babel_capture.specs.Passage.{Passage, Sighting, missing_in}
use Rattle.babel_capture.specs.Reading.{BlockFails, HeaderFails, Stops, StopsAt}
use Rattle.babel_capture.specs.Tallies.{Senders, listed_with, origin_cmp, senders_listed, senders_with, tallied}
use Rattle.babel_capture.specs.Times.{time_of}
use Rattle.babel_capture.proofs.GatherLaws.{uncounted-listed}
use Rattle.babel_capture.proofs.Entries.{insert-longer, insert-new}
use Rattle.babel_capture.proofs.OneCapture.{block_one, blocks_one, content_or_none, finds_one, len_or_none, made_one, one_block, partial_none, some_header, uncut}
use Rattle.babel_capture.specs.Window.{Extent}

-- ---- senders

-- the senders with those of some packets more, where they are listed
abbrev more : (listed : Bool) → Senders → List Made → Senders
more listed senders made = fold (λ (s : Senders) (one : Made). listed_with listed s (time_of one.came) one.what) senders made

with-longer : (listed : Bool) (senders : Senders) (time : Option ℕ) (what : Found) → length senders ≤ length (listed_with listed senders time what)
with-longer false senders time what = omega arith
with-longer true senders time passed = omega arith
with-longer true senders time untold = omega arith
with-longer true senders time (left reason missed) = omega arith
with-longer true senders time (refused lack) = omega arith
with-longer true senders time (found place ends packet has_trailer) = insert-longer origin_cmp (record { place = place; sender = ends.sender }) _ senders

more-longer : (listed : Bool) (senders : Senders) (made : List Made) → length senders ≤ length (more listed senders made)
more-longer listed senders [] = omega arith
more-longer listed senders (one ∷ made) =
    (let here = with-longer listed senders (time_of one.came) one.what in let later = more-longer listed (listed_with listed senders (time_of one.came) one.what) made in omega arith)

more-append : (listed : Bool) (senders : Senders) (front back : List Made) → more listed senders (front ++ back) ≡ more listed (more listed senders front) back
more-append listed senders [] back = refl
more-append listed senders (one ∷ front) back = more-append listed (listed_with listed senders (time_of one.came) one.what) front back

more-none : (senders : Senders) (made : List Made) → more false senders made ≡ senders
more-none senders [] = refl
more-none senders (one ∷ made) = more-none senders made

listed-more : (listed : Bool) (made : List Made) → senders_listed listed made ≡ more listed [] made
listed-more true made = refl
listed-more false made = sym (more-none [] made)

-- ---- packets in two parts

record InTwo (wanted : Wanted) (front back : List Sighting) (made : List Made) : Type 0 where
  first : List Made
  later : List Made
  whole : made ≡ first ++ later
  are_first : AreMade wanted front first
  are_later : AreMade wanted back later

in_two : (wanted : Wanted) (front back : List Sighting) (made : List Made) → AreMade wanted (front ++ back) made → InTwo wanted front back made
in_two wanted [] back made are = record { first = []; later = made; whole = refl; are_first = refl; are_later = are }
in_two wanted (sighting ∷ front) back made (one, others, is, number, link, came, finds, takes, are) =
    let parts = in_two wanted front back others are in
    record {
      first = one ∷ parts.first;
      later = parts.later;
      whole = is ∙ ap (λ (ms : List Made). one ∷ ms) parts.whole;
      are_first = (one, parts.first, refl, number, link, came, finds, takes, parts.are_first);
      are_later = parts.are_later;
    }

-- the first ones are taken where all are
front_taken : (wanted : Wanted) (front back : List Sighting) (made : List Made) → AreTaken wanted (front ++ back) made → (first : List Made) × AreTaken wanted front first
front_taken wanted front back made taken =
    let parts = in_two wanted front back made taken.are_made in
    let listed = wanted.are_listed in
    let longer = more-longer listed (more listed [] parts.first) parts.later in
    let all : senders_listed listed made ≡ more listed (more listed [] parts.first) parts.later =
    listed-more listed made ∙ ap (more listed []) parts.whole ∙ more-append listed [] parts.first parts.later in
    let few : length (more listed (more listed [] parts.first) parts.later) ≤ 65536 = subst (λ (s : Senders). length s ≤ 65536) all taken.few in
    let fewer : length (more listed [] parts.first) ≤ 65536 = omega (arith, longer, few) in
    (parts.first, record { are_made = parts.are_first; few = subst (λ (s : Senders). length s ≤ 65536) (sym (listed-more listed parts.first)) fewer })

-- ---- blocks that are taken, behind others

record AreRead (wanted : Wanted) (senders : Senders) (count : Passage) (before : Before) (at : ℕ) (octets : List ℕ) (blocks : List BlockAt) (rest : List ℕ)
    (made : List Made) : Type 0 where
  whole : octets ≡ octets_of blocks ++ rest
  are_blocks : AreBlocks before at blocks
  are_made : AreMade wanted (sightings_behind count blocks) made
  few : length (more wanted.are_listed senders made) ≤ 65536
  none : wanted.are_listed ≡ false → senders ≡ []

-- the packets of the first block, and those of the others
module _ (wanted : Wanted) (senders : Senders) (count : Passage) (before : Before) (at : ℕ) (octets : List ℕ) (block : BlockAt) (blocks : List BlockAt) (rest : List ℕ)
    (made : List Made) (are : AreRead wanted senders count before at octets (block ∷ blocks) rest made) where
  abbrev here : List Sighting
  here = sightings_in count block.at block.content

  parts : InTwo wanted here (sightings_behind (passage_after count block.at block.content) blocks) made
  parts = in_two wanted here (sightings_behind (passage_after count block.at block.content) blocks) made are.are_made

  behind : AreRead wanted (more wanted.are_listed senders parts.first) (passage_after count block.at block.content) (context_after before block.content) (at + length block.octets) (octets_of blocks ++ rest) blocks rest parts.later
  behind = record {
    whole = refl;
    are_blocks = are.are_blocks.3;
    are_made = parts.are_later;
    few = subst (λ (s : Senders). length s ≤ 65536) (ap (more wanted.are_listed senders) parts.whole ∙ more-append wanted.are_listed senders parts.first parts.later) are.few;
    none = λ not. ap (λ (b : Bool). more b senders parts.first) not ∙ more-none senders parts.first ∙ are.none not;
  }

-- a packet that is refused is not taken
not_refused : (listed : Bool) (senders : Senders) (at : ℕ) (fault : Fault) (one : Made) (others : List Made) (what : Found) → one.what ≡ what → IsTaken what → RefusesFound senders at what fault
    → length (more listed senders (one ∷ others)) ≤ 65536 → (listed ≡ false → senders ≡ []) → ⊥
not_refused listed senders at fault one others passed is takes refuses few none = refuses
not_refused listed senders at fault one others untold is takes refuses few none = refuses
not_refused listed senders at fault one others (left reason missed) is takes refuses few none = refuses
not_refused listed senders at fault one others (refused lack) is takes refuses few none = takes
not_refused false senders at fault one others (found place ends octets has_trailer) is takes (told, many) few none = (let full = many.0 in omega (arith, ap length (none refl)))
not_refused true senders at fault one others (found place ends octets has_trailer) is takes (told, many) few none =
    let origin : Origin = record { place = place; sender = ends.sender } in
    let listed = tallied senders origin (time_of one.came) octets has_trailer in
    let all : more true senders (one ∷ others) ≡ more true listed others = ap (λ (w : Found). more true (senders_with senders (time_of one.came) w) others) is in
    let new : length listed ≡ length senders + 1 = insert-new origin_cmp origin _ senders many.1 in
    let longer = more-longer true listed others in
    let full = many.0 in
    omega (arith, ap length all)

-- and neither is one that does not count refused
not_both : (senders : Senders) (at : ℕ) (what : Found) (fault : Fault) → RefusesFound senders at what fault → IsUncounted what → ⊥
not_both senders at passed fault refuses uncounted = refuses
not_both senders at (left reason missed) fault refuses uncounted = refuses
not_both senders at untold fault refuses uncounted = uncounted
not_both senders at (refused lack) fault refuses uncounted = uncounted
not_both senders at (found place ends packet has_trailer) fault refuses uncounted = uncounted

refused_none : (wanted : Wanted) (senders : Senders) (sightings : List Sighting) (fault : Fault) (later : List Sighting) (made : List Made) → IsRefused wanted senders sightings fault
    → AreMade wanted (sightings ++ later) made → length (more wanted.are_listed senders made) ≤ 65536 → (wanted.are_listed ≡ false → senders ≡ []) → ⊥
refused_none wanted senders [] fault later made refuses are few none = refuses
refused_none wanted senders (sighting ∷ rest) fault later made (what, finds, inl refuses) (one, others, is, numbered, link, came, finds_too, takes, are) few none =
    let same = finds_one wanted sighting.what one.what what finds_too finds in
    not_refused wanted.are_listed senders sighting.at fault one others what same (subst IsTaken same takes) refuses (subst (λ (m : List Made). length (more wanted.are_listed senders m) ≤ 65536) is few) none
refused_none wanted senders (sighting ∷ rest) fault later made (what, finds, inr (uncounted, refusal)) (one, others, is, numbered, link, came, finds_too, takes, are) few none =
    let same = finds_one wanted sighting.what one.what what finds_too finds in
    let on : listed_with wanted.are_listed senders (time_of one.came) one.what ≡ senders =
    ap (listed_with wanted.are_listed senders (time_of one.came)) same ∙ uncounted-listed wanted.are_listed senders (time_of one.came) what uncounted in
    refused_none wanted senders rest fault later others refusal are
    (subst (λ (t : Senders). length (more wanted.are_listed t others) ≤ 65536) on (subst (λ (m : List Made). length (more wanted.are_listed senders m) ≤ 65536) is few)) none

same_refusal : (senders : Senders) (at : ℕ) (what : Found) (one other : Fault) → RefusesFound senders at what one → RefusesFound senders at what other → one ≡ other
same_refusal senders at passed one other refuses again = absurd refuses
same_refusal senders at untold one other refuses again = absurd refuses
same_refusal senders at (left reason missed) one other refuses again = absurd refuses
same_refusal senders at (refused lack) one other refuses again = refuses ∙ sym again
same_refusal senders at (found place ends octets has_trailer) one other refuses again = refuses.0 ∙ sym again.0

module _ (wanted : Wanted) (senders : Senders) (count : Passage) (before : Before) (at : ℕ) where
  -- octets that stop begin with no block that is taken
  stop_taken : (octets : List ℕ) (fault : Fault) (block : BlockAt) (blocks : List BlockAt) (rest : List ℕ) (made : List Made) → StopsAt wanted senders count before at octets fault
      → AreRead wanted senders count before at octets (block ∷ blocks) rest made → ⊥
  stop_taken octets fault block blocks rest made stops are = by stops
    where
      behind_it : List ℕ
      behind_it = octets_of blocks ++ rest

      whole : octets ≡ block.octets ++ behind_it
      whole = are.whole ∙ append_assoc block.octets (octets_of blocks) rest

      is_block : IsBlock before at block.octets
      is_block = are.are_blocks.1

      front : header_of before octets ≡ header_of before block.octets
      front = ap (header_of before) whole ∙ take-append-le (header_len before.layout) block.octets behind_it is_block.header

      same_block : (other : List ℕ) → BeginsBlock before at octets other → other ≡ block.octets
      same_block other begins = (block_one before at other block.octets (drop (length other) octets) behind_it begins.is_block is_block
          (ap (λ (t : List ℕ). t ++ drop (length other) octets) begins.front ∙ take-append-drop (length other) octets ∙ whole)).0

      by : StopsAt wanted senders count before at octets fault → ⊥
      by (inl (inr (end, past, told))) =
          (let both : Ok (length block.octets) ≡ Ok 0 = sym is_block.len ∙ ap (block_len before at) (sym front) ∙ end.1 in
          let none : length block.octets ≡ 0 = ap len_or_none both in omega (arith, none, is_block.header, some_header before.layout))
      by (inl (inl (header, refuses))) = (let both : Err fault ≡ Ok (length block.octets) = sym refuses ∙ ap (block_len before at) front ∙ is_block.len in absurd cc)
      by (inr (other, begins, inl failed)) =
          (let both : Err fault ≡ Ok block.content = sym failed ∙ ap (block_said before at) (same_block other begins) ∙ are.are_blocks.2 in absurd cc)
      by (inr (other, begins, inr (content, said, refuses))) =
          let content_is : content ≡ block.content = ap content_or_none (sym said ∙ ap (block_said before at) (same_block other begins) ∙ are.are_blocks.2) in
          let here : at ≡ block.at = sym are.are_blocks.0 in
          refused_none wanted senders (sightings_in count block.at block.content) fault (sightings_behind (passage_after count block.at block.content) blocks) made
          (subst (λ (n : ℕ). IsRefused wanted senders (sightings_in count n block.content) fault) here
          (subst (λ (c : Content). IsRefused wanted senders (sightings_in count at c) fault) content_is refuses))
          are.are_made are.few are.none

  -- they stop by one fault
  refused_one : (sightings : List Sighting) (one other : Fault) → IsRefused wanted senders sightings one → IsRefused wanted senders sightings other → one ≡ other
  refused_one [] one other refuses again = absurd refuses
  refused_one (sighting ∷ rest) one other (what, finds, is) (again, finds_again, is_again) =
      let same = finds_one wanted sighting.what again what finds_again finds in
      by (refused_one rest one other) is (subst (λ (w : Found). RefusesFound senders sighting.at w other ⊎ (IsUncounted w × IsRefused wanted senders rest other)) same is_again)
    where
      by : (IsRefused wanted senders rest one → IsRefused wanted senders rest other → one ≡ other) → RefusesFound senders sighting.at what one ⊎ (IsUncounted what × IsRefused wanted senders rest one)
          → RefusesFound senders sighting.at what other ⊎ (IsUncounted what × IsRefused wanted senders rest other) → one ≡ other
      by later (inl refuses) (inl refuses_again) = same_refusal senders sighting.at what one other refuses refuses_again
      by later (inl refuses) (inr (uncounted, refusal)) = absurd (not_both senders sighting.at what one refuses uncounted)
      by later (inr (uncounted, refusal)) (inl refuses_again) = absurd (not_both senders sighting.at what other refuses_again uncounted)
      by later (inr (uncounted, refusal)) (inr (uncounted_too, refusal_again)) = later refusal refusal_again

  fails_one : (block : List ℕ) (one other : Fault) → BlockFails wanted senders count before at block one → BlockFails wanted senders count before at block other → one ≡ other
  fails_one block one other (inl failed) (inl failed_too) = (let both : Err one ≡ Err other = sym failed ∙ failed_too in cc)
  fails_one block one other (inl failed) (inr (content, said, refuses)) = (let both : Err one ≡ Ok content = sym failed ∙ said in absurd cc)
  fails_one block one other (inr (content, said, refuses)) (inl failed) = (let both : Err other ≡ Ok content = sym failed ∙ said in absurd cc)
  fails_one block one other (inr (content, said, refuses)) (inr (again, said_too, refused_too)) =
      let same : again ≡ content = ap content_or_none (sym said_too ∙ said) in
      refused_one (sightings_in count at content) one other refuses (subst (λ (c : Content). IsRefused wanted senders (sightings_in count at c) other) same refused_too)

  header_begins : (octets block : List ℕ) (fault : Fault) → BeginsBlock before at octets block → HeaderFails before at octets fault → ⊥
  header_begins octets block fault begins (inr (end, past, told)) =
      let rest = drop (length block) octets in
      let whole : block ++ rest ≡ octets = ap (λ (t : List ℕ). t ++ rest) begins.front ∙ take-append-drop (length block) octets in
      let front : header_of before octets ≡ header_of before block =
      ap (header_of before) (sym whole) ∙ take-append-le (header_len before.layout) block rest begins.is_block.header in
      let none : length block ≡ 0 = ap len_or_none (sym begins.is_block.len ∙ ap (block_len before at) (sym front) ∙ end.1) in
      omega (arith, none, begins.is_block.header, some_header before.layout)
  header_begins octets block fault begins (inl (header, refuses)) =
      let rest = drop (length block) octets in
      let whole : block ++ rest ≡ octets = ap (λ (t : List ℕ). t ++ rest) begins.front ∙ take-append-drop (length block) octets in
      let front : header_of before octets ≡ header_of before block =
      ap (header_of before) (sym whole) ∙ take-append-le (header_len before.layout) block rest begins.is_block.header in
      let both : Err fault ≡ Ok (length block) = sym refuses ∙ ap (block_len before at) front ∙ begins.is_block.len in
      absurd cc

  begin_one : (octets block other : List ℕ) → BeginsBlock before at octets block → BeginsBlock before at octets other → other ≡ block
  begin_one octets block other begins begins_too =
      (block_one before at other block (drop (length other) octets) (drop (length block) octets) begins_too.is_block begins.is_block
      (ap (λ (t : List ℕ). t ++ drop (length other) octets) begins_too.front ∙ take-append-drop (length other) octets
      ∙ sym (ap (λ (t : List ℕ). t ++ drop (length block) octets) begins.front ∙ take-append-drop (length block) octets))).0

  header_one : (octets : List ℕ) (one other : Fault) → HeaderFails before at octets one → HeaderFails before at octets other → one ≡ other
  header_one octets one other (inl (header, refuses)) (inl (header_too, refused_too)) = (let both : Err one ≡ Err other = sym refuses ∙ refused_too in cc)
  header_one octets one other (inl (header, refuses)) (inr (end, past, told)) = (let both : Err one ≡ Ok 0 = sym refuses ∙ end.1 in absurd cc)
  header_one octets one other (inr (end, past, told)) (inl (header, refuses)) = (let both : Err other ≡ Ok 0 = sym refuses ∙ end.1 in absurd cc)
  header_one octets one other (inr (end, past, told)) (inr (end_too, past_too, told_too)) = told ∙ sym told_too

  stop_one : (octets : List ℕ) (one other : Fault) → StopsAt wanted senders count before at octets one → StopsAt wanted senders count before at octets other → one ≡ other
  stop_one octets one other (inl fails) (inl fails_too) = header_one octets one other fails fails_too
  stop_one octets one other (inl header) (inr (block, begins, fails)) = absurd (header_begins octets block one begins header)
  stop_one octets one other (inr (block, begins, fails)) (inl header) = absurd (header_begins octets block other begins header)
  stop_one octets one other (inr (block, begins, fails)) (inr (again, begins_too, fails_too)) =
      fails_one block one other fails (subst (λ (t : List ℕ). BlockFails wanted senders count before at t other) (begin_one octets block again begins begins_too) fails_too)

  -- octets that stop are not less than a block
  stop_partial : (octets : List ℕ) (fault : Fault) → StopsAt wanted senders count before at octets fault → IsPartial before at octets → ⊥
  stop_partial octets fault (inl (inr (end, past, told))) (inl short) = omega (arith, end.0, short)
  stop_partial octets fault (inl (inr (end, past, told))) (inr (inl (header, less))) =
      (let below : length octets < 0 = subst (λ (r : Result ℕ Fault). IsOkAnd r (λ len. length octets < len)) end.1 less in omega (arith, below))
  stop_partial octets fault (inl (inr (end, past, told))) (inr (inr (end_too, few))) = omega (arith, past, few)
  stop_partial octets fault (inl (inl (header, refuses))) (inl short) = omega (arith, header, short)
  stop_partial octets fault (inl (inl (header, refuses))) (inr (inl (header_too, less))) =
      subst (λ (r : Result ℕ Fault). IsOkAnd r (λ len. length octets < len)) refuses less
  stop_partial octets fault (inl (inl (header, refuses))) (inr (inr ((header_too, ends), few))) = (let both : Err fault ≡ Ok 0 = sym refuses ∙ ends in cc)
  stop_partial octets fault (inr (block, begins, fails)) partial =
      let rest = drop (length block) octets in
      let whole : octets ≡ block ++ rest = sym (ap (λ (t : List ℕ). t ++ rest) begins.front ∙ take-append-drop (length block) octets) in
      partial_none before at block rest begins.is_block (subst (IsPartial before at) whole partial)

-- ---- two readings of the same octets

-- the first block of both is one
module _ (wanted : Wanted) (senders : Senders) (count : Passage) (before : Before) (at : ℕ) (octets : List ℕ) where
  first_one : (one another : BlockAt) (blocks others : List BlockAt) (rest other_rest : List ℕ) (made other_made : List Made)
      → AreRead wanted senders count before at octets (one ∷ blocks) rest made → AreRead wanted senders count before at octets (another ∷ others) other_rest other_made → another ≡ one
  first_one one another blocks others rest other_rest made other_made are are_too =
      let same : another.octets ≡ one.octets = (block_one before at another.octets one.octets (octets_of others ++ other_rest) (octets_of blocks ++ rest) are_too.are_blocks.1 are.are_blocks.1
      (sym (are_too.whole ∙ append_assoc another.octets (octets_of others) other_rest) ∙ (are.whole ∙ append_assoc one.octets (octets_of blocks) rest))).0 in
      let content : another.content ≡ one.content = ap content_or_none (sym are_too.are_blocks.2 ∙ ap (block_said before at) same ∙ are.are_blocks.2) in
      one_block another one (are_too.are_blocks.0 ∙ sym are.are_blocks.0) same content

-- the fault, behind the first block
module _ (wanted : Wanted) (senders : Senders) (count : Passage) (before : Before) (at : ℕ) (block : BlockAt) (blocks : List BlockAt) (rest : List ℕ) (fault : Fault) where
  stops_behind : (made first later : List Made) → made ≡ first ++ later
      → StopsAt wanted (more wanted.are_listed senders made) (passage_behind count (block ∷ blocks)) (context_behind before (block ∷ blocks)) (at + length (octets_of (block ∷ blocks))) rest fault
      → StopsAt wanted (more wanted.are_listed (more wanted.are_listed senders first) later) (passage_behind (passage_after count block.at block.content) blocks) (context_behind (context_after before block.content) blocks) (at + length block.octets + length (octets_of blocks)) rest fault
  stops_behind made first later whole stops =
      subst (λ (n : ℕ). StopsAt wanted (more wanted.are_listed (more wanted.are_listed senders first) later) (passage_behind (passage_after count block.at block.content) blocks) (context_behind (context_after before block.content) blocks) n rest fault)
      (omega (arith, length-append block.octets (octets_of blocks)))
      (subst (λ (s : Senders). StopsAt wanted s (passage_behind count (block ∷ blocks)) (context_behind before (block ∷ blocks)) (at + length (octets_of (block ∷ blocks))) rest fault)
      (ap (more wanted.are_listed senders) whole ∙ more-append wanted.are_listed senders first later) stops)

stops_one : (wanted : Wanted) (senders : Senders) (count : Passage) (before : Before) (at : ℕ) (octets : List ℕ) (blocks others : List BlockAt) (rest other_rest : List ℕ) (made other_made : List Made)
    (one other : Fault) → AreRead wanted senders count before at octets blocks rest made → AreRead wanted senders count before at octets others other_rest other_made
    → StopsAt wanted (more wanted.are_listed senders made) (passage_behind count blocks) (context_behind before blocks) (at + length (octets_of blocks)) rest one
    → StopsAt wanted (more wanted.are_listed senders other_made) (passage_behind count others) (context_behind before others) (at + length (octets_of others)) other_rest other → one ≡ other
stops_one wanted senders count before at octets [] [] rest other_rest made other_made one other are are_too stops stops_too =
    let none : more wanted.are_listed senders made ≡ senders = ap (more wanted.are_listed senders) are.are_made in
    let none_too : more wanted.are_listed senders other_made ≡ senders = ap (more wanted.are_listed senders) are_too.are_made in
    let here : at + 0 ≡ at = omega arith in
    let same : other_rest ≡ rest = sym are_too.whole ∙ are.whole in
    stop_one wanted senders count before at rest one other
    (subst (λ (n : ℕ). StopsAt wanted senders count before n rest one) here (subst (λ (s : Senders). StopsAt wanted s count before (at + 0) rest one) none stops))
    (subst (λ (t : List ℕ). StopsAt wanted senders count before at t other) same
    (subst (λ (n : ℕ). StopsAt wanted senders count before n other_rest other) here (subst (λ (s : Senders). StopsAt wanted s count before (at + 0) other_rest other) none_too stops_too)))
stops_one wanted senders count before at octets [] (another ∷ others) rest other_rest made other_made one other are are_too stops stops_too =
    let none : more wanted.are_listed senders made ≡ senders = ap (more wanted.are_listed senders) are.are_made in
    let here : at + 0 ≡ at = omega arith in
    absurd (stop_taken wanted senders count before at octets one another others other_rest other_made
    (subst (λ (t : List ℕ). StopsAt wanted senders count before at t one) (sym are.whole)
    (subst (λ (n : ℕ). StopsAt wanted senders count before n rest one) here (subst (λ (s : Senders). StopsAt wanted s count before (at + 0) rest one) none stops))) are_too)
stops_one wanted senders count before at octets (block ∷ blocks) [] rest other_rest made other_made one other are are_too stops stops_too =
    let none : more wanted.are_listed senders other_made ≡ senders = ap (more wanted.are_listed senders) are_too.are_made in
    let here : at + 0 ≡ at = omega arith in
    absurd (stop_taken wanted senders count before at octets other block blocks rest made
    (subst (λ (t : List ℕ). StopsAt wanted senders count before at t other) (sym are_too.whole)
    (subst (λ (n : ℕ). StopsAt wanted senders count before n other_rest other) here (subst (λ (s : Senders). StopsAt wanted s count before (at + 0) other_rest other) none stops_too))) are)
stops_one wanted senders count before at octets (block ∷ blocks) (another ∷ others) rest other_rest made other_made one other are are_too stops stops_too =
    let same : another ≡ block = first_one wanted senders count before at octets block another blocks others rest other_rest made other_made are are_too in
    let are_again : AreRead wanted senders count before at octets (block ∷ others) other_rest other_made =
    subst (λ (b : BlockAt). AreRead wanted senders count before at octets (b ∷ others) other_rest other_made) same are_too in
    let stops_again : StopsAt wanted (more wanted.are_listed senders other_made) (passage_behind count (block ∷ others)) (context_behind before (block ∷ others)) (at + length (octets_of (block ∷ others))) other_rest other =
    subst (λ (b : BlockAt). StopsAt wanted (more wanted.are_listed senders other_made) (passage_behind count (b ∷ others)) (context_behind before (b ∷ others)) (at + length (octets_of (b ∷ others))) other_rest other) same stops_too in
    let split = parts wanted senders count before at octets block blocks rest made are in
    let split_too = parts wanted senders count before at octets block others other_rest other_made are_again in
    let firsts : split_too.first ≡ split.first = made_one wanted (sightings_in count block.at block.content) split_too.first split.first split_too.are_first split.are_first in
    let here = sightings_in count block.at block.content in
    let after = context_after before block.content in
    let next = at + length block.octets in
    let rests : octets_of others ++ other_rest ≡ octets_of blocks ++ rest =
    (block_one before at block.octets block.octets (octets_of others ++ other_rest) (octets_of blocks ++ rest) are.are_blocks.1 are.are_blocks.1
    (sym (are_again.whole ∙ append_assoc block.octets (octets_of others) other_rest) ∙ (are.whole ∙ append_assoc block.octets (octets_of blocks) rest))).1 in
    stops_one wanted (more wanted.are_listed senders split.first) (passage_after count block.at block.content) after next (octets_of blocks ++ rest) blocks others rest other_rest split.later split_too.later one other
    (behind wanted senders count before at octets block blocks rest made are)
    (subst (λ (s : Senders). AreRead wanted s (passage_after count block.at block.content) after next (octets_of blocks ++ rest) others other_rest split_too.later) (ap (more wanted.are_listed senders) firsts)
    (subst (λ (t : List ℕ). AreRead wanted (more wanted.are_listed senders split_too.first) (passage_after count block.at block.content) after next t others other_rest split_too.later) rests
    (behind wanted senders count before at octets block others other_rest other_made are_again)))
    (stops_behind wanted senders count before at block blocks rest one made split.first split.later split.whole stops)
    (subst (λ (s : Senders). StopsAt wanted (more wanted.are_listed s split_too.later) (passage_behind (passage_after count block.at block.content) others) (context_behind after others) (next + length (octets_of others)) other_rest other) (ap (more wanted.are_listed senders) firsts)
    (stops_behind wanted senders count before at block others other_rest other other_made split_too.first split_too.later split_too.whole stops_again))

stops_whole : (wanted : Wanted) (senders : Senders) (count : Passage) (before : Before) (at : ℕ) (octets : List ℕ) (blocks others : List BlockAt) (rest other_rest : List ℕ) (made other_made : List Made)
    (fault : Fault) → AreRead wanted senders count before at octets blocks rest made → AreRead wanted senders count before at octets others other_rest other_made
    → StopsAt wanted (more wanted.are_listed senders made) (passage_behind count blocks) (context_behind before blocks) (at + length (octets_of blocks)) rest fault
    → IsPartial (context_behind before others) (at + length (octets_of others)) other_rest → ⊥
stops_whole wanted senders count before at octets [] [] rest other_rest made other_made fault are are_too stops partial =
    let none : more wanted.are_listed senders made ≡ senders = ap (more wanted.are_listed senders) are.are_made in
    let same : other_rest ≡ rest = sym are_too.whole ∙ are.whole in
    stop_partial wanted senders count before (at + 0) rest fault (subst (λ (s : Senders). StopsAt wanted s count before (at + 0) rest fault) none stops)
    (subst (IsPartial before (at + 0)) same partial)
stops_whole wanted senders count before at octets [] (another ∷ others) rest other_rest made other_made fault are are_too stops partial =
    let none : more wanted.are_listed senders made ≡ senders = ap (more wanted.are_listed senders) are.are_made in
    let here : at + 0 ≡ at = omega arith in
    stop_taken wanted senders count before at octets fault another others other_rest other_made
    (subst (λ (t : List ℕ). StopsAt wanted senders count before at t fault) (sym are.whole)
    (subst (λ (n : ℕ). StopsAt wanted senders count before n rest fault) here (subst (λ (s : Senders). StopsAt wanted s count before (at + 0) rest fault) none stops))) are_too
stops_whole wanted senders count before at octets (block ∷ blocks) [] rest other_rest made other_made fault are are_too stops partial =
    let here : at + 0 ≡ at = omega arith in
    let whole : other_rest ≡ block.octets ++ (octets_of blocks ++ rest) = sym are_too.whole ∙ are.whole ∙ append_assoc block.octets (octets_of blocks) rest in
    partial_none before at block.octets (octets_of blocks ++ rest) are.are_blocks.1
    (subst (λ (t : List ℕ). IsPartial before at t) whole (subst (λ (n : ℕ). IsPartial before n other_rest) here partial))
stops_whole wanted senders count before at octets (block ∷ blocks) (another ∷ others) rest other_rest made other_made fault are are_too stops partial =
    let same : another ≡ block = first_one wanted senders count before at octets block another blocks others rest other_rest made other_made are are_too in
    let are_again : AreRead wanted senders count before at octets (block ∷ others) other_rest other_made =
    subst (λ (b : BlockAt). AreRead wanted senders count before at octets (b ∷ others) other_rest other_made) same are_too in
    let partial_again : IsPartial (context_behind before (block ∷ others)) (at + length (octets_of (block ∷ others))) other_rest =
    subst (λ (b : BlockAt). IsPartial (context_behind before (b ∷ others)) (at + length (octets_of (b ∷ others))) other_rest) same partial in
    let split = parts wanted senders count before at octets block blocks rest made are in
    let split_too = parts wanted senders count before at octets block others other_rest other_made are_again in
    let firsts : split_too.first ≡ split.first = made_one wanted (sightings_in count block.at block.content) split_too.first split.first split_too.are_first split.are_first in
    let here = sightings_in count block.at block.content in
    let after = context_after before block.content in
    let next = at + length block.octets in
    let rests : octets_of others ++ other_rest ≡ octets_of blocks ++ rest =
    (block_one before at block.octets block.octets (octets_of others ++ other_rest) (octets_of blocks ++ rest) are.are_blocks.1 are.are_blocks.1
    (sym (are_again.whole ∙ append_assoc block.octets (octets_of others) other_rest) ∙ (are.whole ∙ append_assoc block.octets (octets_of blocks) rest))).1 in
    stops_whole wanted (more wanted.are_listed senders split.first) (passage_after count block.at block.content) after next (octets_of blocks ++ rest) blocks others rest other_rest split.later split_too.later fault
    (behind wanted senders count before at octets block blocks rest made are)
    (subst (λ (s : Senders). AreRead wanted s (passage_after count block.at block.content) after next (octets_of blocks ++ rest) others other_rest split_too.later) (ap (more wanted.are_listed senders) firsts)
    (subst (λ (t : List ℕ). AreRead wanted (more wanted.are_listed senders split_too.first) (passage_after count block.at block.content) after next t others other_rest split_too.later) rests
    (behind wanted senders count before at octets block others other_rest other_made are_again)))
    (stops_behind wanted senders count before at block blocks rest fault made split.first split.later split.whole stops)
    (subst (λ (n : ℕ). IsPartial (context_behind after others) n other_rest) (omega (arith, length-append block.octets (octets_of others))) partial_again)

-- ---- captures

-- whole blocks that are taken, and then less than a block
record Ends (limit : Extent) (wanted : Wanted) (octets : List ℕ) : Type 0 where
  blocks : List BlockAt
  rest : List ℕ
  made : List Made
  whole : octets ≡ octets_of blocks ++ rest
  are_blocks : AreBlocks (start limit) 0 blocks
  taken : AreTaken wanted (sightings_of blocks) made
  partial : IsPartial (context_behind (start limit) blocks) (length (octets_of blocks)) rest

module _ (limit : Extent) (wanted : Wanted) (octets : List ℕ) where
  from_start : (blocks : List BlockAt) (rest : List ℕ) (made : List Made) → octets ≡ octets_of blocks ++ rest → AreBlocks (start limit) 0 blocks → AreTaken wanted (sightings_of blocks) made
      → AreRead wanted [] no_passage (start limit) 0 octets blocks rest made
  from_start blocks rest made whole are_blocks taken = record { whole = whole; are_blocks = are_blocks; are_made = taken.are_made; few = subst (λ (s : Senders). length s ≤ 65536) (listed-more wanted.are_listed made) taken.few; none = λ not. refl }

  stops_from : (fault : Fault) (stops : Stops limit wanted octets fault)
      → StopsAt wanted (more wanted.are_listed [] stops.made) (passage_behind no_passage stops.blocks) (context_behind (start limit) stops.blocks) (0 + length (octets_of stops.blocks)) stops.rest fault
  stops_from fault stops =
      subst (λ (n : ℕ). StopsAt wanted (more wanted.are_listed [] stops.made) (passage_behind no_passage stops.blocks) (context_behind (start limit) stops.blocks) n stops.rest fault) (omega arith)
      (subst (λ (s : Senders). StopsAt wanted s (passage_behind no_passage stops.blocks) (context_behind (start limit) stops.blocks) (length (octets_of stops.blocks)) stops.rest fault)
      (listed-more wanted.are_listed stops.made) stops.stops)

  none_stops : (fault : Fault) → Ends limit wanted octets → Stops limit wanted octets fault → ⊥
  none_stops fault ends stops =
      stops_whole wanted [] no_passage (start limit) 0 octets stops.blocks ends.blocks stops.rest ends.rest stops.made ends.made fault
      (from_start stops.blocks stops.rest stops.made stops.whole stops.are_blocks stops.taken)
      (from_start ends.blocks ends.rest ends.made ends.whole ends.are_blocks ends.taken) (stops_from fault stops)
      (subst (λ (n : ℕ). IsPartial (context_behind (start limit) ends.blocks) n ends.rest) (omega arith) ends.partial)

  both_stop : (one other : Fault) → Stops limit wanted octets one → Stops limit wanted octets other → one ≡ other
  both_stop one other stops stops_too =
      stops_one wanted [] no_passage (start limit) 0 octets stops.blocks stops_too.blocks stops.rest stops_too.rest stops.made stops_too.made one other
      (from_start stops.blocks stops.rest stops.made stops.whole stops.are_blocks stops.taken)
      (from_start stops_too.blocks stops_too.rest stops_too.made stops_too.whole stops_too.are_blocks stops_too.taken) (stops_from one stops) (stops_from other stops_too)

  abbrev ends_of : (fault : Fault) → EndsShort limit wanted octets fault → Ends limit wanted octets
  ends_of fault short =
      let first = front_taken wanted (sightings_of short.blocks) (missing_in (passage_of short.blocks).known.unfinished) short.made short.taken in
      record {
        blocks = short.blocks;
        rest = short.rest;
        made = first.0;
        whole = short.whole;
        are_blocks = short.are_blocks;
        taken = first.1;
        partial = short.partial;
      }

  abbrev ends_lost : (fault : Fault) → EndsLost limit wanted octets fault → Ends limit wanted octets
  ends_lost fault lost = record {
    blocks = lost.blocks;
    rest = lost.rest;
    made = lost.made;
    whole = lost.whole;
    are_blocks = lost.are_blocks;
    taken = lost.taken;
    partial = lost.partial;
  }

  ends_one : (one other : Ends limit wanted octets) → (other.blocks ≡ one.blocks) × (other.rest ≡ one.rest)
  ends_one one other =
      blocks_one (start limit) 0 other.blocks one.blocks other.rest one.rest other.are_blocks one.are_blocks (sym other.whole ∙ one.whole)
      (subst (λ (n : ℕ). IsPartial (context_behind (start limit) other.blocks) n other.rest) (omega arith) other.partial)
      (subst (λ (n : ℕ). IsPartial (context_behind (start limit) one.blocks) n one.rest) (omega arith) one.partial)

  -- how another ending falls short is how this one does
  short_here : (one : Ends limit wanted octets) (fault : Fault) → EndsShort limit wanted octets fault
      → IsShortBy (context_behind (start limit) one.blocks) (length (octets_of one.blocks)) one.rest fault
  short_here one fault short =
      let same = ends_one one (ends_of fault short) in
      subst (λ (t : List ℕ). IsShortBy (context_behind (start limit) one.blocks) (length (octets_of one.blocks)) t fault) same.1
      (subst (λ (bs : List BlockAt). IsShortBy (context_behind (start limit) bs) (length (octets_of bs)) short.rest fault) same.0 short.short)

  -- none is refused at the end where all are taken
  none_lost : (one : Ends limit wanted octets) (made : List Made) (fault : Fault) → AreTaken wanted (sightings_to_end one.blocks) made → EndsLost limit wanted octets fault → ⊥
  none_lost one made fault taken lost =
      let same = ends_one one (ends_lost fault lost) in
      let at_end = missing_in (passage_of one.blocks).known.unfinished in
      let parts = in_two wanted (sightings_of one.blocks) at_end made taken.are_made in
      let firsts : parts.first ≡ lost.made = made_one wanted (sightings_of one.blocks) parts.first lost.made parts.are_first
      (subst (λ (bs : List BlockAt). AreMade wanted (sightings_of bs) lost.made) same.0 lost.taken.are_made) in
      let listed = wanted.are_listed in
      refused_none wanted (more listed [] lost.made) at_end fault [] parts.later
      (subst (λ (bs : List BlockAt). IsRefused wanted (more listed [] lost.made) (missing_in (passage_of bs).known.unfinished) fault) same.0
      (subst (λ (s : Senders). IsRefused wanted s (missing_in (passage_of lost.blocks).known.unfinished) fault) (listed-more listed lost.made) lost.lost))
      (subst (λ (s : List Sighting). AreMade wanted s parts.later) (sym (append-nil at_end)) parts.are_later)
      (subst (λ (m : List Made). length (more listed (more listed [] m) parts.later) ≤ 65536) firsts
      (subst (λ (s : Senders). length s ≤ 65536) (listed-more listed made ∙ ap (more listed []) parts.whole ∙ more-append listed [] parts.first parts.later) taken.few))
      (λ not. ap (λ (b : Bool). more b [] lost.made) not ∙ more-none [] lost.made)

  both_lost : (one other : Fault) → EndsLost limit wanted octets one → EndsLost limit wanted octets other → one ≡ other
  both_lost one other lost lost_too =
      let same = ends_one (ends_lost one lost) (ends_lost other lost_too) in
      let at_end = missing_in (passage_of lost.blocks).known.unfinished in
      let made : lost_too.made ≡ lost.made = made_one wanted (sightings_of lost.blocks) lost_too.made lost.made
      (subst (λ (bs : List BlockAt). AreMade wanted (sightings_of bs) lost_too.made) same.0 lost_too.taken.are_made) lost.taken.are_made in
      refused_one wanted (senders_listed wanted.are_listed lost.made) no_passage (start limit) 0 at_end one other lost.lost
      (subst (λ (m : List Made). IsRefused wanted (senders_listed wanted.are_listed m) at_end other) made
      (subst (λ (bs : List BlockAt). IsRefused wanted (senders_listed wanted.are_listed lost_too.made) (missing_in (passage_of bs).known.unfinished) other) same.0 lost_too.lost))

short_one : (before : Before) (at : ℕ) (rest : List ℕ) (one other : Fault) → IsShortBy before at rest one → IsShortBy before at rest other → one ≡ other
short_one before at rest one other (inl (not, is)) (inl (not_too, is_too)) = is ∙ sym is_too
short_one before at rest one other (inl (not, is)) (inr (started, some, is_too)) = absurd (not started)
short_one before at rest one other (inr (started, some, is)) (inl (not, is_too)) = absurd (not started)
short_one before at rest one other (inr (started, some, is)) (inr (started_too, some_too, is_too)) = is ∙ sym is_too

pub fault_is_one : FaultIsOne
fault_is_one limit wanted octets one other (inl stops) (inl stops_too) = both_stop limit wanted octets one other stops stops_too
fault_is_one limit wanted octets one other (inl stops) (inr (inl short)) = absurd (none_stops limit wanted octets one (ends_of limit wanted octets other short) stops)
fault_is_one limit wanted octets one other (inl stops) (inr (inr lost)) = absurd (none_stops limit wanted octets one (ends_lost limit wanted octets other lost) stops)
fault_is_one limit wanted octets one other (inr (inl short)) (inl stops) = absurd (none_stops limit wanted octets other (ends_of limit wanted octets one short) stops)
fault_is_one limit wanted octets one other (inr (inl short)) (inr (inl short_too)) =
    short_one (context_behind (start limit) short.blocks) (length (octets_of short.blocks)) short.rest one other short.short
    (short_here limit wanted octets (ends_of limit wanted octets one short) other short_too)
fault_is_one limit wanted octets one other (inr (inl short)) (inr (inr lost)) = absurd (none_lost limit wanted octets (ends_of limit wanted octets one short) short.made other short.taken lost)
fault_is_one limit wanted octets one other (inr (inr lost)) (inl stops) = absurd (none_stops limit wanted octets other (ends_lost limit wanted octets one lost) stops)
fault_is_one limit wanted octets one other (inr (inr lost)) (inr (inl short)) = absurd (none_lost limit wanted octets (ends_of limit wanted octets other short) short.made one short.taken lost)
fault_is_one limit wanted octets one other (inr (inr lost)) (inr (inr lost_too)) = both_lost limit wanted octets one other lost lost_too

abbrev read_ends : (limit : Extent) (octets : List ℕ) (gathering : Gathering) (cut : Option ℕ) → IsReadToCut limit octets gathering cut → Ends limit gathering.wanted octets
read_ends limit octets gathering cut is =
    let blocks = is.is_read.blocks in
    let first = front_taken gathering.wanted (sightings_of blocks) (missing_in (passage_of blocks).known.unfinished) is.is_read.gathered.made is.is_read.gathered.taken in
    record {
      blocks = blocks;
      rest = is.rest;
      made = first.0;
      whole = is.whole ∙ ap (λ (t : List ℕ). t ++ is.rest) is.is_read.whole;
      are_blocks = is.is_read.are_blocks;
      taken = first.1;
      partial = subst (λ (n : ℕ). IsPartial (context_behind (start limit) blocks) n is.rest) (ap length is.is_read.whole) is.partial;
    }

-- what is a capture up to a cut is not refused before
pub none_stops_to_cut : (limit : Extent) (octets : List ℕ) (gathering : Gathering) (cut : Option ℕ) (fault : Fault) → IsReadToCut limit octets gathering cut
    → Stops limit gathering.wanted octets fault → ⊥
none_stops_to_cut limit octets gathering cut fault is = none_stops limit gathering.wanted octets fault (read_ends limit octets gathering cut is)

-- nor are datagrams at its end, of which fragments are missing
pub none_lost_to_cut : (limit : Extent) (octets : List ℕ) (gathering : Gathering) (cut : Option ℕ) (fault : Fault) → IsReadToCut limit octets gathering cut
    → EndsLost limit gathering.wanted octets fault → ⊥
none_lost_to_cut limit octets gathering cut fault is =
    none_lost limit gathering.wanted octets (read_ends limit octets gathering cut is) is.is_read.gathered.made fault is.is_read.gathered.taken

pub cut_is_the_fault : CutIsTheFault
cut_is_the_fault limit octets gathering cut is fault = by
  where
    place : IsShortBy (context_behind (start limit) is.is_read.blocks) (length (octets_of is.is_read.blocks)) is.rest fault
        → ((is.rest ≡ []) × (cut ≡ None)) ⊎ ((is.rest ≢ []) × (cut ≡ Some (length is.read))) → (at : ℕ) × (cut ≡ Some at) × (fault ≡ faults.CutShort at)
    place (inl (not, told)) where_cut = absurd (not is.is_read.started)
    place (inr (started, some, told)) (inl (none, at)) = absurd (some none)
    place (inr (started, some, told)) (inr (some_too, at)) = (length is.read, at, told ∙ ap (λ (t : List ℕ). faults.CutShort (length t)) (sym is.is_read.whole))

    by : CaptureFault limit gathering.wanted octets fault → (at : ℕ) × (cut ≡ Some at) × (fault ≡ faults.CutShort at)
    by (inl stops) = absurd (none_stops_to_cut limit octets gathering cut fault is stops)
    by (inr (inr lost)) = absurd (none_lost_to_cut limit octets gathering cut fault is lost)
    by (inr (inl short)) = place (short_here limit gathering.wanted octets (read_ends limit octets gathering cut is) fault short) is.where_cut

pub read_has_no_fault : ReadHasNoFault
read_has_no_fault limit octets gathering is fault failed =
    let told = cut_is_the_fault limit octets gathering None (uncut limit octets gathering is) fault failed in
    let both : None ≡ Some told.0 = told.1 in
    absurd cc
