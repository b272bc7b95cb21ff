-- Blocks, taken one by one.
use Rattle.std.proofs.Common.{◌≡◌, ℕ, ◌+◌, ◌-◌, ◌≤◌, List, [], ◌∷◌, ◌++◌, length, take, drop, refl, sym, ap, subst, ◌∙◌, append_assoc, inl, inr, length-drop, arith}
use Rattle.std.specs.Prelude.{Ok, Option, Some, IfSome, ◌⊎◌}
use Rattle.std.proofs.lemmas.List.{append-nil, length-append, take-append-drop}
use Rattle.std.proofs.Math.Seq.{take-add}
use Rattle.std.proofs.lemmas.List.Concat.{flat_map-append}
use Rattle.babel_capture.specs.declared.fault.Fault.{Fault}
use Rattle.babel_capture.specs.declared.wanted.Wanted.{Wanted}
use Rattle.babel_capture.specs.Blocks.{names_of, BlockAt, BeginsBlock, IsBlock, AreBlocks, start, context_behind, no_passage, octets_of, passage_after, passage_behind, passage_of, sightings_in, sightings_behind}
use Rattle.babel_capture.specs.Blocks.{sightings_of}
use Rattle.babel_capture.specs.Contents.{Content, block_said, context_after, names_in}
use Rattle.babel_capture.specs.Context.{Before}
use Rattle.babel_capture.specs.Counts.{Made}
use Rattle.babel_capture.specs.Gathering.{AreTaken, BlockNeedsMemory}
use Rattle.babel_capture.specs.Passage.{Passage, Sighting}
use Rattle.babel_capture.specs.Reading.{Progress, LeadTo, BlockFails, HeaderFails, NeedsMemory, NeedsMemoryAt, StopsAt, Stops, passage_in}
use Rattle.babel_capture.specs.Tallies.{Senders, senders_listed}
use Rattle.babel_capture.specs.Sinking.{GatherMore, GatherSome, LeadMore, Sinks, StopBlock, StopLead, StopsBehind}
use Rattle.babel_capture.proofs.NumberLaws.{rest_is}
use Rattle.babel_capture.proofs.SinkLaws.{sinks-as, sinks-both}
use Rattle.babel_capture.specs.Window.{Extent}

-- ---- one block more

sightings-push : (before : Passage) (blocks : List BlockAt) (b : BlockAt)
    → sightings_behind before (blocks ++ b ∷ []) ≡ sightings_behind before blocks ++ sightings_in (passage_behind before blocks) b.at b.content
sightings-push before [] b = append-nil (sightings_in before b.at b.content)
sightings-push before (first ∷ blocks) b =
    let here : List Sighting = sightings_in before first.at first.content in
    let after = passage_after before first.at first.content in
    ap (λ (t : List Sighting). here ++ t) (sightings-push after blocks b) ∙ sym (append_assoc here (sightings_behind after blocks) (sightings_in (passage_behind after blocks) b.at b.content))

passage-push : (before : Passage) (blocks : List BlockAt) (b : BlockAt) → passage_behind before (blocks ++ b ∷ []) ≡ passage_after (passage_behind before blocks) b.at b.content
passage-push before [] b = refl
passage-push before (first ∷ blocks) b = passage-push (passage_after before first.at first.content) blocks b

context-push : (before : Before) (blocks : List BlockAt) (b : BlockAt) → context_behind before (blocks ++ b ∷ []) ≡ context_after (context_behind before blocks) b.content
context-push before [] b = refl
context-push before (first ∷ blocks) b = context-push (context_after before first.content) blocks b

octets-push : (blocks : List BlockAt) (b : BlockAt) → octets_of (blocks ++ b ∷ []) ≡ octets_of blocks ++ b.octets
octets-push blocks b =
    flat_map-append (λ (x : BlockAt). x.octets) blocks (b ∷ []) ∙ ap (λ (t : List ℕ). octets_of blocks ++ t) (append-nil b.octets)

names-push : (blocks : List BlockAt) (b : BlockAt) → names_of (blocks ++ b ∷ []) ≡ names_of blocks ++ names_in b.content
names-push blocks b =
    flat_map-append (λ (x : BlockAt). names_in x.content) blocks (b ∷ []) ∙ ap (λ (t : List (List ℕ)). names_of blocks ++ t) (append-nil (names_in b.content))

blocks-push : (before : Before) (at : ℕ) (blocks : List BlockAt) (b : BlockAt) → AreBlocks before at blocks → b.at ≡ at + length (octets_of blocks)
    → IsBlock (context_behind before blocks) b.at b.octets → block_said (context_behind before blocks) b.at b.octets ≡ Ok b.content → AreBlocks before at (blocks ++ b ∷ [])
blocks-push before at [] b are is block said =
    let here : b.at ≡ at = omega (arith, is) in
    (here, subst (λ (n : ℕ). IsBlock before n b.octets) here block, subst (λ (n : ℕ). block_said before n b.octets ≡ Ok b.content) here said, tt)
blocks-push before at (first ∷ blocks) b (here, one, first_said, are) is block said = (
  here,
  one,
  first_said,
  blocks-push (context_after before first.content) (at + length first.octets) blocks b are (omega (arith, is, length-append first.octets (octets_of blocks))) block said,
)

-- what is seen behind the blocks so far
sightings-led : (limit : Extent) (read : List ℕ) (old : Progress) (lead : LeadTo limit read old) (b : BlockAt) → b.at ≡ old.at
    → sightings_of (lead.blocks ++ b ∷ []) ≡ sightings_of lead.blocks ++ sightings_in (passage_in old) old.at b.content
sightings-led limit read old lead b here =
    sightings-push no_passage lead.blocks b ∙ ap (λ (n : ℕ). sightings_of lead.blocks ++ sightings_in (passage_of lead.blocks) n b.content) here
    ∙ ap (λ (p : Passage). sightings_of lead.blocks ++ sightings_in p old.at b.content) (sym lead.passage)

blocks-led : (limit : Extent) (read block : List ℕ) (old : Progress) (content : Content) (lead : LeadTo limit read old) → IsBlock old.context old.at block
    → block_said old.context old.at block ≡ Ok content → AreBlocks (start limit) 0 (lead.blocks ++ record { at = old.at; octets = block; content = content } ∷ [])
blocks-led limit read block old content lead is_block said =
    blocks-push (start limit) 0 lead.blocks (record { at = old.at; octets = block; content = content }) lead.are_blocks (omega (arith, lead.place, ap length lead.whole))
    (subst (λ (c : Before). IsBlock c old.at block) lead.context is_block)
    (subst (λ (c : Before). block_said c old.at block ≡ Ok content) lead.context said)

pub lead-push : (block : List ℕ) (old new : Progress) (content : Content) (more : List Made) → IsBlock old.context old.at block → block_said old.context old.at block ≡ Ok content
    → new.context ≡ context_after old.context content → new.at ≡ old.at + length block
    → GatherMore old.gathering new.gathering (sightings_in (passage_in old) old.at content) more → passage_in new ≡ passage_after (passage_in old) old.at content
    → new.gathering.names ≡ old.gathering.names ++ names_in content → LeadMore old new block more
lead-push block old new content more is_block said context place gathers passage names limit read lead =
    let b : BlockAt = record { at = old.at; octets = block; content = content } in
    let both = gathers (sightings_of lead.blocks) lead.gathered in
    let gathered = both.0 in (
      record {
        blocks = lead.blocks ++ b ∷ [];
        whole = ap (λ (t : List ℕ). t ++ block) lead.whole ∙ sym (octets-push lead.blocks b);
        are_blocks = blocks-led limit read block old content lead is_block said;
        place = omega (arith, place, lead.place, length-append read block);
        context = context ∙ ap (λ (c : Before). context_after c content) lead.context ∙ sym (context-push (start limit) lead.blocks b);
        gathered = record {
          made = gathered.made;
          taken = subst (λ (s : List Sighting). AreTaken new.gathering.wanted s gathered.made) (sym (sightings-led limit read old lead b refl)) gathered.taken;
          report = gathered.report;
          senders = gathered.senders;
        };
        names = names ∙ ap (λ (ns : List (List ℕ)). ns ++ names_in content) lead.names ∙ sym (names-push lead.blocks b);
        passage = passage ∙ ap (λ (p : Passage). passage_after p old.at content) lead.passage ∙ sym (passage-push no_passage lead.blocks b);
      },
      both.1,
    )

-- ---- a block that is taken in part, or not at all

pub stop-block : (block : List ℕ) (old : Progress) (content : Content) (more : List Made) → IsBlock old.context old.at block → block_said old.context old.at block ≡ Ok content
    → GatherSome old.gathering (sightings_in (passage_in old) old.at content) more → StopBlock old block more
stop-block block old content more is_block said some limit read lead rest =
    let b : BlockAt = record { at = old.at; octets = block; content = content } in
    let part = some (sightings_of lead.blocks) lead.gathered in
    record {
      blocks = lead.blocks ++ b ∷ [];
      rest = rest;
      whole = ap (λ (t : List ℕ). (t ++ block) ++ rest) lead.whole ∙ ap (λ (t : List ℕ). t ++ rest) (sym (octets-push lead.blocks b));
      are_blocks = blocks-led limit read block old content lead is_block said;
      front = sightings_of lead.blocks ++ part.0;
      back = part.1;
      parts = sightings-led limit read old lead b refl ∙ ap (λ (s : List Sighting). sightings_of lead.blocks ++ s) part.2 ∙ sym (append_assoc (sightings_of lead.blocks) part.0 part.1);
      taken = part.3;
    }

pub stop-here : (old : Progress) (block : List ℕ) → StopBlock old block []
stop-here old block limit read lead rest = record {
  blocks = lead.blocks;
  rest = block ++ rest;
  whole = append_assoc read block rest ∙ ap (λ (t : List ℕ). t ++ (block ++ rest)) lead.whole;
  are_blocks = lead.are_blocks;
  front = sightings_of lead.blocks;
  back = [];
  parts = sym (append-nil (sightings_of lead.blocks));
  taken = subst (λ (m : List Made). AreTaken old.gathering.wanted (sightings_of lead.blocks) m) (sym (append-nil lead.gathered.made)) lead.gathered.taken;
}

-- ---- what stops

-- what holds where octets led holds where their blocks end
where-led : (P : Senders → Passage → Before → ℕ → Type 0) (limit : Extent) (read : List ℕ) (now : Progress) (lead : LeadTo limit read now)
    → P now.gathering.senders (passage_in now) now.context now.at
    → P (senders_listed now.gathering.wanted.are_listed lead.gathered.made) (passage_of lead.blocks) (context_behind (start limit) lead.blocks) (length (octets_of lead.blocks))
where-led P limit read now lead holds =
    let senders = senders_listed now.gathering.wanted.are_listed lead.gathered.made in
    subst (P senders (passage_of lead.blocks) (context_behind (start limit) lead.blocks)) (lead.place ∙ ap length lead.whole)
    (subst (λ (c : Before). P senders (passage_of lead.blocks) c now.at) lead.context
    (subst (λ (p : Passage). P senders p now.context now.at) lead.passage (subst (λ (s : Senders). P s (passage_in now) now.context now.at) lead.gathered.senders holds)))

module _ (limit : Extent) (wanted : Wanted) (read octets : List ℕ) (used : ℕ) (now : Progress) (same : now.gathering.wanted ≡ wanted) (lead : LeadTo limit (read ++ take used octets) now) where
  whole : read ++ octets ≡ octets_of lead.blocks ++ drop used octets
  whole = ap (λ (t : List ℕ). read ++ t) (sym (take-append-drop used octets)) ∙ sym (append_assoc read (take used octets) (drop used octets)) ∙ ap (λ (t : List ℕ). t ++ drop used octets) lead.whole

  are_taken : AreTaken wanted (sightings_of lead.blocks) lead.gathered.made
  are_taken = subst (λ (w : Wanted). AreTaken w (sightings_of lead.blocks) lead.gathered.made) same lead.gathered.taken

  pub stops-behind : (fault : Fault) → StopsAt now.gathering.wanted now.gathering.senders (passage_in now) now.context now.at (drop used octets) fault → Stops limit wanted (read ++ octets) fault
  stops-behind fault stops = record {
    blocks = lead.blocks;
    rest = drop used octets;
    made = lead.gathered.made;
    whole = whole;
    are_blocks = lead.are_blocks;
    taken = are_taken;
    stops = subst (λ (w : Wanted). StopsAt w (senders_listed w.are_listed lead.gathered.made) (passage_of lead.blocks) (context_behind (start limit) lead.blocks) (length (octets_of lead.blocks)) (drop used octets) fault) same
        (where-led (λ (s : Senders) (p : Passage) (c : Before) (n : ℕ). StopsAt now.gathering.wanted s p c n (drop used octets) fault) limit (read ++ take used octets) now lead stops);
  }

  behind-led : StopsBehind limit wanted (read ++ octets) lead.gathered.made
  behind-led = record {
    blocks = lead.blocks;
    rest = drop used octets;
    whole = whole;
    are_blocks = lead.are_blocks;
    front = sightings_of lead.blocks;
    back = [];
    parts = sym (append-nil (sightings_of lead.blocks));
    taken = are_taken;
  }

  pub needs-behind : NeedsMemoryAt now.gathering.wanted now.gathering.senders now.context now.at (drop used octets) → NeedsMemory limit wanted read octets
  needs-behind needs = record {
    blocks = lead.blocks;
    rest = drop used octets;
    made = lead.gathered.made;
    whole = whole;
    are_blocks = lead.are_blocks;
    taken = are_taken;
    in_piece = omega (arith, ap length lead.whole, length-append read (take used octets));
    needs = subst (λ (w : Wanted). NeedsMemoryAt w (senders_listed w.are_listed lead.gathered.made) (context_behind (start limit) lead.blocks) (length (octets_of lead.blocks)) (drop used octets)) same
        (where-led (λ (s : Senders) (p : Passage) (c : Before) (n : ℕ). NeedsMemoryAt now.gathering.wanted s c n (drop used octets)) limit (read ++ take used octets) now lead needs);
  }

-- ---- as the loop meets them

-- the rest as a slice
abbrev pub rest_of : ℕ → List ℕ → List ℕ
rest_of used octets = take (length octets - used) (drop used octets)

pub used-within : (before : Before) (at used : ℕ) (octets block : List ℕ) → used ≤ length octets → BeginsBlock before at (rest_of used octets) block → used + length block ≤ length octets
used-within before at used octets block within begins =
    omega (arith, begins.fits, ap length (rest_is used octets), length-drop used octets)

pub taken-more : (before : Before) (at used : ℕ) (octets block : List ℕ) → BeginsBlock before at (rest_of used octets) block → take used octets ++ block ≡ take (used + length block) octets
taken-more before at used octets block begins =
    ap (λ (t : List ℕ). take used octets ++ t) (begins.front ∙ ap (take (length block)) (rest_is used octets)) ∙ sym (take-add used (length block) octets)

pub lead-none-more : (progress : Progress) → LeadMore progress progress [] []
lead-none-more progress limit read lead =
    subst (λ (t : List ℕ). (now : LeadTo limit t progress) × (now.gathered.made ≡ lead.gathered.made ++ [])) (sym (append-nil read)) (lead, sym (append-nil lead.gathered.made))

pub lead-both : (old next new : Progress) (front back octets : List ℕ) → front ++ back ≡ octets → (one two : List Made) → LeadMore old next front one → LeadMore next new back two
    → LeadMore old new octets (one ++ two)
lead-both old next new front back octets whole one two goes goes_on limit read lead =
    let first = goes limit read lead in
    let second = goes_on limit (read ++ front) first.0 in
    subst (λ (t : List ℕ). (now : LeadTo limit t new) × (now.gathered.made ≡ lead.gathered.made ++ (one ++ two))) (append_assoc read front back ∙ ap (λ (t : List ℕ). read ++ t) whole)
    (second.0, second.1 ∙ ap (λ (m : List Made). m ++ two) first.1 ∙ append_assoc lead.gathered.made one two)

pub sinks-led : {S : Type 0} (has : S → S → List Made → Type 0) (before after : S) (old now : Progress) (octets : List ℕ) (used : ℕ) → now.gathering.wanted ≡ old.gathering.wanted
    → Sinks has before after (LeadMore old now (take used octets)) → Sinks has before after (StopLead old octets)
sinks-led has before after old now octets used same = sinks-as has before after _ _ (λ more goes limit read lead.
    let led = goes limit read lead in
    rw (sym led.1) (behind-led limit old.gathering.wanted read octets used now same led.0))

-- and where the next block stops
pub sinks-block : {S : Type 0} (has : S → S → List Made → Type 0) (before between after : S) (old now : Progress) (octets block : List ℕ) (used : ℕ) → now.gathering.wanted ≡ old.gathering.wanted
    → BeginsBlock now.context now.at (rest_of used octets) block → Sinks has before between (LeadMore old now (take used octets)) → Sinks has between after (StopBlock now block)
    → Sinks has before after (StopLead old octets)
sinks-block has before between after old now octets block used same begins =
    sinks-both has before between after (LeadMore old now (take used octets)) (StopBlock now block) (StopLead old octets) (λ one two goes stops limit read lead.
    let led = goes limit read lead in
    let n = used + length block in
    let rest = drop n octets in
    let whole : ((read ++ take used octets) ++ block) ++ rest ≡ read ++ octets =
    ap (λ (t : List ℕ). t ++ rest) (append_assoc read (take used octets) block ∙ ap (λ (t : List ℕ). read ++ t) (taken-more now.context now.at used octets block begins))
    ∙ append_assoc read (take n octets) rest ∙ ap (λ (t : List ℕ). read ++ t) (take-append-drop n octets) in
    let made : led.0.gathered.made ++ two ≡ lead.gathered.made ++ (one ++ two) = ap (λ (m : List Made). m ++ two) led.1 ∙ append_assoc lead.gathered.made one two in
    subst (λ (w : Wanted). StopsBehind limit w (read ++ octets) (lead.gathered.made ++ (one ++ two))) same
    (subst (λ (t : List ℕ). StopsBehind limit now.gathering.wanted t (lead.gathered.made ++ (one ++ two))) whole
    (subst (λ (m : List Made). StopsBehind limit now.gathering.wanted (((read ++ take used octets) ++ block) ++ rest) m) made (stops limit (read ++ take used octets) led.0 rest))))

pub header-stops : (limit : Extent) (wanted : Wanted) (read octets : List ℕ) (used : ℕ) (now : Progress) (fault : Fault) → now.gathering.wanted ≡ wanted
    → HeaderFails now.context now.at (rest_of used octets) fault
    → LeadTo limit (read ++ take used octets) now → Stops limit wanted (read ++ octets) fault
header-stops limit wanted read octets used now fault same header lead =
    stops-behind limit wanted read octets used now same lead fault
    (subst (λ (t : List ℕ). StopsAt now.gathering.wanted now.gathering.senders (passage_in now) now.context now.at t fault) (rest_is used octets) (inl header))

pub block-stops : (limit : Extent) (wanted : Wanted) (read octets block : List ℕ) (used : ℕ) (now : Progress) (fault : Fault) → now.gathering.wanted ≡ wanted
    → BeginsBlock now.context now.at (rest_of used octets) block → BlockFails now.gathering.wanted now.gathering.senders (passage_in now) now.context now.at block fault
    → LeadTo limit (read ++ take used octets) now → Stops limit wanted (read ++ octets) fault
block-stops limit wanted read octets block used now fault same begins fails lead =
    stops-behind limit wanted read octets used now same lead fault
    (subst (λ (t : List ℕ). StopsAt now.gathering.wanted now.gathering.senders (passage_in now) now.context now.at t fault) (rest_is used octets) (inr (block, begins, fails)))

pub block-needs : (limit : Extent) (wanted : Wanted) (read octets block : List ℕ) (used : ℕ) (now : Progress) → now.gathering.wanted ≡ wanted
    → BeginsBlock now.context now.at (rest_of used octets) block
    → ((content : Content) × (block_said now.context now.at block ≡ Ok content) × BlockNeedsMemory now.gathering.wanted now.gathering.senders content)
    → LeadTo limit (read ++ take used octets) now → NeedsMemory limit wanted read octets
block-needs limit wanted read octets block used now same begins (content, said, needs) lead =
    needs-behind limit wanted read octets used now same lead
    (subst (NeedsMemoryAt now.gathering.wanted now.gathering.senders now.context now.at) (rest_is used octets) (inr (block, content, begins, said, needs)))

-- want of memory, or what is said of the fault else
pub else-by : {M P Q : Type 0} → (P → Q) → M ⊎ P → M ⊎ Q
else-by goes (inl memory) = inl memory
else-by goes (inr holds) = inr (goes holds)

pub some_of : {X : Type 0} (found : Option X) (x : X) (P : X → Type 0) → found ≡ Some x → IfSome found P → P x
some_of found x P is holds = subst (λ o. IfSome o P) is holds
