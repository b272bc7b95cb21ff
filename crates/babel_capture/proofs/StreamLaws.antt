-- Octets in pieces.
use Rattle.std.proofs.Common.{◌≡◌, ◌≢◌, ◌≤◌, ◌+◌, ◌-◌, ℕ, List, [], ◌++◌, length, take, drop, refl, sym, ap, subst, ◌∙◌, append_assoc, inl, inr, arith}
use Rattle.std.specs.Prelude.{Ok, Err, Result, OnOk, Option, Some, None, ◌⊎◌}
use Rattle.std.proofs.lemmas.List.{append-nil, take-append-drop, take-append-le, length-append}
use Rattle.babel_capture.specs.declared.fault.Fault.{Fault}
use Rattle.babel_capture.specs.declared.fault.Fault.TheVariants as faults
use Rattle.babel_capture.specs.declared.wanted.Wanted.{Wanted}
use Rattle.babel_capture.specs.Blocks.{BlockAt, IsEnd, IsPartial, header_of, octets_of, passage_of, sightings_of, sightings_to_end, start, context_behind}
use Rattle.babel_capture.specs.Capture.{CaptureFault, EndsLost, HasFailed, HasRead, HasReadTo, IsRead, IsReadToCut, IsShortBy, State}
use Rattle.babel_capture.specs.Context.{Before}
use Rattle.babel_capture.specs.Gathering.{AreTaken, Gathering, IsGathered, IsRefused}
use Rattle.babel_capture.specs.Passage.{Passage, Sighting, missing_in}
use Rattle.babel_capture.specs.Lengths.{header_len, block_len}
use Rattle.babel_capture.specs.Reading.{Progress, LeadTo, HasStarted, HasTaken, IsPending, NeedsMemory, PieceFails, PieceNeedsMemory, Stops, StopsAt}
use Rattle.babel_capture.specs.Counts.{Made}
use Rattle.babel_capture.specs.Sinking.{EndMore, FeedMore, GatherMore, LeadMore, Sinks, StopLead, StopMore}
use Rattle.babel_capture.specs.Tallies.{Senders, senders_listed}
use Rattle.babel_capture.proofs.OneCapture.{some_header}
use Rattle.babel_capture.proofs.SinkLaws.{sinks-as, sinks-none}
use Rattle.babel_capture.specs.Window.{Extent}

-- ---- what is pending

not-end : (before : Before) (at : ℕ) → ¬ IsEnd before at []
not-end before at (header, ends) = omega (arith, header, some_header before.layout)

end-longer : (before : Before) (at : ℕ) (rest more : List ℕ) → IsEnd before at rest → IsEnd before at (rest ++ more)
end-longer before at rest more (header, ends) =
    (omega (arith, header, length-append rest more), ap (block_len before at) (take-append-le (header_len before.layout) rest more header) ∙ ends)

-- but at the end it is all that is left
kept-all : (progress : Progress) (rest pending : List ℕ) → IsPending progress rest pending → ¬ IsEnd progress.context progress.at pending → pending ≡ rest
kept-all progress rest pending (inl same, size) not = same
kept-all progress rest pending (inr (end, told), size) not = absurd (not told)

kept-end : (progress : Progress) (rest pending : List ℕ) → IsPending progress rest pending → IsEnd progress.context progress.at pending → IsEnd progress.context progress.at rest
kept-end progress rest pending (inl same, size) told = subst (IsEnd progress.context progress.at) same told
kept-end progress rest pending (inr (end, told), size) too = end

-- none of it is nothing
none-left : (progress : Progress) (rest pending : List ℕ) → IsPending progress rest pending → pending ≡ [] → rest ≡ []
none-left progress rest pending (inl same, size) none = sym same ∙ none
none-left progress rest pending (inr (end, told), size) none = absurd (not-end progress.context progress.at (subst (IsEnd progress.context progress.at) none told))

none-kept : (progress : Progress) (rest pending : List ℕ) → IsPending progress rest pending → rest ≡ [] → pending ≡ []
none-kept progress rest pending (inl same, size) none = same ∙ none
none-kept progress rest pending (inr (end, told), size) none = absurd (not-end progress.context progress.at (subst (IsEnd progress.context progress.at) none end))

fed-is : (limit : Extent) (progress : Progress) (pending fed : List ℕ) → ¬ IsEnd progress.context progress.at pending → (taken : HasTaken limit progress pending fed) → fed ≡ taken.read ++ pending
fed-is limit progress pending fed not taken = taken.whole ∙ ap (λ (t : List ℕ). taken.read ++ t) (sym (kept-all progress taken.rest pending taken.kept not))

all-fed : (limit : Extent) (old : Progress) (pending fed piece all : List ℕ) → ¬ IsEnd old.context old.at pending → all ≡ pending ++ piece → (taken : HasTaken limit old pending fed)
    → fed ++ piece ≡ taken.read ++ all
all-fed limit old pending fed piece all not is taken =
    ap (λ (t : List ℕ). t ++ piece) (fed-is limit old pending fed not taken) ∙ append_assoc taken.read pending piece ∙ ap (λ (t : List ℕ). taken.read ++ t) (sym is)

pub none-ends : (progress : Progress) (pending : List ℕ) → pending ≡ [] → ¬ IsEnd progress.context progress.at pending
none-ends progress pending none end = not-end progress.context progress.at (subst (IsEnd progress.context progress.at) none end)

-- what comes after the end is passed over, and counted
module _ (limit : Extent) (old : Progress) (pending fed piece : List ℕ) (told : IsEnd old.context old.at pending) (taken : HasTaken limit old pending fed) where
  end-now : IsEnd old.context old.at (taken.rest ++ piece)
  end-now = end-longer old.context old.at taken.rest piece (kept-end old taken.rest pending taken.kept told)

  whole-now : fed ++ piece ≡ taken.read ++ (taken.rest ++ piece)
  whole-now = ap (λ (t : List ℕ). t ++ piece) taken.whole ∙ append_assoc taken.read taken.rest piece

  size-now : length (taken.rest ++ piece) ≡ length pending + (old.passed + length piece)
  size-now = omega (arith, taken.kept.1, length-append taken.rest piece)

  end-more : (new : Progress) → new ≡ record old { passed = old.passed + length piece } → length pending + (old.passed + length piece) ≤ old.context.limit - old.at
      → (now : HasTaken limit new pending (fed ++ piece)) × (now.leads.gathered.made ≡ taken.leads.gathered.made ++ [])
  end-more new is few = subst (λ (p : Progress). (now : HasTaken limit p pending (fed ++ piece)) × (now.leads.gathered.made ≡ taken.leads.gathered.made ++ [])) (sym is) (
    record {
      read = taken.read;
      rest = taken.rest ++ piece;
      whole = whole-now;
      leads = record {
        blocks = taken.leads.blocks;
        whole = taken.leads.whole;
        are_blocks = taken.leads.are_blocks;
        place = taken.leads.place;
        context = taken.leads.context;
        gathered = taken.leads.gathered;
        names = taken.leads.names;
        passage = taken.leads.passage;
      };
      partial = inr (inr (end-now, omega (arith, few, size-now)));
      kept = (inr (end-now, told), size-now);
    },
    sym (append-nil taken.leads.gathered.made),
  )

pub feed-next : (piece pending all left : List ℕ) (used : ℕ) (old new : Progress) (more : List Made) → ¬ IsEnd old.context old.at pending → new.passed ≡ old.passed → all ≡ pending ++ piece → left ≡ drop used all
    → LeadMore old new (take used all) more → IsPartial new.context new.at (drop used all) → FeedMore old pending new left piece more
feed-next piece pending all left used old new more not passed is_all is_left took partial limit fed taken =
    let led = took limit taken.read taken.leads in (
      record {
        read = taken.read ++ take used all;
        rest = left;
        whole = all-fed limit old pending fed piece all not is_all taken ∙ ap (λ (t : List ℕ). taken.read ++ t) (sym (take-append-drop used all))
            ∙ sym (append_assoc taken.read (take used all) (drop used all)) ∙ ap (λ (t : List ℕ). (taken.read ++ take used all) ++ t) (sym is_left);
        leads = led.0;
        partial = subst (λ (t : List ℕ). IsPartial new.context new.at t) (sym is_left) partial;
        kept = (inl refl, (let same : pending ≡ taken.rest = kept-all old taken.rest pending taken.kept not in omega (arith, passed, taken.kept.1, ap length same)));
      },
      led.1,
    )

pub sinks-next : {S : Type 0} (has : S → S → List Made → Type 0) (before after : S) (piece pending all left : List ℕ) (used : ℕ) (old new : Progress) → ¬ IsEnd old.context old.at pending → new.passed ≡ old.passed
    → all ≡ pending ++ piece → left ≡ drop used all → Sinks has before after (LeadMore old new (take used all)) → IsPartial new.context new.at (drop used all)
    → Sinks has before after (FeedMore old pending new left piece)
sinks-next has before after piece pending all left used old new not passed is_all is_left sinks partial =
    sinks-as has before after _ _ (λ more goes. feed-next piece pending all left used old new more not passed is_all is_left goes partial) sinks

-- where a piece stops, nothing was read of it, or what its octets led to
pub stop-none : (old : Progress) (pending piece : List ℕ) → StopMore old pending piece []
stop-none old pending piece limit fed taken = rw (append-nil taken.leads.gathered.made) (record {
  blocks = taken.leads.blocks;
  rest = taken.rest ++ piece;
  whole = ap (λ (t : List ℕ). t ++ piece) (taken.whole ∙ ap (λ (t : List ℕ). t ++ taken.rest) taken.leads.whole) ∙ append_assoc (octets_of taken.leads.blocks) taken.rest piece;
  are_blocks = taken.leads.are_blocks;
  front = sightings_of taken.leads.blocks;
  back = [];
  parts = sym (append-nil (sightings_of taken.leads.blocks));
  taken = taken.leads.gathered.taken;
})

pub sinks-stop : {S : Type 0} (has : S → S → List Made → Type 0) (before after : S) (old : Progress) (pending piece all : List ℕ) → ¬ IsEnd old.context old.at pending → all ≡ pending ++ piece
    → Sinks has before after (StopLead old all) → Sinks has before after (StopMore old pending piece)
sinks-stop has before after old pending piece all not is = sinks-as has before after _ _ (λ more stops limit fed taken.
    rw (all-fed limit old pending fed piece all not is taken) (stops limit taken.read taken.leads))

-- ---- memory

-- where nothing is pending, what is needed for a piece is needed after the octets that were read
pub needs-here : (old : Progress) (pending piece : List ℕ) → pending ≡ [] → ((limit : Extent) (read : List ℕ) → LeadTo limit read old → NeedsMemory limit old.gathering.wanted read piece)
    → PieceNeedsMemory old pending piece
needs-here old pending piece none needs limit fed taken =
    subst (λ (t : List ℕ). NeedsMemory limit old.gathering.wanted t piece) (sym (fed-is limit old pending fed (none-ends old pending none) taken ∙ ap (λ (t : List ℕ). taken.read ++ t) none ∙ append-nil taken.read))
    (needs limit taken.read taken.leads)

pub needs-fed : (state : State) (fault : Fault) (piece : List ℕ) → state.fault ≡ None → (fault ≡ faults.Memory → (state.pending ≢ []) ⊎ PieceNeedsMemory state.progress state.pending piece)
    → fault ≡ faults.Memory → (state.fault ≡ Some faults.Memory) ⊎ (state.pending ≢ []) ⊎ ((fed : List ℕ) → HasRead state fed → NeedsMemory state.limit state.progress.gathering.wanted fed piece)
needs-fed state fault piece is needs memory = elim (needs memory) [
  | inl some ↦ inr (inl some)
  | inr needed ↦ inr (inr (λ fed read. needed state.limit fed (subst (λ (f : Option Fault). HasReadTo state f fed) is read)))
]

-- ---- a fault stays, however the octets go on

module _ (wanted : Wanted) (senders : Senders) (passage : Passage) (before : Before) (at : ℕ) (rest more : List ℕ) (fault : Fault) where
  stops-more-at : StopsAt wanted senders passage before at rest fault → StopsAt wanted senders passage before at (rest ++ more) fault
  stops-more-at (inl (inr (end, past, told))) = inl (inr (end-longer before at rest more end, omega (arith, past, length-append rest more), told))
  stops-more-at (inl (inl (header, refused))) =
      let same : header_of before (rest ++ more) ≡ header_of before rest = take-append-le (header_len before.layout) rest more header in
      inl (inl (
        omega (arith, header, length-append rest more),
        subst (λ (t : List ℕ). block_len before at t ≡ Err fault) (sym same) refused,
      ))
  stops-more-at (inr (block, begins, fails)) =
      inr (
        block,
        record {
          fits = omega (arith, begins.fits, length-append rest more);
          front = begins.front ∙ sym (take-append-le (length block) rest more begins.fits);
          is_block = begins.is_block;
        },
        fails,
      )

pub stops-more : (limit : Extent) (wanted : Wanted) (octets more : List ℕ) (fault : Fault) → Stops limit wanted octets fault → Stops limit wanted (octets ++ more) fault
stops-more limit wanted octets more fault stops = record {
  blocks = stops.blocks;
  rest = stops.rest ++ more;
  made = stops.made;
  whole = ap (λ (t : List ℕ). t ++ more) stops.whole ∙ append_assoc (octets_of stops.blocks) stops.rest more;
  are_blocks = stops.are_blocks;
  taken = stops.taken;
  stops = stops-more-at wanted (senders_listed wanted.are_listed stops.made) (passage_of stops.blocks) (context_behind (start limit) stops.blocks) (length (octets_of stops.blocks)) stops.rest more fault stops.stops;
}

-- ---- a piece in two parts, one after the other

-- from here the octets lead there; or they have this fault
abbrev pub Takes : Progress → List ℕ → Progress → List ℕ → List ℕ → Type 0
Takes old before new after piece = (limit : Extent) (fed : List ℕ) → HasTaken limit old before fed → HasTaken limit new after (fed ++ piece)

-- they do, where a sink takes their packets
pub takes-sunk : {S : Type 0} (has : S → S → List Made → Type 0) (before after : S) (old new : Progress) (pending left piece : List ℕ) → Sinks has before after (FeedMore old pending new left piece)
    → Takes old pending new left piece
takes-sunk has before after old new pending left piece sinks limit fed taken = (sinks.are_read limit fed taken).0

pub fails-here : (old : Progress) (pending piece all : List ℕ) (fault : Fault) → ¬ IsEnd old.context old.at pending → all ≡ pending ++ piece
    → (fault ≡ faults.Memory) ⊎ ((limit : Extent) (read : List ℕ) → LeadTo limit read old → Stops limit old.gathering.wanted (read ++ all) fault)
    → PieceFails old pending piece fault
fails-here old pending piece all fault not is (inl memory) = inl memory
fails-here old pending piece all fault not is (inr stops) = inr (λ limit fed taken.
    subst (λ (t : List ℕ). Stops limit old.gathering.wanted t fault) (sym (all-fed limit old pending fed piece all not is taken)) (stops limit taken.read taken.leads))

-- octets after the end are passed over, or go past the limit
pub passed-over : {A S : Type 0} (has : S → S → List Made → Type 0) (sink : S) (r : Result A Fault) (old new : Progress) (pending kept piece : List ℕ) → IsEnd old.context old.at pending → kept ≡ pending
    → OnOk r ((new ≡ record old { passed = old.passed + length piece }) × (length kept + (old.passed + length piece) ≤ old.context.limit - old.at))
    → OnOk r (Sinks has sink sink (FeedMore old pending new pending piece))
passed-over has sink (Ok value) old new pending kept piece told same (is, few) =
    sinks-none has sink (FeedMore old pending new pending piece)
    (λ limit fed taken. end-more limit old pending fed piece told taken new is (subst (λ (t : List ℕ). length t + (old.passed + length piece) ≤ old.context.limit - old.at) same few))
passed-over has sink (Err fault) old new pending kept piece told same is = tt

module _ (front back piece : List ℕ) (whole : front ++ back ≡ piece) where
  behind : (fed : List ℕ) → (fed ++ front) ++ back ≡ fed ++ piece
  behind fed = append_assoc fed front back ∙ ap (λ (t : List ℕ). fed ++ t) whole

  pub feed-both : (old next new : Progress) (before between after : List ℕ) (one two : List Made) → FeedMore old before next between front one → FeedMore next between new after back two
      → FeedMore old before new after piece (one ++ two)
  feed-both old next new before between after one two goes goes_on limit fed taken =
      let first = goes limit fed taken in
      let second = goes_on limit (fed ++ front) first.0 in
      subst (λ (t : List ℕ). (now : HasTaken limit new after t) × (now.leads.gathered.made ≡ taken.leads.gathered.made ++ (one ++ two))) (behind fed)
      (second.0, second.1 ∙ ap (λ (m : List Made). m ++ two) first.1 ∙ append_assoc taken.leads.gathered.made one two)

  pub fails-first : (old : Progress) (before : List ℕ) (fault : Fault) → PieceFails old before front fault → PieceFails old before piece fault
  fails-first old before fault (inl memory) = inl memory
  fails-first old before fault (inr stops) = inr (λ limit fed taken.
      subst (λ (t : List ℕ). Stops limit old.gathering.wanted t fault) (behind fed) (stops-more limit old.gathering.wanted (fed ++ front) back fault (stops limit fed taken)))

  pub fails-later : (old next : Progress) (before between : List ℕ) (fault : Fault) → next.gathering.wanted ≡ old.gathering.wanted → Takes old before next between front
      → PieceFails next between back fault → PieceFails old before piece fault
  fails-later old next before between fault same one (inl memory) = inl memory
  fails-later old next before between fault same one (inr stops) = inr (λ limit fed taken.
      subst (λ (w : Wanted). Stops limit w (fed ++ piece) fault) same
      (subst (λ (t : List ℕ). Stops limit next.gathering.wanted t fault) (behind fed) (stops limit (fed ++ front) (one limit fed taken))))

  pub stop-first : (old : Progress) (before : List ℕ) (more : List Made) → StopMore old before front more → StopMore old before piece more
  stop-first old before more stops limit fed taken =
      let at_front = stops limit fed taken in
      record {
        blocks = at_front.blocks;
        rest = at_front.rest ++ back;
        whole = sym (behind fed) ∙ ap (λ (t : List ℕ). t ++ back) at_front.whole ∙ append_assoc (octets_of at_front.blocks) at_front.rest back;
        are_blocks = at_front.are_blocks;
        front = at_front.front;
        back = at_front.back;
        parts = at_front.parts;
        taken = at_front.taken;
      }

  pub stop-later : (old next : Progress) (before between : List ℕ) (one two : List Made) → next.gathering.wanted ≡ old.gathering.wanted → FeedMore old before next between front one
      → StopMore next between back two → StopMore old before piece (one ++ two)
  stop-later old next before between one two same goes stops limit fed taken =
      let first = goes limit fed taken in
      rw (sym same, sym (behind fed), sym (append_assoc taken.leads.gathered.made one two), sym first.1) (stops limit (fed ++ front) first.0)

pub split-whole : (n : ℕ) (front back piece : List ℕ) → front ≡ take n piece → back ≡ drop n piece → front ++ back ≡ piece
split-whole n front back piece is_front is_back = ap (λ (t : List ℕ). t ++ back) is_front ∙ ap (λ (t : List ℕ). take n piece ++ t) is_back ∙ take-append-drop n piece

-- ---- the end

module _ (limit : Extent) (progress : Progress) (pending fed : List ℕ) (taken : HasTaken limit progress pending fed) where
  abbrev blocks : List BlockAt
  blocks = taken.leads.blocks

  whole-blocks : fed ≡ octets_of blocks ++ taken.rest
  whole-blocks = taken.whole ∙ ap (λ (t : List ℕ). t ++ taken.rest) taken.leads.whole

  place_is : progress.at ≡ length (octets_of blocks)
  place_is = taken.leads.place ∙ ap length taken.leads.whole

  partial-behind : IsPartial (context_behind (start limit) blocks) (length (octets_of blocks)) taken.rest
  partial-behind = subst (λ (n : ℕ). IsPartial (context_behind (start limit) blocks) n taken.rest) place_is
      (subst (λ (c : Before). IsPartial c progress.at taken.rest) taken.leads.context taken.partial)

  missing-here : missing_in progress.known.unfinished ≡ missing_in (passage_of blocks).known.unfinished
  missing-here = ap (λ (p : Passage). missing_in p.known.unfinished) taken.leads.passage

  pub lost-here : (fault : Fault) → IsRefused progress.gathering.wanted progress.gathering.senders (missing_in progress.known.unfinished) fault → EndsLost limit progress.gathering.wanted fed fault
  lost-here fault refuses = record {
    blocks = blocks;
    rest = taken.rest;
    made = taken.leads.gathered.made;
    whole = whole-blocks;
    are_blocks = taken.leads.are_blocks;
    taken = taken.leads.gathered.taken;
    partial = partial-behind;
    lost = subst (λ (s : Senders). IsRefused progress.gathering.wanted s (missing_in (passage_of blocks).known.unfinished) fault) taken.leads.gathered.senders
        (subst (λ (s : List Sighting). IsRefused progress.gathering.wanted progress.gathering.senders s fault) missing-here refuses);
  }

  pub ends-lost : (fault : Fault) → IsRefused progress.gathering.wanted progress.gathering.senders (missing_in progress.known.unfinished) fault → CaptureFault limit progress.gathering.wanted fed fault
  ends-lost fault refuses = inr (inr (lost-here fault refuses))

  -- where the datagrams that are known are taken, of which fragments are missing
  module _ (new : Gathering) (more : List Made) (goes : GatherMore progress.gathering new (missing_in progress.known.unfinished) more) where
    at-end : (now : IsGathered (sightings_to_end blocks) new) × (now.made ≡ taken.leads.gathered.made ++ more)
    at-end = subst (λ (s : List Sighting). (now : IsGathered (sightings_of blocks ++ s) new) × (now.made ≡ taken.leads.gathered.made ++ more)) missing-here
        (goes (sightings_of blocks) taken.leads.gathered)

    pub ends-short : (fault : Fault) → new.wanted ≡ progress.gathering.wanted → IsShortBy progress.context progress.at taken.rest fault → CaptureFault limit progress.gathering.wanted fed fault
    ends-short fault same short = inr (inl (record {
      blocks = blocks;
      rest = taken.rest;
      made = at-end.0.made;
      whole = whole-blocks;
      are_blocks = taken.leads.are_blocks;
      taken = subst (λ (w : Wanted). AreTaken w (sightings_to_end blocks) at-end.0.made) same at-end.0.taken;
      partial = partial-behind;
      short = subst (λ (n : ℕ). IsShortBy (context_behind (start limit) blocks) n taken.rest fault) place_is
          (subst (λ (c : Before). IsShortBy c progress.at taken.rest fault) taken.leads.context short);
    }))

    pub read-to-end : (cut : Option ℕ) → HasStarted progress.context → new.names ≡ progress.gathering.names → ((pending ≡ []) × (cut ≡ None)) ⊎ ((pending ≢ []) × (cut ≡ Some progress.at))
        → (now : IsReadToCut limit fed new cut) × (now.is_read.gathered.made ≡ taken.leads.gathered.made ++ more)
    read-to-end cut started names which = (
      record {
        read = taken.read;
        rest = taken.rest;
        whole = taken.whole;
        is_read = record {
          blocks = blocks;
          whole = taken.leads.whole;
          are_blocks = taken.leads.are_blocks;
          started = subst HasStarted taken.leads.context started;
          gathered = at-end.0;
          names = names ∙ taken.leads.names;
        };
        partial = subst (λ (n : ℕ). IsPartial (context_behind (start limit) blocks) n taken.rest) taken.leads.place
            (subst (λ (c : Before). IsPartial c progress.at taken.rest) taken.leads.context taken.partial);
        where_cut = subst (λ (n : ℕ). ((taken.rest ≡ []) × (cut ≡ None)) ⊎ ((taken.rest ≢ []) × (cut ≡ Some n))) taken.leads.place (elim which [
          | inl none ↦ inl (none-left progress taken.rest pending taken.kept none.0, none.1)
          | inr some ↦ inr ((λ none. some.0 (none-kept progress taken.rest pending taken.kept none)), some.1)
        ]);
      },
      at-end.1,
    )

pub told-to-end : (progress : Progress) (pending : List ℕ) (new : Gathering) (cut : Option ℕ) → HasStarted progress.context → new.names ≡ progress.gathering.names
    → ((pending ≡ []) × (cut ≡ None)) ⊎ ((pending ≢ []) × (cut ≡ Some progress.at)) → (more : List Made) → GatherMore progress.gathering new (missing_in progress.known.unfinished) more
    → EndMore progress pending new cut more
told-to-end progress pending new cut started names which more goes limit fed taken = read-to-end limit progress pending fed taken new more goes cut started names which

pub not-started : (progress : Progress) (pending : List ℕ) (new : Gathering) → ¬ HasStarted progress.context → new.wanted ≡ progress.gathering.wanted
    → (more : List Made) → GatherMore progress.gathering new (missing_in progress.known.unfinished) more → (limit : Extent) (fed : List ℕ) → HasTaken limit progress pending fed
    → CaptureFault limit progress.gathering.wanted fed faults.NotCapture
not-started progress pending new not same more goes limit fed taken = ends-short limit progress pending fed taken new more goes faults.NotCapture same (inl (not, refl))

-- what is read to its end
none_cut : (rest : List ℕ) (cut : Option ℕ) (at : ℕ) → cut ≡ None → ((rest ≡ []) × (cut ≡ None)) ⊎ ((rest ≢ []) × (cut ≡ Some at)) → rest ≡ []
none_cut rest cut at is (inl (none, told)) = none
none_cut rest cut at is (inr (some, told)) = (let both : None ≡ Some at = sym is ∙ told in absurd cc)

pub all_read : (limit : Extent) (fed : List ℕ) (gathering : Gathering) → IsReadToCut limit fed gathering None → IsRead limit fed gathering
all_read limit fed gathering is =
    let none : is.rest ≡ [] = none_cut is.rest None (length is.read) refl is.where_cut in
    subst (λ (t : List ℕ). IsRead limit t gathering) (sym (append-nil is.read) ∙ ap (λ (t : List ℕ). is.read ++ t) (sym none) ∙ sym is.whole) is.is_read

-- or is cut short within a block
some_cut : (rest : List ℕ) (cut : Option ℕ) (at place : ℕ) → cut ≡ Some at → ((rest ≡ []) × (cut ≡ None)) ⊎ ((rest ≢ []) × (cut ≡ Some place)) → (rest ≢ []) × (at ≡ place)
some_cut rest cut at place is (inl (none, told)) = (let both : None ≡ Some at = sym told ∙ is in absurd cc)
some_cut rest cut at place is (inr (some, told)) = (let both : Some at ≡ Some place = sym is ∙ told in (some, cc))

pub cut_short : (limit : Extent) (fed : List ℕ) (gathering : Gathering) (at : ℕ) → IsReadToCut limit fed gathering (Some at) → CaptureFault limit gathering.wanted fed (faults.CutShort at)
cut_short limit fed gathering at is =
    let blocks = is.is_read.blocks in
    let size : length is.read ≡ length (octets_of blocks) = ap length is.is_read.whole in
    let told = some_cut is.rest (Some at) at (length is.read) refl is.where_cut in
    inr (inl (record {
      blocks = blocks;
      rest = is.rest;
      made = is.is_read.gathered.made;
      whole = is.whole ∙ ap (λ (t : List ℕ). t ++ is.rest) is.is_read.whole;
      are_blocks = is.is_read.are_blocks;
      taken = is.is_read.gathered.taken;
      partial = subst (λ (n : ℕ). IsPartial (context_behind (start limit) blocks) n is.rest) size is.partial;
      short = inr (is.is_read.started, told.0, ap faults.CutShort (told.1 ∙ size));
    }))

-- ---- after a fault

pub failed-more : (state : State) (fault : Fault) (fed piece : List ℕ) → HasFailed state fault fed → HasFailed state fault (fed ++ piece)
failed-more state fault fed piece (inl memory) = inl memory
failed-more state fault fed piece (inr stops) = inr (stops-more state.limit state.progress.gathering.wanted fed piece fault stops)

pub stays-read : (state : State) (fault : Fault) (fed piece : List ℕ) → state.fault ≡ Some fault → HasRead state fed → HasRead state (fed ++ piece)
stays-read state fault fed piece is read =
    subst (λ (f : Option Fault). HasReadTo state f (fed ++ piece)) (sym is) (failed-more state fault fed piece (subst (λ (f : Option Fault). HasReadTo state f fed) is read))

pub failed-fault : (state : State) (fault : Fault) (fed : List ℕ) → state.fault ≡ Some fault → fault ≢ faults.Memory → HasRead state fed
    → CaptureFault state.limit state.progress.gathering.wanted fed fault
failed-fault state fault fed is not read = by (subst (λ (f : Option Fault). HasReadTo state f fed) is read)
  where
    by : HasFailed state fault fed → CaptureFault state.limit state.progress.gathering.wanted fed fault
    by (inl memory) = absurd (not memory)
    by (inr stops) = inl stops

pub failed-next : (state : State) (fault : Fault) (piece : List ℕ) → state.fault ≡ None → PieceFails state.progress state.pending piece fault
    → fault ≢ faults.Memory → (fed more : List ℕ) → HasRead state fed → CaptureFault state.limit state.progress.gathering.wanted ((fed ++ piece) ++ more) fault
failed-next state fault piece is (inl memory) not fed more read = absurd (not memory)
failed-next state fault piece is (inr stops) not fed more read =
    inl (stops-more state.limit state.progress.gathering.wanted (fed ++ piece) more fault (stops state.limit fed (subst (λ (f : Option Fault). HasReadTo state f fed) is read)))

-- ---- a piece more, without a fault

pub read-more : {S : Type 0} (has : S → S → List Made → Type 0) (before after : S) (old new : State) (piece : List ℕ) → old.fault ≡ None → new.fault ≡ None → new.limit ≡ old.limit
    → Sinks has before after (FeedMore old.progress old.pending new.progress new.pending piece) → (fed : List ℕ) → HasRead old fed → HasRead new (fed ++ piece)
read-more has before after old new piece sound sound_too limit sinks fed read =
    subst (λ (f : Option Fault). HasReadTo new f (fed ++ piece)) (sym sound_too)
    (subst (λ (l : Extent). HasTaken l new.progress new.pending (fed ++ piece)) (sym limit)
    (sinks.are_read old.limit fed (subst (λ (f : Option Fault). HasReadTo old f fed) sound read)).0)
