-- What a reader gave so far, piece by piece, a capture was fed, and a sink took the packets of it.
use Rattle.std.proofs.Common.{◌≡◌, ◌≢◌, refl, ℕ, ◌+◌, ◌<◌, ◌≤◌, List, [], ◌∷◌, ◌++◌, length, take, Option, None, Some, arith, ap, append-nil, append_assoc, length-append, length-take, subst, sym, ◌∙◌, inl, inr}
use Rattle.babel_capture.specs.Blocks.{AreBlocks, BlockAt, octets_of, sightings_of, start}
use Rattle.babel_capture.specs.Capture.{HasRead, HasReadTo, State}
use Rattle.babel_capture.specs.Context.{Before}
use Rattle.babel_capture.specs.Counts.{Made}
use Rattle.babel_capture.specs.Gathering.{AreMade}
use Rattle.babel_capture.specs.Reading.{HasTaken, Progress, Stops}
use Rattle.babel_capture.specs.Sinking.{FeedMore, Sinks, StopMore}
use Rattle.babel_capture.specs.Window.{Extent}
use Rattle.babel_capture.specs.declared.fault.Fault.{Fault}
use Rattle.babel_capture.specs.declared.fault.Fault.TheVariants as faults
use Rattle.babel_capture.specs.declared.wanted.Wanted.{Wanted}
use Rattle.babel_capture.proofs.OneCapture.{some_header}
use Rattle.babel_dump.specs.CaptureGiven.{CaptureInput, IsFaultOfCapture, IsFedWhole, Took, TookSome, extent_of}
use Rattle.babel_dump.specs.Device.{Gave, InputState, IsSpent}
use Rattle.babel_dump.specs.declared.capture_reading.CaptureReading.{CaptureReading}
use Rattle.babel_dump.proofs.CaptureLimits.{taken_within}
use Rattle.babel_dump.proofs.Devices.{gave_more, gave_none}

-- ---- a capture of which nothing was read

no_parts : {A : Type 0} (a b : List A) → a ++ b ≡ [] → (a ≡ []) × (b ≡ [])
no_parts [] b is = (refl, is)
no_parts (x ∷ a) b is = absurd (let bad : x ∷ (a ++ b) ≡ [] = is in cc)

no_blocks : (before : Before) (at : ℕ) (blocks : List BlockAt) → AreBlocks before at blocks → octets_of blocks ≡ [] → blocks ≡ []
no_blocks before at [] are none = refl
no_blocks before at (block ∷ blocks) (here, is, said, are) none =
    absurd (let len : length (block.octets ++ octets_of blocks) ≡ 0 = ap length none in omega (arith, len, is.header, some_header before.layout, length-append block.octets (octets_of blocks)))

-- nothing is made of it
pub unread : (extent : Extent) (progress : Progress) (pending : List ℕ) (is : HasTaken extent progress pending []) → is.leads.gathered.made ≡ []
unread extent progress pending is =
    let blocks : is.leads.blocks ≡ [] =
    no_blocks (start extent) 0 is.leads.blocks is.leads.are_blocks (sym is.leads.whole ∙ (no_parts is.read is.rest (sym is.whole)).0) in
    subst (λ (bs : List BlockAt). AreMade progress.gathering.wanted (sightings_of bs) is.leads.gathered.made) blocks is.leads.gathered.taken.are_made

-- ---- piece by piece

-- a fault that is kept is want of memory, or that of the octets however they go on
kept_stops : (f : State) (fault : Fault) (octets : List ℕ) → fault ≢ faults.Memory → f.fault ≡ Some fault → HasRead f octets
    → Stops f.limit f.progress.gathering.wanted octets fault
kept_stops f fault octets not_memory is read =
    elim (subst (λ (kept : Option Fault). HasReadTo f kept octets) is read) [ inl memory ↦ absurd (not_memory memory) | inr stops ↦ stops ]

-- the capture is read so
pub record IsReadFrom (f : State) (reading : CaptureReading) (whose : Wanted) : Type 0 where
  pub limit : f.limit ≡ extent_of reading
  pub wanted : f.progress.gathering.wanted ≡ whose

-- the reader gave these octets, at least one in each turn, which is what the capture was fed, and the sink took its packets
pub record IsFedSoFar {S : Type 0} (has : S → S → List Made → Type 0) (first now : S) (f : State) (old new : InputState) (turns : ℕ) : Type 0 where
  pub octets : List ℕ
  pub taken : HasTaken f.limit f.progress f.pending octets
  pub gave : Gave old new octets
  pub some_each : turns ≤ length octets
  pub took : Took has first now taken.leads.gathered.made

module _ {S : Type 0} (has : S → S → List Made → Type 0) (first : S) where
  pub fed_none : (f : State) (a : InputState) → f.fault ≡ None → HasRead f [] → Gave a a [] → IsFedSoFar has first first f a a 0
  fed_none f a no_fault read gave =
      let taken : HasTaken f.limit f.progress f.pending [] = subst (λ (fault : Option Fault). HasReadTo f fault []) no_fault read in
      let none : taken.leads.gathered.made ≡ [] = unread f.limit f.progress f.pending taken in
      record {
        octets = [];
        taken = taken;
        gave = gave;
        some_each = omega arith;
        took = λ start before held. subst (λ (made : List Made). has start first made) (sym (append-nil before) ∙ ap (λ (made : List Made). before ++ made) (sym none)) held;
      }

  -- the sink took the packets of one more piece
  pub took_more : (now next : S) (made more : List Made) → Took has first now made
      → ((start : S) (before : List Made) → has start now before → has start next (before ++ more)) → Took has first next (made ++ more)
  took_more now next made more one two =
      λ start before held. subst (has start next) (append_assoc before made more) (two start (before ++ made) (one start before held))

  pub fed_more : (f h : State) (now next : S) (a b c : InputState) (turns n : ℕ) (buf : List ℕ) → IsFedSoFar has first now f a b turns → h.limit ≡ f.limit
      → Gave b c (take n buf) → Sinks has now next (FeedMore f.progress f.pending h.progress h.pending (take n buf))
      → 0 < n → n ≤ length buf → IsFedSoFar has first next h a c (turns + 1)
  fed_more f h now next a b c turns n buf so_far same gave sunk some within =
      let fed = sunk.are_read f.limit so_far.octets so_far.taken in
      let on : (made : List Made) → made ≡ so_far.taken.leads.gathered.made ++ sunk.more → Took has first next made = λ made is.
      subst (Took has first next) (sym is) (took_more now next so_far.taken.leads.gathered.made sunk.more so_far.took sunk.took) in
      let extent_is : f.limit ≡ h.limit = sym same in
      let as_fed : (extent : Extent) → f.limit ≡ extent → (taken : HasTaken (extent) h.progress h.pending (so_far.octets ++ take n buf))
      × Took has first next taken.leads.gathered.made = λ extent is.
      subst (λ (e : Extent). (taken : HasTaken e h.progress h.pending (so_far.octets ++ take n buf)) × Took has first next taken.leads.gathered.made)
      is (fed.0, on fed.0.leads.gathered.made fed.1) in
      let both = as_fed h.limit extent_is in
      record {
        octets = so_far.octets ++ take n buf;
        taken = both.0;
        gave = gave_more a b c _ _ so_far.gave gave;
        some_each = let _more = so_far.some_each in omega (arith, length-append so_far.octets (take n buf), length-take n buf);
        took = both.1;
      }

  -- the end was met
  pub fed_whole : (reader : CaptureInput) (f : State) (now : S) (b : InputState) (turns : ℕ) (buf : List ℕ) → f.fault ≡ None → IsFedSoFar has first now f reader.old b turns
      → Gave b reader.new (take 0 buf) → IsSpent reader.new → reader.old.ends < reader.new.ends → IsFedWhole has first now f reader
  fed_whole reader f now b turns buf no_fault so_far gave end met = record {
    given = so_far.octets;
    fed = subst (λ (fault : Option Fault). HasReadTo f fault so_far.octets) (sym no_fault) so_far.taken;
    gave = record { gave = gave_none reader.old b reader.new so_far.octets buf so_far.gave gave; all = end; met_end = met };
    taken = so_far.taken;
    took = so_far.took;
  }

  -- without a fault the turns are fewer than the limit and 24
  pub fed_within : (f : State) (now : S) (a b : InputState) (turns : ℕ) → IsFedSoFar has first now f a b turns → turns < f.limit.octets + 24
  fed_within f now a b turns so_far =
      let within : length so_far.octets < f.limit.octets + 24 = taken_within f.limit f.progress f.pending so_far.octets so_far.taken in
      let _some = so_far.some_each in
      omega arith

  -- what the sink took until then
  pub took_some : (reader : CaptureInput) (f : State) (now : S) (b : InputState) (turns : ℕ) (buf : List ℕ) → IsReadFrom f reader.reading reader.wanted
      → IsFedSoFar has first now f reader.old b turns → Gave b reader.new (take 0 buf) → TookSome has first now reader
  took_some reader f now b turns buf from so_far gave = record {
    given = so_far.octets;
    gave = gave_none reader.old b reader.new so_far.octets buf so_far.gave gave;
    made = so_far.taken.leads.gathered.made;
    begins = record {
      blocks = so_far.taken.leads.blocks;
      rest = so_far.taken.rest;
      whole = so_far.taken.whole ∙ ap (λ (front : List ℕ). front ++ so_far.taken.rest) so_far.taken.leads.whole;
      are_blocks = subst (λ (e : Extent). AreBlocks (start e) 0 so_far.taken.leads.blocks) from.limit so_far.taken.leads.are_blocks;
      front = sightings_of so_far.taken.leads.blocks;
      back = [];
      parts = sym (append-nil (sightings_of so_far.taken.leads.blocks));
      are_made = subst (λ (w : Wanted). AreMade w (sightings_of so_far.taken.leads.blocks) so_far.taken.leads.gathered.made) from.wanted so_far.taken.leads.gathered.taken.are_made;
    };
    took = so_far.took;
  }

  -- the last piece gave a fault
  pub fed_fault : (reader : CaptureInput) (f h : State) (now : S) (b : InputState) (turns n : ℕ) (buf : List ℕ) (fault : Fault) → IsReadFrom h reader.reading reader.wanted
      → f.fault ≡ None → IsFedSoFar has first now f reader.old b turns → Gave b reader.new (take n buf)
      → ((octets : List ℕ) → HasRead f octets → HasRead h (octets ++ take n buf)) → h.fault ≡ Some fault
      → fault ≢ faults.Memory → IsFaultOfCapture reader fault
  fed_fault reader f h now b turns n buf fault from no_fault so_far gave fed kept not_memory =
      let octets = so_far.octets ++ take n buf in
      let read : HasRead f so_far.octets = subst (λ (kept : Option Fault). HasReadTo f kept so_far.octets) (sym no_fault) so_far.taken in
      let stops = kept_stops h fault octets not_memory kept (fed so_far.octets read) in
      let is : Stops (extent_of reader.reading) reader.wanted octets fault = rw (← from.limit, ← from.wanted) stops in
      record {
        given = octets;
        gave = gave_more reader.old b reader.new _ _ so_far.gave gave;
        refused = inl is;
      }

  -- what the sink took of the last piece, which gave a fault
  pub took_stopped : (reader : CaptureInput) (f : State) (now next : S) (b : InputState) (turns n : ℕ) (buf : List ℕ) → IsReadFrom f reader.reading reader.wanted
      → IsFedSoFar has first now f reader.old b turns → Gave b reader.new (take n buf) → Sinks has now next (StopMore f.progress f.pending (take n buf)) → TookSome has first next reader
  took_stopped reader f now next b turns n buf from so_far gave stopped =
      let stops = stopped.are_read f.limit so_far.octets so_far.taken in record {
        given = so_far.octets ++ take n buf;
        gave = gave_more reader.old b reader.new _ _ so_far.gave gave;
        made = so_far.taken.leads.gathered.made ++ stopped.more;
        begins = record {
          blocks = stops.blocks;
          rest = stops.rest;
          whole = stops.whole;
          are_blocks = subst (λ (e : Extent). AreBlocks (start e) 0 stops.blocks) from.limit stops.are_blocks;
          front = stops.front;
          back = stops.back;
          parts = stops.parts;
          are_made = subst (λ (w : Wanted). AreMade w stops.front (so_far.taken.leads.gathered.made ++ stopped.more)) from.wanted stops.taken.are_made;
        };
        took = took_more now next so_far.taken.leads.gathered.made stopped.more so_far.took stopped.took;
      }
