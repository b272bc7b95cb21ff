-- What packets give, taken one by one.
use Rattle.std.proofs.Common.{Bool, false, ◌≡◌, ◌≢◌, ◌≤◌, ℕ, Option, true, inl, inr, append_assoc, List, [], ◌∷◌, ◌++◌, ◌+◌, length, refl, sym, ap, subst, ◌∙◌}
use Rattle.std.proofs.lemmas.List.{append-nil}
use Rattle.std.proofs.lemmas.List.Sums.{fold-append}
use Rattle.babel_capture.specs.declared.link.Link.{Link}
use Rattle.babel_capture.specs.declared.wanted.Wanted.{Wanted}
use Rattle.babel_capture.specs.declared.fault.Fault.{Fault}
use Rattle.babel_capture.specs.Counts.{Counts, Made, counts_of, is_packet}
use Rattle.babel_capture.specs.Counting.{counted, counted_at, counted_missing}
use Rattle.babel_capture.specs.declared.finding.Finding.{Finding}
use Rattle.babel_capture.specs.declared.finding.Finding.TheVariants as findings
use Rattle.babel_capture.specs.declared.lack.Lack.{Lack}
use Rattle.babel_capture.specs.Findings.{Finds, Found, finding_of, found, left, passed, refused, untold}
use Rattle.babel_capture.specs.Gathering.{AreLeft, AreMade, AreTaken, Gathering, IsGathered, IsRefused, IsTaken, IsUncounted}
use Rattle.babel_capture.specs.Passage.{Sighting}
use Rattle.babel_capture.specs.Sinking.{GatherMore, GatherSome}
use Rattle.babel_capture.specs.Tallies.{Senders, listed_with, senders_listed, senders_of, senders_with}
use Rattle.babel_capture.specs.Times.{missing, time_of}
use Rattle.babel_capture.proofs.CountLaws.{counts-missing, counts-push}

abbrev pub made_of : Sighting → Found → Made
made_of sighting what = record { number = sighting.number; link = sighting.link; came = sighting.came; what = what }

made-push : (wanted : Wanted) (before : List Sighting) (next : Sighting) (made : List Made) (what : Found) → AreMade wanted before made
    → Finds wanted next.what what → IsTaken what → AreMade wanted (before ++ next ∷ []) (made ++ made_of next what ∷ [])
made-push wanted [] next made what are finds taken =
    (made_of next what, [], ap (λ (m : List Made). m ++ made_of next what ∷ []) are, refl, refl, refl, finds, taken, refl)
made-push wanted (first ∷ before) next made what (one, others, is, number, link, came, made_so, kept, are) finds taken =
    (one, others ++ made_of next what ∷ [], ap (λ (m : List Made). m ++ made_of next what ∷ []) is, number, link, came, made_so, kept, made-push wanted before next others what are finds taken)

senders-push : (made : List Made) (one : Made) → senders_of (made ++ one ∷ []) ≡ senders_with (senders_of made) (time_of one.came) one.what
senders-push made one = fold-append (λ (s : Senders) (m : Made). senders_with s (time_of m.came) m.what) [] made (one ∷ [])

listed-push : (are_listed : Bool) (made : List Made) (one : Made)
    → senders_listed are_listed (made ++ one ∷ []) ≡ listed_with are_listed (senders_listed are_listed made) (time_of one.came) one.what
listed-push true made one = senders-push made one
listed-push false made one = refl

-- what is passed over is of nobody
pub passed-listed : (are_listed : Bool) (senders : Senders) (time : Option ℕ) → senders ≡ listed_with are_listed senders time passed
passed-listed true senders time = refl
passed-listed false senders time = refl

-- whatever is made of a packet, it is one more
pub counted-one : (counts : Counts) (link : Link) (what : Found) → (counted counts link what).packets ≡ counts.packets + 1
counted-one counts link passed = refl
counted-one counts link untold = refl
counted-one counts link (left reason missed) = refl
counted-one counts link (refused lack) = refl
counted-one counts link (found place ends packet has_trailer) = refl

pub finding-taken : (finding : Finding) → ((lack : Lack) → finding ≢ findings.Refused lack) → IsTaken (finding_of finding)
finding-taken findings.Passed not = tt
finding-taken findings.Short not = tt
finding-taken (findings.Left reason origin is_missed) not = tt
finding-taken (findings.Refused lack) not = absurd (not lack refl)
finding-taken (findings.Packet origin destination octets has_trailer) not = tt

-- one packet more, of which this is made
pub gathered-push : (next : Sighting) (old new : Gathering) (what : Found) → new.wanted ≡ old.wanted → new.report ≡ counted (counted_at old.report next.came) next.link what
    → new.senders ≡ listed_with old.wanted.are_listed old.senders (time_of next.came) what → (length old.senders ≤ 65536 → length new.senders ≤ 65536) → IsTaken what
    → is_packet next.came ≡ true
    → next.number ≡ old.report.packets + 1 → Finds old.wanted next.what what → GatherMore old new (next ∷ []) (made_of next what ∷ [])
gathered-push next old new what same report senders few takes packet number finds before was =
    let one : Made = made_of next what in
    let listed = old.wanted.are_listed in
    let is_senders : new.senders ≡ senders_listed new.wanted.are_listed (was.made ++ one ∷ []) =
    senders ∙ ap (λ (t : Senders). listed_with listed t (time_of next.came) what) was.senders ∙ sym (listed-push listed was.made one)
    ∙ ap (λ (w : Wanted). senders_listed w.are_listed (was.made ++ one ∷ [])) (sym same) in
    let is_number : one.number ≡ (counts_of was.made).packets + 1 = number ∙ ap (λ (c : Counts). c.packets + 1) was.report in (
      record {
        made = was.made ++ one ∷ [];
        taken = record {
          are_made = subst (λ (w : Wanted). AreMade w (before ++ next ∷ []) (was.made ++ one ∷ [])) (sym same) (made-push old.wanted before next was.made what was.taken.are_made finds takes);
          few = subst (λ (s : Senders). length s ≤ 65536) is_senders (few (subst (λ (s : Senders). length s ≤ 65536) (sym was.senders) was.taken.few));
        };
        report = report ∙ ap (λ (c : Counts). counted (counted_at c next.came) next.link what) was.report ∙ sym (counts-push was.made one packet is_number);
        senders = is_senders;
      },
      refl,
    )

-- nor is one that does not count refused, and its sender is no more than those before
pub taken-of : (what : Found) → IsUncounted what → IsTaken what
taken-of passed uncounted = tt
taken-of (left reason missed) uncounted = tt
taken-of untold uncounted = absurd uncounted
taken-of (refused lack) uncounted = absurd uncounted
taken-of (found place ends packet has_trailer) uncounted = absurd uncounted

pub uncounted-same : (senders : Senders) (time : Option ℕ) (what : Found) → IsUncounted what → senders_with senders time what ≡ senders
uncounted-same senders time passed uncounted = refl
uncounted-same senders time (left reason missed) uncounted = refl
uncounted-same senders time untold uncounted = absurd uncounted
uncounted-same senders time (refused lack) uncounted = absurd uncounted
uncounted-same senders time (found place ends packet has_trailer) uncounted = absurd uncounted

pub uncounted-listed : (listed : Bool) (senders : Senders) (time : Option ℕ) (what : Found) → IsUncounted what → listed_with listed senders time what ≡ senders
uncounted-listed true senders time what uncounted = uncounted-same senders time what uncounted
uncounted-listed false senders time what uncounted = refl

-- a datagram of which fragments are missing, of which this is made
pub gathered-missing : (next : Sighting) (old new : Gathering) (what : Found) → new.wanted ≡ old.wanted → new.report ≡ counted_missing old.report next.number what → new.senders ≡ old.senders
    → IsUncounted what → next.came ≡ missing → Finds old.wanted next.what what → GatherMore old new (next ∷ []) (made_of next what ∷ [])
gathered-missing next old new what same report senders uncounted came finds before was =
    let one : Made = made_of next what in
    let listed = old.wanted.are_listed in
    let is_senders : new.senders ≡ senders_listed new.wanted.are_listed (was.made ++ one ∷ []) =
    senders ∙ was.senders ∙ sym (listed-push listed was.made one ∙ uncounted-listed listed (senders_listed listed was.made) (time_of one.came) what uncounted)
    ∙ ap (λ (w : Wanted). senders_listed w.are_listed (was.made ++ one ∷ [])) (sym same) in (
      record {
        made = was.made ++ one ∷ [];
        taken = record {
          are_made = subst (λ (w : Wanted). AreMade w (before ++ next ∷ []) (was.made ++ one ∷ [])) (sym same)
              (made-push old.wanted before next was.made what was.taken.are_made finds (taken-of what uncounted));
          few = subst (λ (s : Senders). length s ≤ 65536) is_senders
              (subst (λ (s : Senders). length s ≤ 65536) (sym senders) (subst (λ (s : Senders). length s ≤ 65536) (sym was.senders) was.taken.few));
        };
        report = report ∙ ap (λ (c : Counts). counted_missing c next.number what) was.report ∙ sym (counts-missing was.made one came uncounted);
        senders = is_senders;
      },
      refl,
    )

-- ---- one after another

pub gather-both : (old next new : Gathering) (front back : List Sighting) (one two : List Made) → GatherMore old next front one → GatherMore next new back two
    → GatherMore old new (front ++ back) (one ++ two)
gather-both old next new front back one two goes goes_on before was =
    let first = goes before was in
    let second = goes_on (before ++ front) first.0 in
    subst (λ (s : List Sighting). (now : IsGathered s new) × (now.made ≡ was.made ++ (one ++ two))) (append_assoc before front back)
    (second.0, second.1 ∙ ap (λ (m : List Made). m ++ two) first.1 ∙ append_assoc was.made one two)

-- and the first of them
pub some-none : (old : Gathering) (sightings : List Sighting) → GatherSome old sightings []
some-none old sightings before was = (
  [],
  sightings,
  refl,
  subst (λ (m : List Made). AreTaken old.wanted (before ++ []) m) (sym (append-nil was.made)) (subst (λ (s : List Sighting). AreTaken old.wanted s was.made) (sym (append-nil before)) was.taken),
)

pub some-of : (old next : Gathering) (front back : List Sighting) (one : List Made) → next.wanted ≡ old.wanted → GatherMore old next front one → GatherSome old (front ++ back) one
some-of old next front back one same goes before was =
    let led = goes before was in (
      front,
      back,
      refl,
      subst (λ (w : Wanted). AreTaken w (before ++ front) (was.made ++ one)) same (subst (λ (m : List Made). AreTaken next.wanted (before ++ front) m) led.1 led.0.taken),
    )

pub some-all : (old next : Gathering) (front : List Sighting) (one : List Made) → next.wanted ≡ old.wanted → GatherMore old next front one → GatherSome old front one
some-all old next front one same goes = subst (λ (s : List Sighting). GatherSome old s one) (append-nil front) (some-of old next front [] one same goes)

pub some-both : (old next : Gathering) (front back : List Sighting) (one two : List Made) → next.wanted ≡ old.wanted → GatherMore old next front one → GatherSome next back two
    → GatherSome old (front ++ back) (one ++ two)
some-both old next front back one two same goes some before was =
    let led = goes before was in
    let part = some (before ++ front) led.0 in
    let made : led.0.made ++ two ≡ was.made ++ (one ++ two) = ap (λ (m : List Made). m ++ two) led.1 ∙ append_assoc was.made one two in (
      front ++ part.0,
      part.1,
      ap (λ (s : List Sighting). front ++ s) part.2 ∙ sym (append_assoc front part.0 part.1),
      subst (λ (w : Wanted). AreTaken w (before ++ (front ++ part.0)) (was.made ++ (one ++ two))) same
          (subst (λ (s : List Sighting). AreTaken next.wanted s (was.made ++ (one ++ two))) (append_assoc before front part.0)
          (subst (λ (m : List Made). AreTaken next.wanted ((before ++ front) ++ part.0) m) made part.3)),
    )

pub some-front : (old : Gathering) (front back : List Sighting) (more : List Made) → GatherSome old front more → GatherSome old (front ++ back) more
some-front old front back more some before was =
    let part = some before was in
    (part.0, part.1 ++ back, ap (λ (s : List Sighting). s ++ back) part.2 ∙ append_assoc part.0 part.1 back, part.3)

-- what is refused of the one is of all
pub refused-front : (wanted : Wanted) (senders : Senders) (front back : List Sighting) (fault : Fault) → IsRefused wanted senders front fault → IsRefused wanted senders (front ++ back) fault
refused-front wanted senders [] back fault refuses = absurd refuses
refused-front wanted senders (sighting ∷ front) back fault (what, finds, inl refuses) = (what, finds, inl refuses)
refused-front wanted senders (sighting ∷ front) back fault (what, finds, inr (uncounted, refusal)) = (what, finds, inr (uncounted, refused-front wanted senders front back fault refusal))

pub refused-behind : (wanted : Wanted) (senders : Senders) (front back : List Sighting) (fault : Fault) → AreLeft wanted front → IsRefused wanted senders back fault
    → IsRefused wanted senders (front ++ back) fault
refused-behind wanted senders [] back fault are refuses = refuses
refused-behind wanted senders (sighting ∷ front) back fault ((what, finds, uncounted), are) refuses =
    (what, finds, inr (uncounted, refused-behind wanted senders front back fault are refuses))

pub left-both : (wanted : Wanted) (front back : List Sighting) → AreLeft wanted front → AreLeft wanted back → AreLeft wanted (front ++ back)
left-both wanted [] back are are_too = are_too
left-both wanted (sighting ∷ front) back (one, are) are_too = (one, left-both wanted front back are are_too)

-- what holds no packet changes nothing
pub no-more : (old new : Gathering) → new.wanted ≡ old.wanted → new.report ≡ old.report → new.senders ≡ old.senders → GatherMore old new [] []
no-more old new wanted report senders before was = (
  record {
    made = was.made;
    taken = subst (λ (w : Wanted). AreTaken w (before ++ []) was.made) (sym wanted) (subst (λ (s : List Sighting). AreTaken old.wanted s was.made) (sym (append-nil before)) was.taken);
    report = report ∙ was.report;
    senders = senders ∙ was.senders ∙ ap (λ (w : Wanted). senders_listed w.are_listed was.made) (sym wanted);
  },
  sym (append-nil was.made),
)
