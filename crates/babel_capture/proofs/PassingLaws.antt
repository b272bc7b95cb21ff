-- What is seen at a packet, once datagrams were given up before it.
use Rattle.std.proofs.Common.{◌≡◌, ◌≢◌, ◌≤◌, ◌+◌, ◌<◌, ◌^◌, ℕ, max, Bool, true, false, cond, List, [], ◌∷◌, ◌++◌, length, Option, None, Some, inl, refl, sym, ap, subst, ◌∙◌, arith}
use Rattle.std.specs.BTreeMap.{insert_entry, is_at}
use Rattle.std.specs.Map.{remove_entry}
use Rattle.std.specs.Ordering.{match_ordering, nat_cmp}
use Rattle.std.specs.declared.cmp.Ordering.{Ordering}
use Rattle.std.specs.declared.cmp.Ordering.TheVariants.{Less, Equal, Greater}
use Rattle.std.proofs.lemmas.Map.{length-set_value}
use Rattle.babel_capture.specs.declared.datagram.Datagram.{Datagram}
use Rattle.babel_capture.specs.declared.datagram.Step.{Step}
use Rattle.babel_capture.specs.declared.datagram.Step.TheVariants as steps
use Rattle.babel_capture.specs.declared.fault.Fault.{Fault}
use Rattle.babel_capture.specs.declared.fragment.DatagramId.{DatagramId}
use Rattle.babel_capture.specs.declared.fragment.Fragment.{Fragment as HeldFragment}
use Rattle.babel_capture.specs.declared.seen.Seen.{Seen}
use Rattle.babel_capture.specs.declared.seen.Seen.TheVariants as seens
use Rattle.babel_capture.specs.declared.wanted.Wanted.{Wanted}
use Rattle.babel_capture.specs.Backing.{Backs}
use Rattle.babel_capture.specs.Contents.{Captured}
use Rattle.babel_capture.specs.Counts.{Made}
use Rattle.babel_capture.specs.Fragments.{Datagrams, Known, begins, begun_in, changed_among, changed_with, forgotten_among, forgotten_with, is_of_another, is_past, known_by, known_with, of_id, settled, settled_with, step_among}
use Rattle.babel_capture.specs.Gathering.{AreLeft, Gathering, IsRefused, RefusesSight}
use Rattle.babel_capture.specs.Passage.{Passage, Sighting, clock_after, given_up, known_after, missing_at, missing_in, passage_to, passed_at, seen_at, sight_at, sight_in, sighting_as, sightings_at, sightings_skipped, skipped_of}
use Rattle.babel_capture.specs.Passing.{GivesUp, Passed, passage_of_passed, ticked}
use Rattle.babel_capture.specs.Pieces.{Fragment, fragment_of}
use Rattle.babel_capture.specs.Sight as sights
use Rattle.babel_capture.specs.Sight.{Sight, fragmented, sight_of}
use Rattle.babel_capture.specs.Sinking.{GatherMore, GatherSome}
use Rattle.babel_capture.specs.Tallies.{Senders}
use Rattle.babel_capture.proofs.BackingLaws.{frame_backed}
use Rattle.babel_capture.proofs.GatherLaws.{gather-both, refused-behind, refused-front, some-both, some-front}
use Rattle.babel_capture.proofs.GivingLaws.{gives-all}

-- ---- how many lack fragments after one

removed-fewer : {K X : Type 0} (test : K → Bool) (es : List (K × X)) → length (remove_entry test es) ≤ length es
removed-fewer test [] = omega arith
removed-fewer test (e ∷ es) = by (test e.0) (removed-fewer test es)
  where
    by : (b : Bool) → length (remove_entry test es) ≤ length es → length (cond b es (e ∷ remove_entry test es)) ≤ length (e ∷ es)
    by true fewer = omega arith
    by false fewer = omega arith

one-longer : {X : Type 0} (k : ℕ) (v : X) (es : List (ℕ × X)) → length (insert_entry nat_cmp es k v) ≤ length es + 1
one-longer k v [] = omega arith
one-longer k v (e ∷ es) = by (nat_cmp k e.0) (one-longer k v es)
  where
    by : (r : Ordering) → length (insert_entry nat_cmp es k v) ≤ length es + 1 → length (match_ordering r ((k, v) ∷ e ∷ es) ((e.0, v) ∷ es) (e ∷ insert_entry nat_cmp es k v)) ≤ length (e ∷ es) + 1
    by Less longer = omega arith
    by Equal longer = omega arith
    by Greater longer = omega arith

forgotten-fewer : (known : Known) (found : Option (ℕ × Datagram)) → length (forgotten_with known found) ≤ length known
forgotten-fewer known None = omega arith
forgotten-fewer known (Some one) = removed-fewer (is_at (nat_cmp one.0)) known

changed-same : (known : Known) (fragment : Fragment) (found : Option (ℕ × Datagram)) → length (changed_with known fragment found) ≡ length known
changed-same known fragment None = refl
changed-same known fragment (Some one) = length-set_value (is_at (nat_cmp one.0)) known _

begun-longer : (known : Datagrams) (number at clock : ℕ) (within : Bool) (fragment : Fragment) → length (begun_in known number at clock within fragment).unfinished ≤ length known.unfinished + 1
begun-longer known number at clock within fragment = by (is_of_another fragment)
  where
    one : Datagram
    one = begins at clock within fragment

    by : (b : Bool) → length (cond b (record known { others = insert_entry nat_cmp known.others number one }) (record known { unfinished = insert_entry nat_cmp known.unfinished number one })).unfinished ≤ length known.unfinished + 1
    by true = omega arith
    by false = one-longer number one known.unfinished

settled-fewer : (id : DatagramId) (known : Datagrams) → length (settled id known).unfinished ≤ length known.unfinished
settled-fewer id known = by (of_id id known.unfinished)
  where
    by : (one : Option (ℕ × Datagram)) → length (settled_with (forgotten_among id known) one).unfinished ≤ length known.unfinished
    by None = forgotten-fewer known.unfinished (of_id id known.unfinished)
    by (Some one) = forgotten-fewer known.unfinished (of_id id known.unfinished)

-- where none is found, or where it is no step that tells of one
pub step-none : (step : Step) (found : Option (ℕ × Datagram)) → found ≡ None → (missing_at step found ≡ []) × (sight_at step found ≡ sights.other)
step-none steps.Ignored found is = (refl, refl)
step-none steps.Added found is = (refl, refl)
step-none steps.Anew found is = (refl, refl)
step-none steps.Overlaps found is = (ap (missing_at steps.Overlaps) is, refl)
step-none steps.Completes found is = (refl, ap (sight_at steps.Completes) is)

pub step-other : (step : Step) (found : Option (ℕ × Datagram)) → step ≢ steps.Completes → step ≢ steps.Overlaps → (missing_at step found ≡ []) × (sight_at step found ≡ sights.other)
step-other steps.Ignored found one other = (refl, refl)
step-other steps.Added found one other = (refl, refl)
step-other steps.Anew found one other = (refl, refl)
step-other steps.Overlaps found one other = absurd (other refl)
step-other steps.Completes found one other = absurd (one refl)

missing-few : (step : Step) (found : Option (ℕ × Datagram)) → length (missing_at step found) ≤ 1
missing-few steps.Overlaps None = omega arith
missing-few steps.Overlaps (Some one) = omega arith
missing-few steps.Ignored found = omega arith
missing-few steps.Added found = omega arith
missing-few steps.Completes found = omega arith
missing-few steps.Anew found = omega arith

known-few : (step : Step) (found : Option (ℕ × Datagram)) (known : Datagrams) (number at clock : ℕ) (within : Bool) (fragment : Fragment)
    → length (missing_at step found) + length (known_by step known number at clock within fragment).unfinished ≤ length known.unfinished + 1
known-few step found known number at clock within fragment = by step
  where
    same : length (changed_among known fragment).unfinished ≡ length known.unfinished
    same = changed-same known.unfinished fragment (of_id fragment.id known.unfinished)

    fewer : length (settled fragment.id (changed_among known fragment)).unfinished ≤ length (changed_among known fragment).unfinished
    fewer = settled-fewer fragment.id (changed_among known fragment)

    by : (s : Step) → length (missing_at s found) + length (known_by s known number at clock within fragment).unfinished ≤ length known.unfinished + 1
    by steps.Anew =
        let forgot = forgotten-fewer known.unfinished (of_id fragment.id known.unfinished) in
        let longer = begun-longer (forgotten_among fragment.id known) number at clock within fragment in
        omega (arith, forgot, longer)
    by steps.Ignored = omega (arith, same)
    by steps.Added = omega (arith, same)
    by steps.Completes = omega (arith, same, fewer)
    by steps.Overlaps = (let few = missing-few steps.Overlaps found in omega (arith, same, fewer, few))

pub known-length : (found : Option (ℕ × Datagram)) (known : Datagrams) (number at clock : ℕ) (within : Bool) (fragment : Fragment)
    → length (missing_at (step_among known fragment) found) + length (known_with known number at clock within fragment).unfinished ≤ length known.unfinished + 1
known-length found known number at clock within fragment = known-few (step_among known fragment) found known number at clock within fragment

pub known-longer : (known : Datagrams) (number at clock : ℕ) (within : Bool) (fragment : Fragment) → length (known_with known number at clock within fragment).unfinished ≤ length known.unfinished + 1
known-longer known number at clock within fragment = (let few = known-length None known number at clock within fragment in omega (arith, few))

-- ---- a packet

one_known : (one another : Datagrams) → one.unfinished ≡ another.unfinished → one.others ≡ another.others → one ≡ another
one_known one another unfinished others =
    let of : Known → Known → Datagrams = λ u o. record { unfinished = u; others = o } in
    let same : of one.unfinished one.others ≡ of another.unfinished another.others = cc in same

one_passage : (one another : Passage) → one.count ≡ another.count → one.clock ≡ another.clock → one.known ≡ another.known → one ≡ another
one_passage one another count clock known =
    let of : ℕ → ℕ → Datagrams → Passage = λ n c k. record { count = n; clock = c; known = k } in
    let same : of one.count one.clock one.known ≡ of another.count another.clock another.known = cc in same

-- what is no fragment is seen as it is
pub seen-other : (before : Passage) (at : ℕ) (packet : Captured) (seen : Seen) → ((fragment : HeldFragment) → seen ≢ seens.Fragment fragment)
    → (seen_at before at packet (sight_of seen) ≡ sighting_as (before.count + 1) at packet (sight_of seen) ∷ []) × (known_after before at packet.ends_within (sight_of seen) ≡ before.known)
seen-other before at packet seens.Other other = (refl, refl)
seen-other before at packet seens.Short other = (refl, refl)
seen-other before at packet (seens.Fragment fragment) other = absurd (other fragment refl)
seen-other before at packet (seens.Flawed place ends flaw) other = (refl, refl)
seen-other before at packet (seens.Datagram place ends payload) other = (refl, refl)

pub refused-one : (wanted : Wanted) (senders : Senders) (number at : ℕ) (packet : Captured) (what : Sight) (fault : Fault) → RefusesSight wanted senders at what fault
    → IsRefused wanted senders (sighting_as number at packet what ∷ []) fault
refused-one wanted senders number at packet what fault (of, finds, refuses) = (of, finds, inl refuses)

module _ (old mid : Passed) (at : ℕ) (packet : Captured) (one : List Made) (gives : GivesUp (ticked old packet) mid one) (none : is_past mid.clock mid.known.unfinished ≡ false) where
  all-given : GatherMore old.gathering mid.gathering (missing_in (given_up (clock_after (passage_of_passed old) packet) old.known.unfinished)) one
      × AreLeft old.gathering.wanted (missing_in (given_up (clock_after (passage_of_passed old) packet) old.known.unfinished))
      × ((passage_to (passage_of_passed old) packet).known.unfinished ≡ mid.known.unfinished)
  all-given = gives-all (ticked old packet) mid one none gives

  to-mid : passage_to (passage_of_passed old) packet ≡ passage_of_passed mid
  to-mid = one_passage (passage_to (passage_of_passed old) packet) (passage_of_passed mid) (sym gives.1.packets) (sym gives.1.clock)
      (one_known (passage_to (passage_of_passed old) packet).known mid.known all-given.2 (sym gives.1.others))

  -- what is seen at it is all that is seen but for those that are missing
  abbrev front : List Sighting
  front = missing_in (given_up (clock_after (passage_of_passed old) packet) old.known.unfinished)

  pub all-seen : (sights : List Sighting) → sights ≡ seen_at (passage_of_passed mid) at packet (sight_in packet) → sightings_at (passage_of_passed old) at packet ≡ front ++ sights
  all-seen sights are =
      ap (λ (p : Passage). front ++ seen_at p at packet (sight_in packet)) to-mid ∙ ap (λ (s : List Sighting). front ++ s) (sym are)

  pub all-skipped : sightings_skipped (passage_of_passed old) at packet ≡ front ++ skipped_of (mid.gathering.report.packets + 1) at packet ∷ []
  all-skipped = ap (λ (n : ℕ). front ++ skipped_of (n + 1) at packet ∷ []) (sym gives.1.packets)

  pub more-all : (new : Gathering) (all sights : List Sighting) (two : List Made) → all ≡ front ++ sights → GatherMore mid.gathering new sights two → GatherMore old.gathering new all (one ++ two)
  more-all new all sights two are goes =
      subst (λ (s : List Sighting). GatherMore old.gathering new s (one ++ two)) (sym are) (gather-both old.gathering mid.gathering new front sights one two all-given.0 goes)

  pub some-all : (all sights : List Sighting) (two : List Made) → all ≡ front ++ sights → GatherSome mid.gathering sights two → GatherSome old.gathering all (one ++ two)
  some-all all sights two are goes =
      subst (λ (s : List Sighting). GatherSome old.gathering s (one ++ two)) (sym are) (some-both old.gathering mid.gathering front sights one two gives.1.wanted all-given.0 goes)

  pub refused-all : (all sights : List Sighting) (fault : Fault) → all ≡ front ++ sights
      → IsRefused mid.gathering.wanted mid.gathering.senders sights fault → IsRefused old.gathering.wanted old.gathering.senders all fault
  refused-all all sights fault are refuses =
      subst (λ (s : List Sighting). IsRefused old.gathering.wanted old.gathering.senders s fault) (sym are)
      (refused-behind old.gathering.wanted old.gathering.senders front sights fault all-given.1
      (subst (λ (t : Senders). IsRefused old.gathering.wanted t sights fault) gives.1.senders (subst (λ (w : Wanted). IsRefused w mid.gathering.senders sights fault) gives.1.wanted refuses)))

  pub passage-all : (new : Passed) → new.gathering.report.packets ≡ mid.gathering.report.packets + 1 → new.clock ≡ mid.clock → new.known ≡ known_after (passage_of_passed mid) at packet.ends_within (sight_in packet)
      → passage_of_passed new ≡ passed_at (passage_of_passed old) at packet
  passage-all new packets clock known =
      one_passage (passage_of_passed new) (passed_at (passage_of_passed old) at packet) (packets ∙ ap (λ (n : ℕ). n + 1) gives.1.packets) (clock ∙ gives.1.clock)
      (known ∙ ap (λ (p : Passage). known_after p at packet.ends_within (sight_in packet)) (sym to-mid))

-- a fragment that is seen fits into a datagram
pub fits-of : (packet : Captured) (fragment : HeldFragment) → sight_in packet ≡ fragmented (fragment_of fragment) → fragment.offset + fragment.len < 2 ^ 16
fits-of packet fragment is =
    let all = max packet.whole_len (length packet.frame) in
    (subst (Backs packet.frame all) is (frame_backed packet.interface packet.link packet.frame all)).1

-- where one is refused that is given up, whatever is seen after it
pub some-given : (old : Passed) (packet : Captured) (sights : List Sighting) (more : List Made)
    → GatherSome old.gathering (missing_in (given_up (clock_after (passage_of_passed old) packet) old.known.unfinished)) more
    → GatherSome old.gathering (missing_in (given_up (clock_after (passage_of_passed old) packet) old.known.unfinished) ++ sights) more
some-given old packet sights more = some-front old.gathering (missing_in (given_up (clock_after (passage_of_passed old) packet) old.known.unfinished)) sights more

pub refused-given : (old : Passed) (packet : Captured) (sights : List Sighting) (fault : Fault)
    → IsRefused old.gathering.wanted old.gathering.senders (missing_in (given_up (clock_after (passage_of_passed old) packet) old.known.unfinished)) fault
    → IsRefused old.gathering.wanted old.gathering.senders (missing_in (given_up (clock_after (passage_of_passed old) packet) old.known.unfinished) ++ sights) fault
refused-given old packet sights fault =
    refused-front old.gathering.wanted old.gathering.senders (missing_in (given_up (clock_after (passage_of_passed old) packet) old.known.unfinished)) sights fault
