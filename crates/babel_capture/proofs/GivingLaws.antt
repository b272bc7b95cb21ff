-- Datagrams that are given up, one after another.
use Rattle.std.proofs.Common.{◌≡◌, ℕ, Bool, true, false, cond, List, [], ◌∷◌, ◌++◌, map, refl, sym, ap, subst, ◌∙◌, append_assoc}
use Rattle.std.specs.List.{filter}
use Rattle.std.proofs.lemmas.List.{append-nil}
use Rattle.babel_capture.specs.declared.datagram.Datagram.{Datagram}
use Rattle.babel_capture.specs.declared.fault.Fault.{Fault}
use Rattle.babel_capture.specs.declared.wanted.Wanted.{Wanted}
use Rattle.babel_capture.specs.Counts.{Made}
use Rattle.babel_capture.specs.Fragments.{Known, Reassembly, is_past}
use Rattle.babel_capture.specs.Gathering.{AreLeft, Gathering, IsRefused}
use Rattle.babel_capture.specs.Passage.{Sighting, given_up, is_lost, left_known, missing_in, missing_of}
use Rattle.babel_capture.specs.Passing.{GivesLast, GivesUp, Passed}
use Rattle.babel_capture.specs.Sinking.{GatherMore, GatherSome}
use Rattle.babel_capture.specs.Tallies.{Senders}
use Rattle.babel_capture.proofs.GatherLaws.{gather-both, left-both, no-more, refused-behind, some-of}

abbrev pub passed_of : Gathering → Reassembly → Passed
passed_of gathering fragments = record { gathering = gathering; clock = fragments.clock; known = fragments.known }

-- where the oldest one is given up or not
given-one : (clock : ℕ) (oldest : ℕ × Datagram) (known : Known) → is_past clock (oldest ∷ known) ≡ true → given_up clock (oldest ∷ known) ≡ oldest ∷ given_up clock known
given-one clock oldest known is = ap (λ (b : Bool). cond b (oldest ∷ given_up clock known) []) is

pub left-one : (clock : ℕ) (oldest : ℕ × Datagram) (known : Known) → is_past clock (oldest ∷ known) ≡ true → left_known clock (oldest ∷ known) ≡ left_known clock known
left-one clock oldest known is = ap (λ (b : Bool). cond b (left_known clock known) (oldest ∷ known)) is

pub given-none : (clock : ℕ) (known : Known) → is_past clock known ≡ false → (given_up clock known ≡ []) × (left_known clock known ≡ known)
given-none clock [] is = (refl, refl)
given-none clock (oldest ∷ known) is = (
  ap (λ (b : Bool). cond b (oldest ∷ given_up clock known) []) is,
  ap (λ (b : Bool). cond b (left_known clock known) (oldest ∷ known)) is,
)

missing-one : (one : ℕ × Datagram) (known : Known) → missing_in (one ∷ known) ≡ missing_in (one ∷ []) ++ missing_in known
missing-one one known = by (is_lost one.1)
  where
    by : (b : Bool) → map missing_of (cond b (one ∷ filter (λ (d : ℕ × Datagram). is_lost d.1) known) (filter (λ (d : ℕ × Datagram). is_lost d.1) known))
        ≡ map missing_of (cond b (one ∷ []) []) ++ missing_in known
    by true = refl
    by false = refl

pub missing-lost : (one : ℕ × Datagram) → is_lost one.1 ≡ true → missing_in (one ∷ []) ≡ missing_of one ∷ []
missing-lost one is = ap (λ (b : Bool). map missing_of (cond b (one ∷ []) [])) is

pub missing-other : (one : ℕ × Datagram) → is_lost one.1 ≡ false → missing_in (one ∷ []) ≡ []
missing-other one is = ap (λ (b : Bool). map missing_of (cond b (one ∷ []) [])) is

pub gives-none : (old : Passed) → GivesUp old old []
gives-none old = (
  [],
  record { parts = refl; left = refl; others = refl; clock = refl; packets = refl; senders = refl; names = refl; wanted = refl; are_left = tt },
  no-more old.gathering old.gathering refl refl refl,
)

pub gives-one : (old new : Passed) (one : ℕ × Datagram) (more : List Made) → is_past old.clock old.known.unfinished ≡ true → old.known.unfinished ≡ one ∷ new.known.unfinished → new.clock ≡ old.clock → new.known.others ≡ old.known.others
    → new.gathering.report.packets ≡ old.gathering.report.packets → new.gathering.senders ≡ old.gathering.senders → new.gathering.names ≡ old.gathering.names
    → new.gathering.wanted ≡ old.gathering.wanted → AreLeft old.gathering.wanted (missing_in (one ∷ [])) → GatherMore old.gathering new.gathering (missing_in (one ∷ [])) more
    → GivesUp old new more
gives-one old new one more past known clock others packets senders names wanted are_left gathers =
    let past_so : is_past old.clock (one ∷ new.known.unfinished) ≡ true = subst (λ (k : Known). is_past old.clock k ≡ true) known past in (
      missing_in (one ∷ []),
      record {
        parts = ap (λ (k : Known). missing_in (given_up old.clock k)) known ∙ ap missing_in (given-one old.clock one new.known.unfinished past_so)
            ∙ missing-one one (given_up old.clock new.known.unfinished) ∙ ap (λ (c : ℕ). missing_in (one ∷ []) ++ missing_in (given_up c new.known.unfinished)) (sym clock);
        left = ap (left_known old.clock) known ∙ left-one old.clock one new.known.unfinished past_so ∙ ap (λ (c : ℕ). left_known c new.known.unfinished) (sym clock);
        others = others;
        clock = clock;
        packets = packets;
        senders = senders;
        names = names;
        wanted = wanted;
        are_left = are_left;
      },
      gathers,
    )

pub gives-both : (old next new : Passed) (one two : List Made) → GivesUp old next one → GivesUp next new two → GivesUp old new (one ++ two)
gives-both old next new one two (front, is, goes) (back, is_too, goes_on) = (
  front ++ back,
  record {
    parts = is.parts ∙ ap (λ (s : List Sighting). front ++ s) is_too.parts ∙ sym (append_assoc front back (missing_in (given_up new.clock new.known.unfinished)));
    left = is.left ∙ is_too.left;
    others = is_too.others ∙ is.others;
    clock = is_too.clock ∙ is.clock;
    packets = is_too.packets ∙ is.packets;
    senders = is_too.senders ∙ is.senders;
    names = is_too.names ∙ is.names;
    wanted = is_too.wanted ∙ is.wanted;
    are_left = left-both old.gathering.wanted front back is.are_left (subst (λ (w : Wanted). AreLeft w back) is.wanted is_too.are_left);
  },
  gather-both old.gathering next.gathering new.gathering front back one two goes goes_on,
)

-- all that are given up
pub gives-all : (old new : Passed) (more : List Made) → is_past new.clock new.known.unfinished ≡ false → GivesUp old new more
    → GatherMore old.gathering new.gathering (missing_in (given_up old.clock old.known.unfinished)) more × AreLeft old.gathering.wanted (missing_in (given_up old.clock old.known.unfinished))
    × (left_known old.clock old.known.unfinished ≡ new.known.unfinished)
gives-all old new more none (sightings, is, goes) =
    let at_end = given-none new.clock new.known.unfinished none in
    let all : sightings ≡ missing_in (given_up old.clock old.known.unfinished) = sym (is.parts ∙ ap (λ (k : Known). sightings ++ missing_in k) at_end.0 ∙ append-nil sightings) in (
      subst (λ (s : List Sighting). GatherMore old.gathering new.gathering s more) all goes,
      subst (AreLeft old.gathering.wanted) all is.are_left,
      is.left ∙ at_end.1,
    )

pub gives-some : (old new : Passed) (more : List Made) → GivesUp old new more → GatherSome old.gathering (missing_in (given_up old.clock old.known.unfinished)) more
gives-some old new more (sightings, is, goes) =
    subst (λ (s : List Sighting). GatherSome old.gathering s more) (sym is.parts)
    (some-of old.gathering new.gathering sightings (missing_in (given_up new.clock new.known.unfinished)) more is.wanted goes)

pub gives-refused : (old new : Passed) (more : List Made) (fault : Fault) → GivesUp old new more → IsRefused new.gathering.wanted new.gathering.senders (missing_in (given_up new.clock new.known.unfinished)) fault
    → IsRefused old.gathering.wanted old.gathering.senders (missing_in (given_up old.clock old.known.unfinished)) fault
gives-refused old new more fault (sightings, is, goes) refuses =
    let later = missing_in (given_up new.clock new.known.unfinished) in
    subst (λ (s : List Sighting). IsRefused old.gathering.wanted old.gathering.senders s fault) (sym is.parts)
    (refused-behind old.gathering.wanted old.gathering.senders sightings later fault is.are_left
    (subst (λ (t : Senders). IsRefused old.gathering.wanted t later fault) is.senders (subst (λ (w : Wanted). IsRefused w new.gathering.senders later fault) is.wanted refuses)))

-- ---- at the end of a capture

pub last-none : (old : Passed) → GivesLast old old []
last-none old = ([], record { parts = refl; senders = refl; names = refl; wanted = refl; are_left = tt }, no-more old.gathering old.gathering refl refl refl)

pub last-one : (old new : Passed) (one : ℕ × Datagram) (more : List Made) → old.known.unfinished ≡ one ∷ new.known.unfinished → new.gathering.senders ≡ old.gathering.senders → new.gathering.names ≡ old.gathering.names
    → new.gathering.wanted ≡ old.gathering.wanted → AreLeft old.gathering.wanted (missing_in (one ∷ [])) → GatherMore old.gathering new.gathering (missing_in (one ∷ [])) more
    → GivesLast old new more
last-one old new one more known senders names wanted are_left gathers = (
  missing_in (one ∷ []),
  record { parts = ap missing_in known ∙ missing-one one new.known.unfinished; senders = senders; names = names; wanted = wanted; are_left = are_left },
  gathers,
)

pub last-both : (old next new : Passed) (one two : List Made) → GivesLast old next one → GivesLast next new two → GivesLast old new (one ++ two)
last-both old next new one two (front, is, goes) (back, is_too, goes_on) = (
  front ++ back,
  record {
    parts = is.parts ∙ ap (λ (s : List Sighting). front ++ s) is_too.parts ∙ sym (append_assoc front back (missing_in new.known.unfinished));
    senders = is_too.senders ∙ is.senders;
    names = is_too.names ∙ is.names;
    wanted = is_too.wanted ∙ is.wanted;
    are_left = left-both old.gathering.wanted front back is.are_left (subst (λ (w : Wanted). AreLeft w back) is.wanted is_too.are_left);
  },
  gather-both old.gathering next.gathering new.gathering front back one two goes goes_on,
)

pub last-all : (old new : Passed) (more : List Made) → new.known.unfinished ≡ [] → GivesLast old new more → GatherMore old.gathering new.gathering (missing_in old.known.unfinished) more
last-all old new more none (sightings, is, goes) =
    let all : sightings ≡ missing_in old.known.unfinished = sym (is.parts ∙ ap (λ (k : Known). sightings ++ missing_in k) none ∙ append-nil sightings) in
    subst (λ (s : List Sighting). GatherMore old.gathering new.gathering s more) all goes

pub last-some : (old new : Passed) (more : List Made) → GivesLast old new more → GatherSome old.gathering (missing_in old.known.unfinished) more
last-some old new more (sightings, is, goes) =
    subst (λ (s : List Sighting). GatherSome old.gathering s more) (sym is.parts)
    (some-of old.gathering new.gathering sightings (missing_in new.known.unfinished) more is.wanted goes)

pub last-refused : (old new : Passed) (more : List Made) (fault : Fault) → GivesLast old new more → IsRefused new.gathering.wanted new.gathering.senders (missing_in new.known.unfinished) fault
    → IsRefused old.gathering.wanted old.gathering.senders (missing_in old.known.unfinished) fault
last-refused old new more fault (sightings, is, goes) refuses =
    let later = missing_in new.known.unfinished in
    subst (λ (s : List Sighting). IsRefused old.gathering.wanted old.gathering.senders s fault) (sym is.parts)
    (refused-behind old.gathering.wanted old.gathering.senders sightings later fault is.are_left
    (subst (λ (t : Senders). IsRefused old.gathering.wanted t later fault) is.senders (subst (λ (w : Wanted). IsRefused w new.gathering.senders later fault) is.wanted refuses)))
