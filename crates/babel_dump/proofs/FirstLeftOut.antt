-- The first datagram that a report says was left out is the first of the packets that were.
use Rattle.std.proofs.Common.{◌≡◌, ◌⊎◌, inl, inr, ◌≤◌, ℕ, Bool, true, List, [], ◌∷◌, length, map, Option, None, Some, refl, sym, ap, subst, ◌∙◌, eqb-true, eq-eqb, arith}
use Rattle.std.specs.Prelude.{Contains, fold, min, slice_get}
use Rattle.std.specs.List.{filter}
use Rattle.std.specs.Option.{option_map}
use Rattle.std.proofs.lemmas.Bool.{cases_order}
use Rattle.babel_prefix.proofs.Members.{Contains-from_Listed, Listed, Listed-filter, Listed-from_Contains, filter-Listed}
use Rattle.babel_capture.specs.declared.reason.Reason.{Reason}
use Rattle.babel_capture.specs.declared.reason.Reason.TheVariants as reasons
use Rattle.babel_capture.specs.declared.tallies.Origin.{Origin}
use Rattle.babel_capture.specs.Counts.{Counts, Made, all_reasons, counts_of, is_left_for, left_for, lowest, reason_place}
use Rattle.babel_capture.specs.Findings.{Found, passed, untold, left, refused, found}
use Rattle.babel_dump.specs.ByReason.{first_of}
use Rattle.babel_dump.specs.CaptureGiven.{made_in}
use Rattle.babel_dump.specs.FirstLeftOut.{IsLeftFor, NoneIsLeftOut, RefusedIsFirst}
use Rattle.babel_dump.specs.LeftOut.{LeavesNoneOut, first_left_out, left_out_for}
use Rattle.babel_dump.specs.declared.left_out.LeftOutDatagram.{LeftOutDatagram}
use Rattle.babel_dump.proofs.ByReason.{IsLowest, first_none, lowest_is_first, mapped_none, mapped_some, none_counted, none_first, one_place}

placed : (reason : Reason) → slice_get all_reasons (reason_place reason) ≡ Some reason
placed reasons.Truncated = refl
placed reasons.BadMagic = refl
placed reasons.BadVersion = refl
placed reasons.Fragment = refl
placed reasons.Snapped = refl
placed reasons.CutShort = refl
placed reasons.OtherPort = refl
placed reasons.NotLinkLocal = refl

abbrev tests : Reason → Made → Bool
tests reason one = is_left_for reason one.what

passes : (reason : Reason) (one : Made) → IsLeftFor reason one → tests reason one ≡ true
passes reason one (missed, is) = rw is (eq-eqb (reason_place reason) (reason_place reason) refl)

what_is : (reason : Reason) (what : Found) → is_left_for reason what ≡ true → (missed : Option Origin) × (what ≡ left reason missed)
what_is reason (left other missed) is =
    (missed, ap (λ (r : Reason). left r missed) (one_place all_reasons reason_place placed reason other (eqb-true (reason_place other) (reason_place reason) is)))
what_is reason passed is = absurd cc
what_is reason untold is = absurd cc
what_is reason (refused lack) is = absurd cc
what_is reason (found place ends packet has_trailer) is = absurd cc

is_for : (reason : Reason) (one : Made) → tests reason one ≡ true → IsLeftFor reason one
is_for reason one is = what_is reason one.what is

-- ---- by the counts

abbrev datagram_of : ℕ × Reason → LeftOutDatagram
datagram_of first = record { packet = first.0; reason = first.1 }

pub leaves_none : (counts : Counts) → first_left_out counts ≡ None → LeavesNoneOut counts
leaves_none counts e = none_first (left_out_for counts) all_reasons (mapped_none datagram_of (first_of (left_out_for counts) all_reasons) e)

pub none_is_first_left_out : (counts : Counts) → LeavesNoneOut counts → first_left_out counts ≡ None
none_is_first_left_out counts none = rw (first_none (left_out_for counts) all_reasons none) refl

-- ---- the lowest of numbers

lower_one : (a b : ℕ) → (min a b ≡ a) ⊎ (min a b ≡ b)
lower_one a b = elim (cases_order a b) [ inl e ↦ inl (omega (arith, e)) | inr other ↦ elim other [ inl lt ↦ inl (omega (arith, lt)) | inr gt ↦ inr (omega (arith, gt)) ] ]

record IsLow (numbers : List ℕ) (low : ℕ) : Type 0 where
  there : Listed numbers low
  least : (n : ℕ) → Listed numbers n → low ≤ n

low_of : (first : ℕ) (rest : List ℕ) → IsLow (first ∷ rest) (fold min first rest)
low_of first [] = record { there = inl refl; least = λ n t. elim t [ inl same ↦ omega (arith, same) | inr none ↦ elim none [ ] ] }
low_of first (next ∷ rest) = by (fold min (min first next) rest) (low_of (min first next) rest)
  where
    there_too : (low : ℕ) → Listed (min first next ∷ rest) low → Listed (first ∷ next ∷ rest) low
    there_too low (inl same) = elim (lower_one first next) [ inl is ↦ inl (sym is ∙ same) | inr is ↦ inr (inl (sym is ∙ same)) ]
    there_too low (inr later) = inr (inr later)

    least_too : (low n : ℕ) → low ≤ min first next → ((m : ℕ) → Listed (min first next ∷ rest) m → low ≤ m) → Listed (first ∷ next ∷ rest) n → low ≤ n
    least_too low n le all (inl same) = omega (arith, le, same)
    least_too low n le all (inr (inl same)) = omega (arith, le, same)
    least_too low n le all (inr (inr later)) = all n (inr later)

    by : (low : ℕ) → IsLow (min first next ∷ rest) low → IsLow (first ∷ next ∷ rest) low
    by low is = record { there = there_too low is.there; least = λ n. least_too low n (is.least (min first next) (inl refl)) is.least }

low_is : (numbers : List ℕ) (low : ℕ) → lowest numbers ≡ Some low → IsLow numbers low
low_is [] low e = absurd cc
low_is (first ∷ rest) low e = (let same : fold min first rest ≡ low = cc in subst (IsLow (first ∷ rest)) same (low_of first rest))

-- ---- of those that were left out

abbrev number_of : Made → ℕ
number_of one = one.number

numbered : (all : List Made) (n : ℕ) → Listed (map number_of all) n → (one : Made) × Listed all one × (one.number ≡ n)
numbered [] n none = elim none [ ]
numbered (one ∷ all) n (inl same) = (one, inl refl, same)
numbered (one ∷ all) n (inr later) = (let found = numbered all n later in (found.0, inr found.1, found.2))

its_number : (all : List Made) (one : Made) → Listed all one → Listed (map number_of all) one.number
its_number [] one none = elim none [ ]
its_number (first ∷ all) one (inl same) = inl (ap number_of same)
its_number (first ∷ all) one (inr later) = inr (its_number all one later)

module _ (made : List Made) (reason : Reason) where
  abbrev left_out : List Made
  left_out = filter (tests reason) made

  left_there : (one : Made) → Contains made one → IsLeftFor reason one → Listed left_out one
  left_there one c is = filter-Listed (tests reason) made one (Listed-from_Contains made one c) (passes reason one is)

  there_left : (one : Made) → Listed left_out one → Contains made one × IsLeftFor reason one
  there_left one t = (let found = Listed-filter (tests reason) made one t in (Contains-from_Listed made one found.0, is_for reason one found.1))

  low_counted : (n : ℕ) (low : Option ℕ) (count : ℕ × ℕ) → option_map (λ (first : ℕ). (n, first)) low ≡ Some count → low ≡ Some count.1
  low_counted n None count e = absurd cc
  low_counted n (Some first) count e = (let same : (n, first) ≡ count = cc in ap (λ (x : ℕ × ℕ). Some x.1) same)

  lowest_left : (count : ℕ × ℕ) → left_for made reason ≡ Some count → IsLowest number_of (IsLeftFor reason) made count.1
  lowest_left count e =
      let numbers = map number_of left_out in
      let low = low_is numbers count.1 (low_counted (length numbers) (lowest numbers) count e) in
      let found = numbered left_out count.1 low.there in
      let there = there_left found.0 found.1 in
      record {
        one = found.0;
        listed = there.0;
        at = found.2;
        is = there.1;
        lowest = λ other c is. low.least other.number (its_number left_out other (left_there other c is));
      }

  none_left : left_for made reason ≡ None → (one : Made) → Contains made one → IsLeftFor reason one → ⊥
  none_left e one c is = by left_out (left_there one c is) e
    where
      by : (all : List Made) → Listed all one → option_map {U = ℕ × ℕ} (λ (first : ℕ). (length (map number_of all), first)) (lowest (map number_of all)) ≡ None → ⊥
      by [] none e = elim none [ ]
      by (first ∷ all) t e = absurd cc

  left_none : ((one : Made) → Contains made one → IsLeftFor reason one → ⊥) → left_for made reason ≡ None
  left_none none = by left_out (λ one t. let there = there_left one t in none one there.0 there.1)
    where
      by : (all : List Made) → ((one : Made) → Listed all one → ⊥) → option_map {U = ℕ × ℕ} (λ (first : ℕ). (length (map number_of all), first)) (lowest (map number_of all)) ≡ None
      by [] none = refl
      by (first ∷ all) none = absurd (none first (inl refl))

-- ---- the laws

pub none_is_left_out : NoneIsLeftOut
none_is_left_out made = none_counted all_reasons reason_place placed number_of IsLeftFor made (left_for made) (lowest_left made) (none_left made) (left_none made)

pub refused_is_first : RefusedIsFirst
refused_is_first reader datagram gave =
    let made = made_in gave.given in
    let read = gave.given.is_read.is_read in
    lowest_is_first all_reasons reason_place placed number_of IsLeftFor made (left_for made) (lowest_left made) (none_left made) (left_none made)
    (datagram.packet, datagram.reason)
    (mapped_some datagram_of (λ d. (d.packet, d.reason)) (λ first. refl) (first_of (left_out_for (counts_of made)) all_reasons) datagram
    (ap first_left_out (sym read.gathered.report) ∙ gave.first))
