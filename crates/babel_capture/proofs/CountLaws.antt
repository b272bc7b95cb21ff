-- The counts of packets and one more.
use Rattle.std.proofs.Common.{◌≡◌, ℕ, ◌+◌, Bool, cond, List, [], ◌∷◌, ◌++◌, map, true, false, not, Option, Some, None, refl, ap, ◌∙◌, arith}
use Rattle.std.specs.Prelude.{count_by, fold, length, min}
use Rattle.std.specs.List.{filter}
use Rattle.std.specs.Option.{option_map}
use Rattle.std.proofs.lemmas.List.{append-nil, length-append, map-append}
use Rattle.std.proofs.lemmas.List.Elements.{filter-append}
use Rattle.std.proofs.lemmas.List.Sums.{fold-append}
use Rattle.babel_prefix.proofs.Counted.{count-push, map-same}
use Rattle.babel_capture.specs.declared.link.Link.{Link}
use Rattle.babel_capture.specs.declared.reason.Reason.{Reason}
use Rattle.babel_capture.specs.declared.reason.Reason.TheVariants as reasons
use Rattle.babel_capture.specs.Findings.{Found, passed, untold, left, refused, found}
use Rattle.babel_capture.specs.declared.sections.Sections.{Sections}
use Rattle.babel_capture.specs.declared.tallies.Origin.{Origin}
use Rattle.babel_capture.specs.declared.timing.Timing.{Timing}
use Rattle.babel_capture.specs.Counts.{Made, Counts, all_reasons, is_left_for, left_for, lowest, is_short, is_cooked, is_cooked_link, has_trailer, interval_found, is_packet, sections_of, timing_of, counts_of}
use Rattle.babel_capture.specs.Counting.{one_more, left_with, counted, counted_at, counted_missing}
use Rattle.babel_capture.specs.Gathering.{IsUncounted}
use Rattle.babel_capture.specs.Sections.{no_sections, sectioned}
use Rattle.babel_capture.specs.Times.{Came, missing}
use Rattle.babel_capture.specs.Timing.{greatest, no_times, timed}
use Rattle.babel_capture.specs.Updates.{interval_in}

abbrev Count : Type 0
Count = Option (ℕ × ℕ)

abbrev bumped : Bool → ℕ → Count → Count
bumped b at old = cond b (one_more at old) old

-- one more datagram left out changes the place of its reason
set_one : (f : Reason → Count) (at : ℕ) (reason : Reason) (missed : Option Origin) → map (λ (r : Reason). bumped (is_left_for r (left reason missed)) at (f r)) all_reasons ≡ left_with (map f all_reasons) (Some reason) at
set_one f at reasons.Truncated missed = refl
set_one f at reasons.BadMagic missed = refl
set_one f at reasons.BadVersion missed = refl
set_one f at reasons.Fragment missed = refl
set_one f at reasons.Snapped missed = refl
set_one f at reasons.CutShort missed = refl
set_one f at reasons.OtherPort missed = refl
set_one f at reasons.NotLinkLocal missed = refl

-- why a datagram is left out, if it is
abbrev reason_of : Found → Option Reason
reason_of passed = None
reason_of untold = None
reason_of (left reason missed) = Some reason
reason_of (refused lack) = None
reason_of (found place ends packet has_trailer) = None

by_found : (f : Reason → Count) (at : ℕ) (what : Found) → map (λ (r : Reason). bumped (is_left_for r what) at (f r)) all_reasons ≡ left_with (map f all_reasons) (reason_of what) at
by_found f at passed = refl
by_found f at untold = refl
by_found f at (left reason missed) = set_one f at reason missed
by_found f at (refused lack) = refl
by_found f at (found place ends packet has_trailer) = refl

-- what is counted whatever is made of a packet
record Told : Type 0 where
  timing : Timing
  sections : Sections

abbrev told_in : Counts → Told
told_in counted = record { timing = counted.timing; sections = counted.sections }

abbrev counts : ℕ → ℕ → List Count → ℕ → ℕ → ℕ → Told → Option ℕ → Counts
counts packets lost left_out short cooked trailers told interval = record {
  packets = packets;
  missing = lost;
  left_out = left_out;
  short = short;
  cooked = cooked;
  trailers = trailers;
  sections = told.sections;
  timing = told.timing;
  interval = interval;
}

nothing_more : (n : ℕ) → n + 0 ≡ n
nothing_more n = omega arith

no_interval : (interval : Option ℕ) → greatest interval None ≡ interval
no_interval None = refl
no_interval (Some one) = refl

-- what does not change, of the counts of so many packets
module _ (old : Counts) (packets lost : ℕ) where
  abbrev more : List Count → ℕ → ℕ → ℕ → Option ℕ → Counts
  more left_out short cooked trailers interval = counts packets lost left_out short cooked trailers (told_in old) interval

  unfound : (left_out : List Count) (short : ℕ) → more left_out short (old.cooked + 0) (old.trailers + 0) (greatest old.interval None) ≡ more left_out short old.cooked old.trailers old.interval
  unfound left_out short =
      ap (λ (n : ℕ). more left_out short n (old.trailers + 0) (greatest old.interval None)) (nothing_more old.cooked)
      ∙ ap (λ (n : ℕ). more left_out short old.cooked n (greatest old.interval None)) (nothing_more old.trailers)
      ∙ ap (more left_out short old.cooked old.trailers) (no_interval old.interval)

  left_so : (left_out : List Count)
      → more left_out (old.short + 0) (old.cooked + 0) (old.trailers + 0) (greatest old.interval None) ≡ more left_out old.short old.cooked old.trailers old.interval
  left_so left_out =
      ap (λ (n : ℕ). more left_out n (old.cooked + 0) (old.trailers + 0) (greatest old.interval None)) (nothing_more old.short)
      ∙ unfound left_out old.short

  -- all that is counted by what is made of one more, with this number
  abbrev with_what : Link → Found → ℕ → Counts
  with_what link what number = more (left_with old.left_out (reason_of what) number) (old.short + cond (is_short what) 1 0) (old.cooked + cond (is_cooked link what) 1 0)
      (old.trailers + cond (has_trailer what) 1 0) (greatest old.interval (interval_found what))

-- the counts with one more, by what is made of it
by_what : (old : Counts) (link : Link) (what : Found) → with_what old (old.packets + 1) old.missing link what (old.packets + 1) ≡ counted old link what
by_what old link passed = left_so old (old.packets + 1) old.missing old.left_out
by_what old link untold = unfound old (old.packets + 1) old.missing old.left_out (old.short + 1)
by_what old link (left reason missed) = left_so old (old.packets + 1) old.missing (left_with old.left_out (Some reason) (old.packets + 1))
by_what old link (refused lack) = left_so old (old.packets + 1) old.missing old.left_out
by_what old link (found place ends packet has_trailer) =
    ap (λ (n : ℕ). more old (old.packets + 1) old.missing old.left_out n (old.cooked + cond (is_cooked_link link) 1 0) (old.trailers + cond has_trailer 1 0) (greatest old.interval (interval_in packet)))
    (nothing_more old.short)

-- and by what is made of a datagram of which fragments are missing
by_missing : (old : Counts) (number : ℕ) (link : Link) (what : Found) → IsUncounted what → with_what old old.packets (old.missing + 1) link what number ≡ counted_missing old number what
by_missing old number link passed is = left_so old old.packets (old.missing + 1) old.left_out
by_missing old number link (left reason missed) is = left_so old old.packets (old.missing + 1) (left_with old.left_out (Some reason) number)
by_missing old number link untold is = absurd is
by_missing old number link (refused lack) is = absurd is
by_missing old number link (found place ends packet has_trailer) is = absurd is

-- how many numbers there are and the lowest, and one more
abbrev of_numbers : List ℕ → Count
of_numbers numbers = option_map (λ (first : ℕ). (length numbers, first)) (lowest numbers)

one_number : (numbers : List ℕ) (number : ℕ) → of_numbers (numbers ++ number ∷ []) ≡ one_more number (of_numbers numbers)
one_number [] number = refl
one_number (first ∷ rest) number =
    ap (λ (low : ℕ). Some (length ((first ∷ rest) ++ number ∷ []), low)) (fold-append min first rest (number ∷ []))
    ∙ ap (λ (n : ℕ). Some (n, min (fold min first rest) number)) (length-append (first ∷ rest) (number ∷ []))

abbrev number_of : Made → ℕ
number_of one = one.number

left_one : (made : List Made) (one : Made) (reason : Reason) → left_for (made ++ one ∷ []) reason ≡ bumped (is_left_for reason one.what) one.number (left_for made reason)
left_one made one reason =
    ap (λ (ms : List Made). of_numbers (map number_of ms)) (filter-append (λ (m : Made). is_left_for reason m.what) made (one ∷ [])) ∙ by (is_left_for reason one.what)
  where
    before : List Made
    before = filter (λ (m : Made). is_left_for reason m.what) made

    by : (b : Bool) → of_numbers (map number_of (before ++ cond b (one ∷ []) [])) ≡ bumped b one.number (of_numbers (map number_of before))
    by true = ap of_numbers (map-append number_of before (one ∷ [])) ∙ one_number (map number_of before) one.number
    by false = ap (λ (ms : List Made). of_numbers (map number_of ms)) (append-nil before)

-- what is counted of one more, whatever it is
module _ (made : List Made) (one : Made) where
  abbrev all : List Made
  all = made ++ one ∷ []

  left_more : map (left_for all) all_reasons ≡ left_with (map (left_for made) all_reasons) (reason_of one.what) one.number
  left_more =
      map-same (left_for all) (λ r. bumped (is_left_for r one.what) one.number (left_for made r)) (left_one made one) all_reasons
      ∙ by_found (left_for made) one.number one.what

  packets_more : count_by (λ (m : Made). is_packet m.came) all ≡ count_by (λ (m : Made). is_packet m.came) made + cond (is_packet one.came) 1 0
  packets_more = count-push (λ (m : Made). is_packet m.came) made one

  missing_more : count_by (λ (m : Made). not (is_packet m.came)) all ≡ count_by (λ (m : Made). not (is_packet m.came)) made + cond (not (is_packet one.came)) 1 0
  missing_more = count-push (λ (m : Made). not (is_packet m.came)) made one

  pub counts-push : is_packet one.came ≡ true → one.number ≡ (counts_of made).packets + 1 → counts_of all ≡ counted (counted_at (counts_of made) one.came) one.link one.what
  counts-push packet is =
      let packets = packets_more ∙ ap (λ (b : Bool). (counts_of made).packets + cond b 1 0) packet in
      let lost = missing_more ∙ ap (λ (b : Bool). (counts_of made).missing + cond (not b) 1 0) packet ∙ nothing_more (counts_of made).missing in
      let left_out = left_more ∙ ap (λ (n : ℕ). left_with (map (left_for made) all_reasons) (reason_of one.what) n) is in
      let short = count-push (λ (m : Made). is_short m.what) made one in
      let cooked = count-push (λ (m : Made). is_cooked m.link m.what) made one in
      let trailers = count-push (λ (m : Made). has_trailer m.what) made one in
      let sections = fold-append (λ (s : Sections) (m : Made). sectioned s m.came) no_sections made (one ∷ []) in
      let timing = fold-append (λ (t : Timing) (m : Made). timed t m.number m.came) no_times made (one ∷ []) ∙ ap (λ (n : ℕ). timed (timing_of made) n one.came) is in
      let interval = fold-append (λ (i : Option ℕ) (m : Made). greatest i (interval_found m.what)) None made (one ∷ []) in
      let old = counted_at (counts_of made) one.came in
      let same : counts_of all ≡ with_what old (old.packets + 1) old.missing one.link one.what (old.packets + 1) = cc in
      same ∙ by_what old one.link one.what

  pub counts-missing : one.came ≡ missing → IsUncounted one.what → counts_of all ≡ counted_missing (counts_of made) one.number one.what
  counts-missing came uncounted =
      let packets = packets_more ∙ ap (λ (c : Came). (counts_of made).packets + cond (is_packet c) 1 0) came ∙ nothing_more (counts_of made).packets in
      let lost = missing_more ∙ ap (λ (c : Came). (counts_of made).missing + cond (not (is_packet c)) 1 0) came in
      let left_out = left_more in
      let short = count-push (λ (m : Made). is_short m.what) made one in
      let cooked = count-push (λ (m : Made). is_cooked m.link m.what) made one in
      let trailers = count-push (λ (m : Made). has_trailer m.what) made one in
      let sections = fold-append (λ (s : Sections) (m : Made). sectioned s m.came) no_sections made (one ∷ []) ∙ ap (sectioned (sections_of made)) came in
      let timing = fold-append (λ (t : Timing) (m : Made). timed t m.number m.came) no_times made (one ∷ []) ∙ ap (timed (timing_of made) one.number) came in
      let interval = fold-append (λ (i : Option ℕ) (m : Made). greatest i (interval_found m.what)) None made (one ∷ []) in
      let old = counts_of made in
      let same : counts_of all ≡ with_what old old.packets (old.missing + 1) one.link one.what one.number = cc in
      same ∙ by_missing old one.number one.link one.what uncounted
