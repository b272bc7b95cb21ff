-- The word is cut at its sign, or before a last `Z`.
use Rattle.std.proofs.Common.{Bor, ◌≡◌, ◌≤◌, ◌<◌, inl, inr, ◌∷◌, ◌++◌, [], ℕ, ℤ, pos, List, Option, Some, None, refl, ap, sym, subst, ◌∙◌, arith, lit<}
use Rattle.std.specs.Prelude.{◌≢◌, MatchOption, neg_ℤ, ◌-ℤ◌}
use Rattle.std.proofs.lemmas.Str.Pattern.{IsSplitOnceResult, split_parts, strip_suffix_char}
use Rattle.std.proofs.lemmas.Int.{ints}
use Rattle.std.proofs.lemmas.List.{append_cancel_right}
use mir.Syntax.{w16}
use mir.Val.{of_z, to_z}
use Rattle.babel_dump.specs.MomentWords.{HoursText, OffsetText}
use Rattle.babel_dump.proofs.WordLaws.{AreIn, append_in, cut, digits_in, not_in, widened}
use Rattle.babel_dump.proofs.time_word.cut_offset.Goals as goal

hours_in : (hours : List ℕ) (minutes : ℕ) → HoursText hours minutes → AreIn 46 58 hours
hours_in hours minutes text =
    subst (AreIn 46 58) (sym text.is) (append_in 46 58 text.hour (58 ∷ text.minute) (digits_in 46 58 text.hour (omega arith) (omega arith) text.clock.hour_is.1)
    ((omega arith, omega arith), digits_in 46 58 text.minute (omega arith) (omega arith) text.clock.minute_is.1))

hours_few : (hours : List ℕ) (minutes : ℕ) → HoursText hours minutes → minutes < 1440
hours_few hours minutes text = omega (arith, text.minutes_are, text.clock.in_day, text.clock.in_hour)

kept : (minutes : ℕ) (z : ℤ) → z ≡ pos minutes → minutes < 1440 → to_z w16 (of_z w16 z) ≡ pos minutes
kept minutes z is few = omega (arith, ints)

turned : (minutes : ℕ) (z : ℤ) → z ≡ pos minutes → minutes < 1440 → to_z w16 (of_z w16 (pos 0 -ℤ to_z w16 (of_z w16 z))) ≡ neg_ℤ (pos minutes)
turned minutes z is few = omega (arith, ints)

module _ (word front zone : List ℕ) (offset : ℤ) (are : AreIn 46 58 front) (e : word ≡ front ++ zone) (its : OffsetText zone offset) where
  -- with a sign, each octet is at least that
  signed : (sign : ℕ) (hours : List ℕ) (minutes : ℕ) → 43 ≤ sign → sign ≤ 46 → HoursText hours minutes → zone ≡ sign ∷ hours → AreIn sign 58 word
  signed sign hours minutes least most text is =
      subst (AreIn sign 58) (sym (e ∙ ap (λ (t : List ℕ). front ++ t) is))
      (append_in sign 58 front (sign ∷ hours) (widened sign 58 front most (omega arith) are) ((omega arith, omega arith), widened sign 58 hours most (omega arith) (hours_in hours minutes text)))

  at_z : (x : List ℕ) → word ≡ x ++ 90 ∷ [] → (x ≡ front) × (pos 0 ≡ offset)
  at_z x is = by its
    where
      by : OffsetText zone offset → (x ≡ front) × (pos 0 ≡ offset)
      by (inl z) = (append_cancel_right x front (90 ∷ []) (sym is ∙ e ∙ ap (λ (t : List ℕ). front ++ t) z.0), sym z.1)
      by (inr (hours, minutes, text, inl plus)) = absurd (not_in 43 58 90 (λ r. omega arith) x [] (subst (AreIn 43 58) is (signed 43 hours minutes (omega arith) (omega arith) text plus.0)))
      by (inr (hours, minutes, text, inr minus)) = absurd (not_in 45 58 90 (λ r. omega arith) x [] (subst (AreIn 45 58) is (signed 45 hours minutes (omega arith) (omega arith) text minus.0)))

  module _ (no_z : (x : List ℕ) → word ≢ x ++ 90 ∷ []) where
    at_plus : (x : Bor (List ℕ) × Bor (List ℕ)) → IsSplitOnceResult 43 word (Some x) → (x.0.now ≡ front) × ((minutes : ℕ) × HoursText x.1.now minutes × (offset ≡ pos minutes))
    at_plus x is = by its
      where
        by : OffsetText zone offset → (x.0.now ≡ front) × ((minutes : ℕ) × HoursText x.1.now minutes × (offset ≡ pos minutes))
        by (inl z) = absurd (no_z front (e ∙ ap (λ (t : List ℕ). front ++ t) z.0))
        by (inr (hours, minutes, text, inl plus)) =
            let split = cut 46 58 43 (λ r. omega arith) (lit< tt) word front are hours (Some x) is (e ∙ ap (λ (t : List ℕ). front ++ t) plus.0) in
            (split.0, (minutes, subst (λ (t : List ℕ). HoursText t minutes) (sym split.1) text, plus.1))
        by (inr (hours, minutes, text, inr minus)) =
            let split = split_parts 43 word (Some x) is (lit< tt) in
            absurd (not_in 45 58 43 (λ r. omega arith) x.0.now x.1.now (subst (AreIn 45 58) split.0 (signed 45 hours minutes (omega arith) (omega arith) text minus.0)))

    at_minus : IsSplitOnceResult 43 word None → (r : Option (Bor (List ℕ) × Bor (List ℕ))) → IsSplitOnceResult 45 word r
        → MatchOption r ⊥ (λ x. (x.0.now ≡ front) × ((minutes : ℕ) × HoursText x.1.now minutes × (offset ≡ neg_ℤ (pos minutes))))
    at_minus no_plus r is = by its
      where
        found : (hours : List ℕ) (minutes : ℕ) → HoursText hours minutes → offset ≡ neg_ℤ (pos minutes) → (r : Option (Bor (List ℕ) × Bor (List ℕ)))
            → MatchOption r ⊥ (λ x. (x.0.now ≡ front) × (x.1.now ≡ hours)) → MatchOption r ⊥ (λ x. (x.0.now ≡ front) × ((minutes : ℕ) × HoursText x.1.now minutes × (offset ≡ neg_ℤ (pos minutes))))
        found hours minutes text o None split = split
        found hours minutes text o (Some x) split = (split.0, (minutes, subst (λ (t : List ℕ). HoursText t minutes) (sym split.1) text, o))

        by : OffsetText zone offset → MatchOption r ⊥ (λ x. (x.0.now ≡ front) × ((minutes : ℕ) × HoursText x.1.now minutes × (offset ≡ neg_ℤ (pos minutes))))
        by (inl z) = absurd (no_z front (e ∙ ap (λ (t : List ℕ). front ++ t) z.0))
        by (inr (hours, minutes, text, inl plus)) = absurd (cut 46 58 43 (λ r. omega arith) (lit< tt) word front are hours None no_plus (e ∙ ap (λ (t : List ℕ). front ++ t) plus.0))
        by (inr (hours, minutes, text, inr minus)) =
            found hours minutes text minus.1 r (cut 46 58 45 (λ r. omega arith) (lit< tt) word front are hours r is (e ∙ ap (λ (t : List ℕ). front ++ t) minus.0))

pub returns-in-Some-clause-reads : goal.returns-in-Some-clause-reads
returns-in-Some-clause-reads c = λ front zone offset are e its.
    at_z c.args.word.now front zone offset are e its c.in-Some.front.now (strip_suffix_char 90 c.args.word.now (Some c.in-Some.front) c.in-Some.ensures.cases (lit< tt))

pub returns-in_err-parse_hours-clause-reads : goal.returns-in_err-parse_hours-clause-reads
returns-in_err-parse_hours-clause-reads c = λ front zone offset are e its.
    let no_z = strip_suffix_char 90 c.args.word.now None c.in_default.ensures.cases (lit< tt) in
    let at = at_plus c.args.word.now front zone offset are e its no_z (c.in-Some-split_once.front, c.in-Some-split_once.hours) c.in-Some-split_once.ensures.cases in
    absurd (let none = c.in_err-parse_hours.ensures.reads at.1.0 at.1.1 in cc)

pub returns-in-Some-split_once-clause-is : goal.returns-in-Some-split_once-clause-is
returns-in-Some-split_once-clause-is c =
    let hours = c.in-Some-split_once.hours.now in
    let read = c.in_ok-parse_hours.ensures.is in (
      43 ∷ hours,
      (split_parts 43 c.args.word.now (Some (c.in-Some-split_once.front, c.in-Some-split_once.hours)) c.in-Some-split_once.ensures.cases (lit< tt)).0,
      inr (hours, read.0, read.1, inl (refl, kept read.0 c.in_ok-parse_hours.field-0 read.2 (hours_few hours read.0 read.1))),
    )

pub returns-in-Some-split_once-clause-reads : goal.returns-in-Some-split_once-clause-reads
returns-in-Some-split_once-clause-reads c = λ front zone offset are e its.
    let no_z = strip_suffix_char 90 c.args.word.now None c.in_default.ensures.cases (lit< tt) in
    let at = at_plus c.args.word.now front zone offset are e its no_z (c.in-Some-split_once.front, c.in-Some-split_once.hours) c.in-Some-split_once.ensures.cases in
    let read = c.in_ok-parse_hours.ensures.reads at.1.0 at.1.1 in
    let is : c.in_ok-parse_hours.field-0 ≡ pos at.1.0 = cc in
    (at.0, kept at.1.0 c.in_ok-parse_hours.field-0 is (hours_few c.in-Some-split_once.hours.now at.1.0 at.1.1) ∙ sym at.1.2)

pub returns-in_err-front-clause-reads : goal.returns-in_err-front-clause-reads
returns-in_err-front-clause-reads c = λ front zone offset are e its.
    let no_z = strip_suffix_char 90 c.args.word.now None c.in_default.ensures.cases (lit< tt) in
    absurd (at_minus c.args.word.now front zone offset are e its no_z c.in_default-split_once.ensures.cases None c.in_err-front.ensures.cases)

pub returns-in_err-parse_hours-2-clause-reads : goal.returns-in_err-parse_hours-2-clause-reads
returns-in_err-parse_hours-2-clause-reads c = λ front zone offset are e its.
    let no_z = strip_suffix_char 90 c.args.word.now None c.in_default.ensures.cases (lit< tt) in
    let at = at_minus c.args.word.now front zone offset are e its no_z c.in_default-split_once.ensures.cases (Some (c.in_ok-front.front, c.in_ok-front.hours)) c.in_ok-front.ensures.cases in
    absurd (let none = c.in_err-parse_hours-2.ensures.reads at.1.0 at.1.1 in cc)

pub returns-clause-is : goal.returns-clause-is
returns-clause-is c =
    let hours = c.in_ok-front.hours.now in
    let read = c.in_ok-parse_hours-2.ensures.is in (
      45 ∷ hours,
      (split_parts 45 c.args.word.now (Some (c.in_ok-front.front, c.in_ok-front.hours)) c.in_ok-front.ensures.cases (lit< tt)).0,
      inr (hours, read.0, read.1, inr (refl, turned read.0 c.in_ok-parse_hours-2.field-0 read.2 (hours_few hours read.0 read.1))),
    )

pub returns-clause-reads : goal.returns-clause-reads
returns-clause-reads c = λ front zone offset are e its.
    let no_z = strip_suffix_char 90 c.args.word.now None c.in_default.ensures.cases (lit< tt) in
    let at = at_minus c.args.word.now front zone offset are e its no_z c.in_default-split_once.ensures.cases (Some (c.in_ok-front.front, c.in_ok-front.hours)) c.in_ok-front.ensures.cases in
    let read = c.in_ok-parse_hours-2.ensures.reads at.1.0 at.1.1 in
    let is : c.in_ok-parse_hours-2.field-0 ≡ pos at.1.0 = cc in
    (at.0, turned at.1.0 c.in_ok-parse_hours-2.field-0 is (hours_few c.in_ok-front.hours.now at.1.0 at.1.1) ∙ sym at.1.2)
