-- The word is cut at its `T`, and what is left before its offset.
use Rattle.std.proofs.Common.{Bor, ◌≡◌, ◌<◌, ◌⊎◌, inl, inr, ◌∷◌, ◌++◌, ℕ, ℤ, pos, List, Some, None, ap, sym, subst, ◌∙◌, arith, lit<}
use Rattle.std.specs.Prelude.{neg_ℤ, ◌+ℤ◌, ◌*ℤ◌}
use Rattle.std.proofs.lemmas.Int.{ints}
use mir.Syntax.{w16, w64}
use mir.Val.{of_z, to_z}
use Rattle.jiff_core.specs.Calendar.{IsEpochDay}
use Rattle.babel_dump.specs.declared.decimal.Decimal.{Decimal}
use Rattle.std.proofs.lemmas.Str.Pattern.{IsSplitOnceResult, split_parts}
use Rattle.babel_dump.specs.Decimals.{FractionText}
use Rattle.babel_dump.specs.MomentWords.{ClockText, DateText, DateTimeText, OffsetText, SecondsText}
use Rattle.babel_dump.proofs.WordLaws.{AreIn, append_in, cut, digits_in}
use Rattle.babel_dump.proofs.time_word.parse_date_time.Goals as goal

date_in : (text : List ℕ) (day : ℤ) → DateText text day → AreIn 45 57 text
date_in text day date =
    subst (AreIn 45 57) (sym date.is) (append_in 45 57 date.year (45 ∷ (date.month ++ 45 ∷ date.date)) (digits_in 45 57 date.year (omega arith) (omega arith) date.year_is.1) (
      (omega arith, omega arith),
      append_in 45 57 date.month (45 ∷ date.date) (digits_in 45 57 date.month (omega arith) (omega arith) date.month_is.1)
          ((omega arith, omega arith), digits_in 45 57 date.date (omega arith) (omega arith) date.date_is.1),
    ))

fraction_in : (text : List ℕ) (units : ℕ) → FractionText 9 text units → AreIn 46 58 text
fraction_in text units (inl none) = subst (AreIn 46 58) (sym none.0) tt
fraction_in text units (inr some) = subst (AreIn 46 58) (sym some.1) ((omega arith, omega arith), digits_in 46 58 some.0 (omega arith) (omega arith) some.2.0.1)

seconds_in : (text : List ℕ) (seconds nanoseconds : ℕ) → SecondsText text seconds nanoseconds → AreIn 46 58 text
seconds_in text seconds nanoseconds (inl none) = subst (AreIn 46 58) (sym none.0) tt
seconds_in text seconds nanoseconds (inr (second, is, its)) =
    subst (AreIn 46 58) (sym (is ∙ ap (λ (t : List ℕ). 58 ∷ t) its.is)) (
      (omega arith, omega arith),
      append_in 46 58 its.second its.fraction (digits_in 46 58 its.second (omega arith) (omega arith) its.second_is.1)
          (fraction_in its.fraction nanoseconds its.nanoseconds_are),
    )

clock_in : (text : List ℕ) (minutes seconds nanoseconds : ℕ) → ClockText text minutes seconds nanoseconds → AreIn 46 58 text
clock_in text minutes seconds nanoseconds clock =
    subst (AreIn 46 58) (sym clock.is) (append_in 46 58 clock.hour (58 ∷ (clock.minute ++ clock.rest)) (digits_in 46 58 clock.hour (omega arith) (omega arith) clock.clock.hour_is.1) (
      (omega arith, omega arith),
      append_in 46 58 clock.minute clock.rest (digits_in 46 58 clock.minute (omega arith) (omega arith) clock.clock.minute_is.1)
          (seconds_in clock.rest seconds nanoseconds clock.seconds_are),
    ))

-- ---- what was read, and what it was passed as

same_some : {T : Type 0} (x y : T) → Some x ≡ Some y → x ≡ y
same_some x y e = cc

no_some : {T P : Type 0} (x : T) → None ≡ Some x → P
no_some x e = absurd cc

same_clock : (p q : ℕ × Decimal) → Some p ≡ Some q → (p.0 ≡ q.0) × (p.1.whole ≡ q.1.whole) × (p.1.units ≡ q.1.units)
same_clock p q e =
    let same : p ≡ q = same_some p q e in
    (ap (λ (r : ℕ × Decimal). r.0) same, ap (λ (r : ℕ × Decimal). r.1.whole) same, ap (λ (r : ℕ × Decimal). r.1.units) same)

offset_fits : (text : List ℕ) (offset : ℤ) → OffsetText text offset → to_z w16 (of_z w16 offset) ≡ offset
offset_fits text offset (inl z) = let is = z.1 in omega (arith, ints)
offset_fits text offset (inr (hours, minutes, its, sign)) = by (omega (arith, its.minutes_are, its.clock.in_day, its.clock.in_hour)) sign
  where
    by : minutes < 1440 → ((text ≡ 43 ∷ hours) × (offset ≡ pos minutes)) ⊎ ((text ≡ 45 ∷ hours) × (offset ≡ neg_ℤ (pos minutes))) → to_z w16 (of_z w16 offset) ≡ offset
    by few (inl plus) = let is = plus.1 in omega (arith, ints)
    by few (inr minus) = let is = minus.1 in omega (arith, ints)

day_fits : (day : ℤ) → IsEpochDay day → to_z w64 (of_z w64 day) ≡ day
day_fits day few = omega (arith, ints)

module _ (word : List ℕ) (time : ℕ) (text : DateTimeText word time) where
  no_t : IsSplitOnceResult 84 word None → ⊥
  no_t is = cut 45 57 84 (λ r. omega arith) (lit< tt) word text.date (date_in text.date text.day text.date_is) (text.clock ++ text.zone) None is text.is

  parts : (x : Bor (List ℕ) × Bor (List ℕ)) → IsSplitOnceResult 84 word (Some x) → (x.0.now ≡ text.date) × (x.1.now ≡ text.clock ++ text.zone)
  parts x is = cut 45 57 84 (λ r. omega arith) (lit< tt) word text.date (date_in text.date text.day text.date_is) (text.clock ++ text.zone) (Some x) is text.is

  in_clock : AreIn 46 58 text.clock
  in_clock = clock_in text.clock text.minutes text.seconds text.nanoseconds text.clock_is

  clock_of : (own : List ℕ) → own ≡ text.clock → ClockText own text.minutes text.seconds text.nanoseconds
  clock_of own e = rw e text.clock_is

  date_of : (own : List ℕ) → own ≡ text.date → DateText own text.day
  date_of own e = rw e text.date_is

  utc_of : (day offset : ℤ) (minutes : ℕ) → IsEpochDay day → (zone : List ℕ) → OffsetText zone offset → Some day ≡ Some text.day → offset ≡ text.offset → minutes ≡ text.minutes
      → (pos text.since +ℤ to_z w16 (of_z w16 offset)) ≡ (to_z w64 (of_z w64 day) *ℤ pos 1440 +ℤ pos minutes)
  utc_of day offset minutes few zone its same_day same_offset same_minutes =
      let one : to_z w64 (of_z w64 day) ≡ text.day = day_fits day few ∙ same_some day text.day same_day in
      let two : to_z w16 (of_z w16 offset) ≡ text.offset = offset_fits zone offset its ∙ same_offset in
      rw (one, two, same_minutes) text.utc

pub returns-in_err-date-clause-reads : goal.returns-in_err-date-clause-reads
returns-in_err-date-clause-reads c = λ time text. absurd (no_t c.args.word.now time text c.in_err-date.ensures.cases)

pub returns-in_err-clock-clause-reads : goal.returns-in_err-clock-clause-reads
returns-in_err-clock-clause-reads c = λ time text.
    let cut = parts c.args.word.now time text (c.in_ok-date.date, c.in_ok-date.rest) c.in_ok-date.ensures.cases in
    absurd (c.in_err-clock.ensures.reads text.clock text.zone text.offset (in_clock c.args.word.now time text) cut.1 text.zone_is)

pub returns-in_err-minutes-clause-reads : goal.returns-in_err-minutes-clause-reads
returns-in_err-minutes-clause-reads c = λ time text.
    let cut = parts c.args.word.now time text (c.in_ok-date.date, c.in_ok-date.rest) c.in_ok-date.ensures.cases in
    let clock = c.in_ok-clock.ensures.reads text.clock text.zone text.offset (in_clock c.args.word.now time text) cut.1 text.zone_is in
    no_some _ (c.in_err-minutes.ensures.reads text.minutes text.seconds text.nanoseconds (clock_of c.args.word.now time text c.in_ok-clock.clock.now clock.0))

pub returns-in_err-parse_day-clause-reads : goal.returns-in_err-parse_day-clause-reads
returns-in_err-parse_day-clause-reads c = λ time text.
    let cut = parts c.args.word.now time text (c.in_ok-date.date, c.in_ok-date.rest) c.in_ok-date.ensures.cases in
    no_some _ (c.in_err-parse_day.ensures.reads text.day (date_of c.args.word.now time text c.in_ok-date.date.now cut.0))

pub returns-in_err-since-clause-reads : goal.returns-in_err-since-clause-reads
returns-in_err-since-clause-reads c = λ time text.
    let cut = parts c.args.word.now time text (c.in_ok-date.date, c.in_ok-date.rest) c.in_ok-date.ensures.cases in
    let clock = c.in_ok-clock.ensures.reads text.clock text.zone text.offset (in_clock c.args.word.now time text) cut.1 text.zone_is in
    let read = c.in_ok-minutes.ensures.reads text.minutes text.seconds text.nanoseconds (clock_of c.args.word.now time text c.in_ok-clock.clock.now clock.0) in
    let agree = same_clock (c.in_ok-minutes.minutes, c.in_ok-minutes.seconds) (text.minutes, record { whole = text.seconds; units = text.nanoseconds }) read in
    let found = c.in_ok-parse_day.ensures.reads text.day (date_of c.args.word.now time text c.in_ok-date.date.now cut.0) in
    let zone = c.in_ok-clock.ensures.is in
    let utc = utc_of c.args.word.now time text c.in_ok-parse_day.field-0 c.in_ok-clock.offset c.in_ok-minutes.minutes c.in_ok-parse_day.ensures.few zone.0 zone.2 found clock.1 agree.0 in
    no_some text.since (c.in_err-since.ensures.reads text.since utc)

pub returns-clause-is : goal.returns-clause-is
returns-clause-is c =
    let zone = c.in_ok-clock.ensures.is in
    let split = (split_parts 84 c.args.word.now (Some (c.in_ok-date.date, c.in_ok-date.rest)) c.in_ok-date.ensures.cases (lit< tt)).0 in
    let day : to_z w64 (of_z w64 c.in_ok-parse_day.field-0) ≡ c.in_ok-parse_day.field-0 = day_fits c.in_ok-parse_day.field-0 c.in_ok-parse_day.ensures.few in
    let offset : to_z w16 (of_z w16 c.in_ok-clock.offset) ≡ c.in_ok-clock.offset = offset_fits zone.0 c.in_ok-clock.offset zone.2 in
    record {
      date = c.in_ok-date.date.now;
      clock = c.in_ok-clock.clock.now;
      zone = zone.0;
      is = split ∙ ap (λ (t : List ℕ). c.in_ok-date.date.now ++ 84 ∷ t) zone.1;
      day = c.in_ok-parse_day.field-0;
      minutes = c.in_ok-minutes.minutes;
      seconds = c.in_ok-minutes.seconds.whole;
      nanoseconds = c.in_ok-minutes.seconds.units;
      offset = c.in_ok-clock.offset;
      date_is = c.in_ok-parse_day.ensures.is;
      clock_is = c.in_ok-minutes.ensures.is;
      zone_is = zone.2;
      since = c.in_ok-since.since;
      utc = rw (day, offset) at c.in_ok-since.ensures.is;
      time_is = c.nanoseconds_of.ensures;
    }

pub returns-clause-reads : goal.returns-clause-reads
returns-clause-reads c = λ time text.
    let cut = parts c.args.word.now time text (c.in_ok-date.date, c.in_ok-date.rest) c.in_ok-date.ensures.cases in
    let clock = c.in_ok-clock.ensures.reads text.clock text.zone text.offset (in_clock c.args.word.now time text) cut.1 text.zone_is in
    let read = c.in_ok-minutes.ensures.reads text.minutes text.seconds text.nanoseconds (clock_of c.args.word.now time text c.in_ok-clock.clock.now clock.0) in
    let agree = same_clock (c.in_ok-minutes.minutes, c.in_ok-minutes.seconds) (text.minutes, record { whole = text.seconds; units = text.nanoseconds }) read in
    let found = c.in_ok-parse_day.ensures.reads text.day (date_of c.args.word.now time text c.in_ok-date.date.now cut.0) in
    let zone = c.in_ok-clock.ensures.is in
    let utc = utc_of c.args.word.now time text c.in_ok-parse_day.field-0 c.in_ok-clock.offset c.in_ok-minutes.minutes c.in_ok-parse_day.ensures.few zone.0 zone.2 found clock.1 agree.0 in
    let since : c.in_ok-since.since ≡ text.since = same_some c.in_ok-since.since text.since (c.in_ok-since.ensures.reads text.since utc) in
    let seconds : c.in_ok-minutes.seconds.whole ≡ text.seconds = agree.1 in
    let nanoseconds : c.in_ok-minutes.seconds.units ≡ text.nanoseconds = agree.2 in
    ap (λ (t : ℕ). Some t) (c.nanoseconds_of.ensures ∙ (rw (since, seconds, nanoseconds) (sym text.time_is)))
