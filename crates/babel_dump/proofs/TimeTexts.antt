-- The date of a day is the stated one.
use Rattle.std.proofs.Common.{◌≡◌, ℕ, zero, suc, ◌+◌, ◌-◌, ◌<◌, ◌≤◌, Bool, true, false, refl, sym, ap, ◌∙◌, subst, arith, ℤ, pos, negsuc, ◌+ℤ◌, ◌≤ℤ◌, neg_ℤ, of_z, to_z, unsigned_abs}
use Rattle.std.specs.Prelude.{nat_le}
use Rattle.std.proofs.lemmas.Bool.Decides.{nat_tests}
use Rattle.std.proofs.lemmas.Int.{by_lt_z}
use Rattle.jiff_core.specs.Calendar.{IsCivilDate, day_count, days_from_civil}
use Rattle.jiff_core.specs.Date.{epoch_day}
use Rattle.jiff_core.specs.declared.civil.date.Date.{Date}
use Rattle.jiff_core.proofs.CalendarLemmas.{day_count-day, day_count-day_of_year, day_count-epoch, day_count-lt_month, day_count-lt_year, days_from_civil-day_count, days_in_month_bounds}
use Rattle.jiff_core.proofs.DateLemmas.{civil}
use Rattle.jiff_core.proofs.SignedLemmas.{back_small, signed_arith}
use Rattle.std.specs.Int.{w16}
use borrow.Author.Differences.{down, up}
use Rattle.babel_dump.specs.TimeText.{begun, day_of_month, first_day, month_of, year_of}

-- ---- counting what has begun

module _ (first : ℕ → ℕ) (day k most : ℕ) (before : (n : ℕ) → n < k → first n ≤ day) (after : (n : ℕ) → k ≤ n → n < most → day < first n) where
  begun-before : (n : ℕ) → n ≤ k → begun first n day ≡ n
  unfolding begun
  begun-before zero few = refl
  begun-before (suc n) few =
      let has : nat_le (first n) day ≡ true = (let earlier = before n (omega (arith, few)) in grind (arith, nat_tests)) in
      let rest = begun-before n (omega (arith, few)) in
      rw has (omega (arith, rest))

  begun-more : (n : ℕ) (b : Bool) → nat_le k n ≡ b → (k ≤ n → begun first n day ≡ k) → suc n ≤ most → k ≤ suc n → begun first (suc n) day ≡ k
  unfolding begun
  begun-more n true is earlier few all =
      let later : k ≤ n = grind (arith, nat_tests) in
      let not : nat_le (first n) day ≡ false = (let late = after n later (omega (arith, few)) in grind (arith, nat_tests)) in
      let rest = earlier later in
      rw not (omega (arith, rest))
  begun-more n false is earlier few all =
      let fewer : n < k = grind (arith, nat_tests) in
      let same : suc n ≡ k = omega (arith, fewer, all) in
      begun-before (suc n) (omega (arith, same)) ∙ same

  pub begun-all : (n : ℕ) → n ≤ most → k ≤ n → begun first n day ≡ k
  unfolding begun
  begun-all zero few all = omega (arith, all)
  begun-all (suc n) few all = begun-more n (nat_le k n) refl (λ later. begun-all n (omega (arith, few)) later) few all

-- ---- days after 1 January 1970

-- no day of a year comes before its first
in_year : (y : ℤ) (m d : ℕ) → 1 ≤ d → day_count y 1 1 ≤ day_count y m d
in_year y m d some = omega (arith, day_count-day_of_year y m d some)

civil_first : (y m : ℕ) → 1970 ≤ y → y ≤ 9999 → 1 ≤ m → m ≤ 12 → IsCivilDate (pos y) m 1
civil_first y m low high some few =
    ((omega (arith, signed_arith, low), omega (arith, signed_arith, high)), (some, few), (omega arith, omega (arith, (days_in_month_bounds (pos y) m).1)))

from_epoch : (y m : ℕ) → 1970 ≤ y → y ≤ 9999 → 1 ≤ m → m ≤ 12 → 4371953 ≤ day_count (pos y) m 1
from_epoch y m low high some few = by_lt_z (pos 1970) (pos y)
    (λ earlier. omega (arith, day_count-epoch, day_count-lt_year (pos 1970) 1 1 (pos y) m 1 (civil_first 1970 1 (omega arith) (omega arith) (omega arith) (omega arith)) (omega arith) earlier))
    (λ no. let same : pos y ≡ pos 1970 = ap pos (omega (arith, signed_arith, no, low)) in
    rw same (omega (arith, day_count-epoch, in_year (pos 1970) m 1 (omega arith))))

from_difference : (z : ℤ) (n : ℕ) → up z + 4371953 ≡ down z + n → 4371953 ≤ n → unsigned_abs z + 4371953 ≡ n
from_difference (pos m) n is later = omega (arith, signed_arith, is)
from_difference (negsuc m) n is later = absurd (omega (arith, signed_arith, is, later))

first_count : (y m : ℕ) → 1970 ≤ y → y ≤ 9999 → 1 ≤ m → m ≤ 12 → first_day y m + 4371953 ≡ day_count (pos y) m 1
first_count y m low high some few =
    from_difference (days_from_civil (pos y) m 1) (day_count (pos y) m 1) (days_from_civil-day_count (pos y) m 1) (from_epoch y m low high some few)

-- ---- the date of a day

module _ (d : Date) (day y : ℕ) (is : epoch_day d ≡ pos day) (is_y : d.year ≡ pos y) (low : 1970 ≤ y) (high : y ≤ 9999) where
  count : day_count (pos y) d.month d.day ≡ day + 4371953
  count = ap (λ (z : ℤ). day_count z d.month d.day) (sym is_y) ∙ omega (arith, signed_arith, is, days_from_civil-day_count d.year d.month d.day)

  is_civil : IsCivilDate (pos y) d.month d.day
  is_civil = subst (λ (z : ℤ). IsCivilDate z d.month d.day) is_y (civil d)

  year_begun : (n : ℕ) → n < y - 1970 → first_day (1971 + n) 1 ≤ day
  year_begun n few = by_lt_z (pos (1971 + n)) (pos y)
      (λ earlier. omega (
        arith,
        count,
        first,
        day_count-lt_year (pos (1971 + n)) 1 1 (pos y) d.month d.day (civil_first (1971 + n) 1 (omega arith) (omega (arith, few, high)) (omega arith) (omega arith))
            is_civil.2.0 earlier,
      ))
      (λ no. let same : 1971 + n ≡ y = omega (arith, signed_arith, no, few) in
      omega (arith, count, first, in_year (pos y) d.month d.day is_civil.2.0, ap (λ (z : ℕ). day_count (pos z) 1 1) same))
    where
      first : first_day (1971 + n) 1 + 4371953 ≡ day_count (pos (1971 + n)) 1 1
      first = first_count (1971 + n) 1 (omega arith) (omega (arith, few, high)) (omega arith) (omega arith)

  year_not_begun : (n : ℕ) → y - 1970 ≤ n → n < 8029 → day < first_day (1971 + n) 1
  year_not_begun n more few =
      let later = day_count-lt_year (pos y) d.month d.day (pos (1971 + n)) 1 1 is_civil (omega arith) (omega (arith, signed_arith, more, low)) in
      omega (arith, count, later, first_count (1971 + n) 1 (omega arith) (omega (arith, few)) (omega arith) (omega arith))

  pub is_year : y ≡ year_of day
  is_year = (let all = begun-all (λ (n : ℕ). first_day (1971 + n) 1) day (y - 1970) 8029 year_begun year_not_begun 8029 (omega arith) (omega (arith, high)) in omega (arith, low, all))

  month_begun : (n : ℕ) → n < d.month - 1 → first_day y (2 + n) ≤ day
  month_begun n few = by_lt_z (pos (2 + n)) (pos d.month)
      (λ earlier. omega (
        arith,
        count,
        first,
        day_count-lt_month (pos y) (2 + n) 1 d.month d.day (civil_first y (2 + n) low high (omega arith) (omega (arith, few, is_civil.1.1)))
            is_civil.2.0 (omega (arith, signed_arith, earlier)),
      ))
      (λ no. let same : 2 + n ≡ d.month = omega (arith, signed_arith, no, few) in
      omega (arith, count, first, is_civil.2.0, day_count-day (pos y) d.month 1 d.day (omega arith) is_civil.2.0, ap (λ (m : ℕ). day_count (pos y) m 1) same))
    where
      first : first_day y (2 + n) + 4371953 ≡ day_count (pos y) (2 + n) 1
      first = first_count y (2 + n) low high (omega arith) (omega (arith, few, is_civil.1.1))

  month_not_begun : (n : ℕ) → d.month - 1 ≤ n → n < 11 → day < first_day y (2 + n)
  month_not_begun n more few =
      let later = day_count-lt_month (pos y) d.month d.day (2 + n) 1 is_civil (omega arith) (omega (arith, more, is_civil.1.0)) in
      omega (arith, count, later, first_count y (2 + n) low high (omega arith) (omega (arith, few)))

  month_in : d.month ≡ 1 + begun (λ (n : ℕ). first_day y (2 + n)) 11 day
  month_in =
      let all = begun-all (λ (n : ℕ). first_day y (2 + n)) day (d.month - 1) 11 month_begun month_not_begun 11 (omega arith) (omega (arith, is_civil.1.1)) in
      omega (arith, all, is_civil.1.0)

  pub is_month : d.month ≡ month_of day
  is_month = month_in ∙ ap (λ (z : ℕ). 1 + begun (λ (n : ℕ). first_day z (2 + n)) 11 day) is_year

  day_in : d.day ≡ day - first_day y d.month + 1
  day_in = omega (arith, count, is_civil.2.0, day_count-day (pos y) d.month 1 d.day (omega arith) is_civil.2.0, first_count y d.month low high is_civil.1.0 is_civil.1.1)

  pub is_day : d.day ≡ day_of_month day
  is_day = day_in ∙ ap (λ (z : ℕ). day - first_day z d.month + 1) is_year ∙ ap (λ (m : ℕ). day - first_day (year_of day) m + 1) is_month

in_years : (z : ℤ) → pos 1970 ≤ℤ z → z ≤ℤ pos 9999 → (z ≡ pos (unsigned_abs z)) × (1970 ≤ unsigned_abs z) × (unsigned_abs z ≤ 9999)
in_years (pos n) low high = (refl, omega (arith, signed_arith, low), omega (arith, signed_arith, high))
in_years (negsuc n) low high = absurd (omega (arith, signed_arith, low))

-- from its number on
dated : (d : Date) (day : ℕ) → epoch_day d ≡ pos day → (unsigned_abs d.year ≡ year_of day) × (d.month ≡ month_of day) × (d.day ≡ day_of_month day)
dated d day is =
    let low : pos 1970 ≤ℤ d.year = by_lt_z d.year (pos 1970)
    (λ earlier. let less = day_count-lt_year d.year d.month d.day (pos 1970) 1 1 (civil d) (omega arith) earlier in
    absurd (omega (arith, signed_arith, is, less, day_count-epoch, days_from_civil-day_count d.year d.month d.day)))
    (λ no. no) in
    let y = unsigned_abs d.year in
    let are = in_years d.year low d.year_in.1 in
    (is_year d day y is are.0 are.1 are.2, is_month d day y is are.0 are.1 are.2, is_day d day y is are.0 are.1 are.2)

-- as the date's call says it, by the first date of the calendar
module _ (d : Date) (day : ℕ) (is : epoch_day d +ℤ pos 4371587 ≡ pos (day + 4371587)) where
  from_epoch_is : epoch_day d ≡ pos day
  from_epoch_is = omega (arith, signed_arith, is)

  pub year_by : unsigned_abs d.year ≡ year_of day
  year_by = (dated d day from_epoch_is).0

  pub month_by : d.month ≡ month_of day
  month_by = (dated d day from_epoch_is).1

  pub day_by : d.day ≡ day_of_month day
  day_by = (dated d day from_epoch_is).2

-- the year is read from its bits
from_bits : (z : ℤ) → neg_ℤ (pos 9999) ≤ℤ z → z ≤ℤ pos 9999 → to_z w16 (of_z w16 z) ≡ z
from_bits (pos n) low high = back_small w16 (pos n) (omega (arith, signed_arith, high))
from_bits (negsuc n) low high = back_small w16 (negsuc n) (omega (arith, signed_arith, low))

pub year_back : (d : Date) → to_z w16 (of_z w16 d.year) ≡ d.year
year_back d = from_bits d.year d.year_in.0 d.year_in.1
